use Rattle.std.proofs.Common.{subst}
use Rattle.wm_callers_program.specs.Calls.{IsCalledOut}
use Rattle.wm_callers_program.specs.Lines.{lines_of}
use Rattle.wm_callers_program.proofs.program.call_script.Goals as goal

pub returns-in-Ok : goal.returns-in-Ok
returns-in-Ok g c =
    let called = c.in-Ok.called in
    c.end_called.ensures (lines_of c.args.commands)
    (subst (λ n. IsCalledOut c.args.count (lines_of c.args.commands) called.refused called.end.callers.items called.end.table.log n (g.K.Keeper.store called.end.table.keeper).faults)
    c.requires.no_fault c.in-Ok.ensures.called)

pub returns-in-Err : goal.returns-in-Err
returns-in-Err g c = c.end_uncalled.ensures c.args.count (lines_of c.args.commands)
