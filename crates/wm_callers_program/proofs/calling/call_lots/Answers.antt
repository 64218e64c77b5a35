use Rattle.std.proofs.Common.{ap, subst}
use Rattle.wm_callers.specs.Inputs.{DeskInputs}
use Rattle.wm_callers_program.specs.Calls.{IsCalledOut}
use Rattle.wm_callers_program.proofs.calling.call_lots.Goals as goal

pub returns-in-Ok-clause-called : goal.returns-in-Ok-clause-called
returns-in-Ok-clause-called g c = λ lines dealt.
    let called = c.call_at.result in
    subst (λ n. IsCalledOut c.args.count lines called.refused called.end.callers.items called.end.table.log n (g.K.Keeper.store called.end.table.keeper).faults)
    (ap (λ (desk : DeskInputs). desk.faults) c.requires.inputs) (c.call_at.ensures.called lines dealt)
