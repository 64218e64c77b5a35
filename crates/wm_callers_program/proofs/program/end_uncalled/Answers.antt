use Rattle.std.proofs.Common.{[], Some, refl}
use Rattle.wm_callers_program.proofs.CallEnds.{callers-ended, none-called}
use Rattle.wm_ended.specs.Tells.{tells_of}
use Rattle.wm_engine.specs.declared.trouble.Trouble.TheVariants as trouble
use Rattle.wm_callers_program.proofs.program.end_uncalled.Goals as goal

pub end_table-ended-requires-clause-calls : goal.end_table-ended-requires-clause-calls
end_table-ended-requires-clause-calls g c = record { calls = []; drain = []; log_is = c.requires.empty; of_desk = tt; silent = refl }

pub returns : goal.returns
returns g c = λ count lines.
    let tells = tells_of g.K.Keeper.store g.W.Sink.given g.W.Sink.faults g.B.Worker.kind_of g.B.Worker.diary_of in
    let run = g.M.Mark.inputs in
    rw (c.uncalled.ensures.ended, c.uncalled.ensures.callers)
    (callers-ended tells run count lines [] [] [] (Some trouble.Memory) (Some trouble.Memory) run.store.faults run.store.faults c.args.table c.args.sink
    c.end_table-ended.result
    (none-called count run.store.faults lines) c.requires.empty refl (λ none. absurd cc) (λ is. absurd cc) c.requires.sink c.requires.sink_faults
    c.end_table-ended.ensures)
