use Rattle.std.proofs.Common.{inl, inr, sym, ◌∙◌, ap, subst}
use Rattle.wm_callers_program.proofs.CallEnds.{callers-ended, failed-later}
use Rattle.wm_callers_program.specs.Ending.{IsHandedOver}
use Rattle.wm_faults.specs.Faults.{Failed}
use Rattle.wm_live.specs.StandState.{StandState}
use Rattle.wm_ended.specs.Tells.{tells_of}
use Rattle.wm_callers_program.proofs.program.end_called.Goals as goal

pub end_table-requires-clause-calls : goal.end_table-requires-clause-calls
end_table-requires-clause-calls g c =
    let gone_on = c.settle-at_last.ensures.gone_on in
    record {
      calls = c.args.called.end.table.log;
      drain = gone_on.events;
      log_is = ap (λ (s : StandState g.row.K.Denot g.row.B.Denot). s.table.log) c.stand.view_is ∙ gone_on.appended;
      of_desk = c.requires.alone;
      silent = gone_on.silent;
    }

pub returns : goal.returns
returns g c = λ lines called.
    let tells = tells_of g.K.Keeper.store g.W.Sink.given g.W.Sink.faults g.B.Worker.kind_of g.B.Worker.diary_of in
    let run = g.M.Mark.inputs in
    let before_drain = c.args.called.end.table in
    let table = c.settle-at_last.new.stand.table in
    let settled = c.settle-at_last.ensures in
    callers-ended tells run c.args.count lines c.args.called.end.callers.items before_drain.log settled.gone_on.events c.args.called.refused c.settle-at_last.result
    run.store.faults (g.K.Keeper.store before_drain.keeper).faults table c.args.sink c.end_table.result called settled.gone_on.appended settled.gone_on.silent
    settled.quiet
    (λ is. elim (settled.fault is) [
      | inl both ↦ subst (λ keeper. Failed run.store.faults (g.K.Keeper.store keeper).faults) (sym both.1) (called.fault both.0)
      | inr failed ↦
          failed-later run.store.faults (g.K.Keeper.store before_drain.keeper).faults (g.K.Keeper.store table.keeper).faults called.later failed
    ])
    c.requires.sink c.requires.sink_faults
    (subst (λ (s : StandState g.row.K.Denot g.row.B.Denot). IsHandedOver tells run c.settle-at_last.result s.table c.args.sink c.end_table.result)
    c.stand.view_is c.end_table.ensures)
