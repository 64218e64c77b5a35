use Rattle.std.proofs.Common.{◌==◌}
use Rattle.wm_collections.proofs.Lists.{All-find}
use Rattle.wm_machine.specs.Valid.{IsRecord}
use Rattle.wm_machine.specs.declared.record.Record.{Record}
use Rattle.wm_steps.proofs.Views.{reached-view}
use Rattle.wm_settings.proofs.answering.add_told.Goals as goal

pub info-requires : goal.info-requires
info-requires c =
    let s = c.args.view.now in
    let work = c.args.work.now in
    let records = (reached-view _ s _ c.view.view_is c.view.invariant).works.records in
    record { «record» = All-find IsRecord (λ (w : Record). w.seq == work.seq) s.works work c.requires records }
