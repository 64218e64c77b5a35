use Rattle.std.proofs.Common.{ap, ◌∙◌}
use Rattle.wm_collections.proofs.Lists.{last_of-push}
use Rattle.wm_collections.specs.Lists.{last_of}
use Rattle.wm_machine.specs.declared.event.Event.TheVariants as event
use Rattle.wm_seating.proofs.steps.execute.Goals as goal

pub returns-clause-places : goal.returns-clause-places
returns-clause-places g c =
    let done = c.in_ok-execute.ensures.ok in
    let e = event.Command c.args.line c.args.command done.0 in
    c.retire_last.ensures c.args.line c.args.command done.0 (ap last_of done.1.appended ∙ last_of-push c.args.table.now.log e)
