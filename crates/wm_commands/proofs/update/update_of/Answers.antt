use Rattle.std.proofs.Common.{◌≡◌, rules, sym, subst}
use Rattle.wm_commands.proofs.Updating.{FitsRow-updated}
use Rattle.wm_machine.specs.Limits.{FitsRow}
use Rattle.wm_machine.specs.Updated.{updated}
use Rattle.wm_commands.proofs.update.update_of.Goals as goal

pub replacing-requires-clause-changed : goal.replacing-requires-clause-changed
replacing-requires-clause-changed c =
    let work = c.args.work.now in
    let request = c.args.request in
    let is : c.in_ok-changed.changed ≡ updated request work = search rules in
    subst FitsRow (sym is) (FitsRow-updated request work c.next-next.ensures.within c.requires)
