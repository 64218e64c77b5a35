use Rattle.std.proofs.Common.{Some}
use Rattle.wm_leases.specs.Ends.{has_end}
use Rattle.wm_leases.proofs.Lists.{kept-moved, sorted-ascends}
use Rattle.wm_leases.proofs.terms.add_term.Goals as goal

pub returns-in-Ok-clause-kept : goal.returns-in-Ok-clause-kept
returns-in-Ok-clause-kept c =
    kept-moved c.args.run (Some c.args.term) c.args.terms.now.entries c.insert.new.self.entries (has_end c.args.ends.now) (has_end c.move_end.new.ends)
    c.requires.kept c.in-Ok.ensures.updates.0 (sorted-ascends c.insert.new.self.entries c.in-Ok.ensures.ordered) c.in_ok-move_end.ensures.ok
