-- A put between two entries.
use Rattle.std.proofs.Common.{arith}
use Rattle.wm_data.specs.Entries.{IsMissingAt}
use Rattle.wm_data.proofs.Puts.{size_of-insert, with_entry-insert, IsBuilding-with_entry}
use Rattle.wm_data.proofs.builder.DataBuilder.insert.Goals as goal

missing : (c : goal.After-self-1) → IsMissingAt c.args.entry.key c.self.inside.entries.items c.args.index
missing c = rw c.self.view_is c.requires.missing

pub invariant_of-self-2 : goal.invariant_of-self-2
invariant_of-self-2 c =
    let entries = c.self.inside.entries.items in
    rw (c.in_ok-insert.ensures.items, with_entry-insert c.args.entry entries c.args.index (missing c))
    (IsBuilding-with_entry c.args.entry entries c.self.inside.size c.in_ok-size.size c.self.invariant c.requires.named
    (omega (arith, size_of-insert c.args.entry entries c.args.index (missing c), c.in_ok-size.ensures, c.self.invariant.sized)))
