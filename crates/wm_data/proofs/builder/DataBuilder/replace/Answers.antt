-- A put in the place of an entry.
use Rattle.std.proofs.Common.{arith}
use Rattle.wm_data.specs.Entries.{IsFoundAt}
use Rattle.wm_data.proofs.Puts.{with_entry-set, size_of-set, IsBuilding-with_entry}
use Rattle.wm_data.proofs.builder.DataBuilder.replace.Goals as goal

found : (c : goal.After-self-2-1) → IsFoundAt c.args.entry.key c.self.inside.entries.items c.args.index
found c = rw c.self.view_is c.requires.found

pub invariant_of-self : goal.invariant_of-self
invariant_of-self c =
    let entries = c.self.inside.entries.items in
    let taken = rw (← c.index.ensures) at (size_of-set c.args.entry entries c.args.index c.index.result.now (found c)) in
    rw (with_entry-set c.args.entry entries c.args.index (found c))
    (IsBuilding-with_entry c.args.entry entries c.self.inside.size c.in_ok-size.size c.self.invariant c.requires.named
    (omega (arith, taken, c.in_ok-size.ensures, c.self.invariant.sized)))

pub returns-clause-ok : goal.returns-clause-ok
returns-clause-ok c = rw (← c.self.view_is) (with_entry-set c.args.entry c.self.inside.entries.items c.args.index (found c))
