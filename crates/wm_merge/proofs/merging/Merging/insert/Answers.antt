-- An entry whose key isn't there.
use Rattle.std.proofs.Common.{sym, ap, subst}
use Rattle.wm_data.specs.Entries.{IsMissingAt}
use Rattle.wm_merge.specs.Growing.{Grown}
use Rattle.wm_merge.proofs.Merges.{AreOrdered-insert}
use Rattle.wm_merge.proofs.merging.Merging.insert.Goals as goal

pub invariant_of-self-2 : goal.invariant_of-self-2
invariant_of-self-2 c =
    let missing = subst (λ (g : Grown). IsMissingAt c.args.entry.now.key g.entries c.args.index) (sym c.self.view_is) c.requires.missing in
    rw c.in_ok-insert.ensures.items
    (AreOrdered-insert c.self.inside.entries.items c.args.index c.args.entry.now.key c.in_ok-first.first (ap (λ e. e.key) c.in_ok-first.ensures) missing
    c.requires.named c.self.invariant)
