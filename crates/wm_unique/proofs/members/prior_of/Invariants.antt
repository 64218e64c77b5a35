use Rattle.std.proofs.Common.{◌≡◌, ℕ, take}
use Rattle.std.specs.BTreeSet.{contains}
use Rattle.std.specs.List.{list_any}
use Rattle.std.specs.Ordering.{nat_cmp}
use Rattle.wm_collections.specs.Lists.{is_among}
use Rattle.wm_unique.specs.Plans.{numbered_passes}
use Rattle.wm_unique.proofs.members.prior_of.Given as goal

-- the prerequisites of those so far are there
abbrev pub invariant-loop-number : goal.invariant-loop-number
invariant-loop-number l =
    (other : ℕ) → contains nat_cmp l.prior other ≡ list_any (numbered_passes (λ work. is_among work.prior other) l.works) (take l.number-index l.group)
