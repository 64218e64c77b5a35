use Rattle.std.proofs.Common.{◌≡◌, filter, not, take}
use Rattle.std.specs.BTreeSet.{contains}
use Rattle.std.specs.Ordering.{nat_cmp}
use Rattle.wm_unique.proofs.members.leaves.Given as goal

-- the leaves so far
abbrev pub invariant-loop-number : goal.invariant-loop-number
invariant-loop-number l = l.numbers ≡ filter (λ number. not (contains nat_cmp l.prior number)) (take l.number-index l.group)
