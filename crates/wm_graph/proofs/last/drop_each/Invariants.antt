use Rattle.std.proofs.Common.{◌≡◌, ◌&&◌, ℕ, not, take}
use Rattle.wm_collections.specs.Lists.{is_among}
use Rattle.wm_collections.specs.Sets.{has_number}
use Rattle.wm_graph.proofs.last.drop_each.Given as goal

abbrev pub invariant-loop-other : goal.invariant-loop-other
invariant-loop-other l = (number : ℕ) → has_number l.numbers number
    ≡ (has_number l.initial.numbers number && not (is_among (take l.other-index l.others) number))
