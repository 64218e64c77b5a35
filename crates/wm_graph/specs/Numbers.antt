-- Numbers in their order, as those of the nodes that are reached.
use Rattle.std.specs.Prelude.{ℕ, ◌<◌, ◌≤◌, List}
use Rattle.std.specs.List.{AllByRecursion}
use Rattle.wm_collections.specs.Lists.{AllLater}

-- numbers that don't fall
abbrev pub Ascend : List ℕ → Type 0
Ascend numbers = AllLater (λ number later. number ≤ later) numbers

-- numbers that rise, and none is below this one
pub record RiseFrom (seq : ℕ) (numbers : List ℕ) : Type 0 where
  pub ascending : AllLater (λ number later. number < later) numbers
  pub least : AllByRecursion (λ number. seq ≤ number) numbers
