-- Sets of numbers.
use Rattle.std.specs.Prelude.{◌≡◌, ◌||◌, ℕ, Bool, List}
use Rattle.std.specs.BTreeSet.{contains, BTreeSet}
use Rattle.std.specs.Ordering.{nat_cmp}
use Rattle.wm_collections.specs.Lists.{is_among, NumbersAscend}

abbrev pub has_number : BTreeSet ℕ → ℕ → Bool
has_number numbers number = contains nat_cmp numbers number

-- a set has these numbers more
abbrev pub AreAdded : List ℕ → BTreeSet ℕ → BTreeSet ℕ → Type 0
AreAdded more old new = (number : ℕ) → has_number new number ≡ (has_number old number || is_among more number)

-- the numbers of a set, ascending
pub record IsListOf (numbers : BTreeSet ℕ) (list : List ℕ) : Type 0 where
  pub ascending : NumbersAscend list
  pub each : (number : ℕ) → is_among list number ≡ has_number numbers number

-- the numbers that are in one of two lists, each once, ascending
pub record AreMerged (one other merged : List ℕ) : Type 0 where
  pub ascending : NumbersAscend merged
  pub each : (number : ℕ) → is_among merged number ≡ (is_among one number || is_among other number)
