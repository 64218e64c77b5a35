-- The numbers of works as a set.
use Rattle.std.specs.Prelude.{◌≡◌, ℕ, List}
use Rattle.std.specs.BTreeSet.{BTreeSet}
use Rattle.wm_collections.specs.Lists.{is_among}
use Rattle.wm_collections.specs.Sets.{has_number}
use Rattle.wm_machine.specs.Group.{numbers_in}
use Rattle.wm_machine.specs.declared.record.Record.{Record}

-- a set has the numbers of these works
abbrev pub HasNumbersOf : List Record → BTreeSet ℕ → Type 0
HasNumbersOf works numbers = (number : ℕ) → has_number numbers number ≡ is_among (numbers_in works) number
