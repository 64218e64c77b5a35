-- The numbers of the records that a change may tell another thing of, as a set.
use Rattle.std.specs.Prelude.{◌≡◌, ℕ, ◌==◌, ◌||◌, Bool, List}
use Rattle.std.specs.BTreeSet.{BTreeSet}
use Rattle.std.specs.List.{list_any, AllByRecursion}
use Rattle.wm_collections.specs.Lists.{is_among}
use Rattle.wm_graph.specs.Descendants.{dependents}
use Rattle.wm_collections.specs.Sets.{has_number}
use Rattle.wm_machine.specs.declared.record.Record.{Record}
use Rattle.wm_observe.specs.Compared.{may_differ}
use Rattle.wm_changes.specs.Nodes.{nodes_of}
use Rattle.wm_changes.specs.declared.change.Replacement.{Replacement}
use Rattle.wm_changes.specs.declared.change.StepChange.{StepChange}

-- ---- the numbers near those that a change touches

-- whether a number is this one, or that of a record that has this one's as a prerequisite
abbrev pub is_near : List Record → ℕ → ℕ → Bool
is_near works touched number = touched == number || is_among (dependents (nodes_of works) touched) number

abbrev pub is_near_any : List Record → List ℕ → ℕ → Bool
is_near_any works touched number = list_any (λ one. is_near works one number) touched

abbrev pub is_near_replaced : List Record → List Replacement → ℕ → Bool
is_near_replaced works replaced number = list_any (λ one. is_near works one.work.seq number) replaced

-- ---- sets

-- a set has these numbers too after
abbrev pub IsWith : (ℕ → Bool) → BTreeSet ℕ → BTreeSet ℕ → Type 0
IsWith more before after = (number : ℕ) → has_number after number ≡ (has_number before number || more number)

-- of these records, just those of which the change may tell another thing have their numbers in the set
abbrev pub HaveDiffering : StepChange → List Record → BTreeSet ℕ → Type 0
HaveDiffering change works numbers = AllByRecursion (λ work. has_number numbers work.seq ≡ may_differ change work) works
