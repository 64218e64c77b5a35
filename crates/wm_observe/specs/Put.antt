-- How what a change puts in the places of records is found by their numbers.
use Rattle.std.specs.Prelude.{◌≡◌, ℕ, ◌<◌, List, length, slice_get, Option, Some, None, IfSome}
use Rattle.std.specs.BTreeMap.{get, BTreeMap}
use Rattle.std.specs.BTreeSet.{BTreeSet}
use Rattle.std.specs.Option.{option_map_or}
use Rattle.std.specs.Ordering.{nat_cmp}
use Rattle.wm_collections.specs.Lists.{is_among}
use Rattle.wm_collections.specs.Sets.{has_number}
use Rattle.wm_machine.specs.declared.record.Record.{Record}
use Rattle.wm_observe.specs.declared.places.Places.{Places}
use Rattle.wm_changes.specs.Touched.{put_in}
use Rattle.wm_changes.specs.declared.change.Replacement.{Replacement}
use Rattle.wm_changes.specs.declared.change.StepChange.{StepChange}

-- the set has just these numbers
abbrev pub IsSetOf : List ℕ → BTreeSet ℕ → Type 0
IsSetOf numbers set = (number : ℕ) → has_number set number ≡ is_among numbers number

-- the record of a list at an index, and this one where there is no index
abbrev pub put_at : List Replacement → Option ℕ → Record → Record
put_at replaced None work = work
put_at replaced (Some index) work = option_map_or (λ (one : Replacement). one.work) (slice_get replaced index) work

-- by the number of a record is found which of the first of these is put in its place
pub record AreFirstPlaces (replaced first : List Replacement) (places : BTreeMap ℕ ℕ) : Type 0 where
  pub within : (number : ℕ) → IfSome (get nat_cmp places number) (λ index. index < length replaced)
  pub put : (work : Record) → put_at replaced (get nat_cmp places work.seq) work ≡ put_in first work

-- and which of all of these is
abbrev pub ArePlaces : List Replacement → BTreeMap ℕ ℕ → Type 0
ArePlaces replaced places = AreFirstPlaces replaced replaced places

-- what a change removes, and what it puts in the places of records
pub record ArePlacesOf (change : StepChange) (places : Places) : Type 0 where
  pub removed : IsSetOf change.removed places.removed
  pub told : ArePlaces change.told places.told
  pub replaced : ArePlaces change.replaced places.replaced
