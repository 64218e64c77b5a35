-- What inputs become by a merger. Overwriting is told in its own file. ArrayCreating gives each key the array of the elements of all its values,
-- in input order; values of two element types under one key are a conflict. After `androidx.work.ArrayCreatingInputMerger`; the order of inputs
-- and the limit are this project's own choice.
use Rattle.std.specs.Prelude.{◌≡◌, ℕ, List, [], ◌∷◌, find, nat_le, Bool, false, not, if◌then◌else◌, Option, None, Some, Result, Ok, Err}
use Rattle.std.specs.List.{list_any}
use Rattle.wm_data.specs.Size.{size_of}
use Rattle.wm_data.specs.declared.data.DataEntry.{DataEntry}
use Rattle.wm_data.specs.declared.merger.Merger.{Merger}
use Rattle.wm_data.specs.declared.merger.Merger.TheVariants as merger
use Rattle.wm_data.specs.declared.value.Value.{Value}
use Rattle.wm_merge.specs.Elements.{array_of, element_type, is_same}
use Rattle.wm_merge.specs.Inputs.{all_entries, by_key, keys_of, values_of}
use Rattle.wm_merge.specs.Overwriting.{overwritten}
use Rattle.wm_merge.specs.declared.fault.MergeFault.{MergeFault}
use Rattle.wm_merge.specs.declared.fault.MergeFault.TheVariants as fault

-- ---- ArrayCreating

-- the array of the elements of all values
abbrev pub array_of_all : List Value → Option Value
array_of_all [] = None
array_of_all (first ∷ values) = Some (array_of (element_type first) (first ∷ values))

abbrev pub arrays : List (List DataEntry) → List DataEntry
arrays inputs = by_key array_of_all (all_entries inputs)

-- some value has another element type than the first
abbrev pub are_mixed : List Value → Bool
are_mixed [] = false
are_mixed (first ∷ values) = list_any (λ value. not (is_same (element_type first) (element_type value))) values

-- the least key whose values are a conflict
abbrev pub least_conflict : List (List DataEntry) → Option (List ℕ)
least_conflict inputs = find (λ key. are_mixed (values_of key (all_entries inputs))) (keys_of (all_entries inputs))

-- ---- both mergers

-- entries where no key is a conflict, and they are within the size
abbrev pub answer_of : Option (List ℕ) → List DataEntry → Result (List DataEntry) MergeFault
answer_of (Some key) entries = Err (fault.Conflict key)
answer_of None entries = if nat_le (size_of entries) 10240 then Ok entries else Err (fault.TooLarge (size_of entries))

abbrev pub merged : Merger → List (List DataEntry) → Result (List DataEntry) MergeFault
merged merger.Overwriting inputs = answer_of None (overwritten inputs)
merged merger.ArrayCreating inputs = answer_of (least_conflict inputs) (arrays inputs)

-- A fault in the place of what a call is to answer: it is that fault, or memory was refused.
abbrev pub IsMergeFaultOf : Result (List DataEntry) MergeFault → MergeFault → Type 0
IsMergeFaultOf answer (fault.Conflict key) = answer ≡ Err (fault.Conflict key)
IsMergeFaultOf answer (fault.TooLarge size) = answer ≡ Err (fault.TooLarge size)
IsMergeFaultOf answer fault.Memory = Unit {0}
