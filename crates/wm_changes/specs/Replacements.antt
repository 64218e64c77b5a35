-- The records that take the place of others.
use Rattle.std.specs.Prelude.{◌≡◌, ◌⊎◌, ℕ, ◌+◌, ◌==◌, true, List, [], ◌∷◌, filter_map, if◌then◌else◌, Option, Some, None, option_map}
use Rattle.wm_machine.specs.First.{is_succeeded}
use Rattle.wm_machine.specs.declared.record.Record.{Record}
use Rattle.wm_changes.specs.declared.change.Replacement.{Replacement}

-- a record that takes the place of the one at this index, where there is one
abbrev pub at_index : ℕ → Option Record → List Replacement → List Replacement
at_index index None later = later
at_index index (Some work) later = record { index = index; work = work } ∷ later

-- the records that a change gives for these, which stand from this index on
abbrev pub replacements : (Record → Option Record) → ℕ → List Record → List Replacement
replacements change index [] = []
replacements change index (work ∷ works) = at_index index (change work) (replacements change (index + 1) works)

-- the record that a change gives for the one of a number, among these, which stand from this index on
abbrev pub replacement_of : (Record → Option Record) → ℕ → List Record → ℕ → Option Replacement
replacement_of change index [] number = None
replacement_of change index (work ∷ works) number =
    if work.seq == number then option_map (λ (new : Record). record { index = index; work = new }) (change work)
    else replacement_of change (index + 1) works number

-- those that a change gives for the records of some numbers, one after another
abbrev pub by_numbers : (Record → Option Record) → List ℕ → List Record → List Replacement
by_numbers change numbers works = filter_map (replacement_of change 0 works) numbers

-- a record, or the one that a change gives for it
abbrev pub or_same : Record → Option Record → Record
or_same work None = work
or_same work (Some changed) = changed

-- A record that may take the place of another has its number, its id and its prerequisites, and its unique name or none. What has succeeded stays so.
pub record MayReplace (old new : Record) : Type 0 where
  pub seq : new.seq ≡ old.seq
  pub id : new.request.id ≡ old.request.id
  pub name : (new.name ≡ old.name) ⊎ (new.name ≡ None)
  pub prior : new.prior ≡ old.prior
  pub succeeded : is_succeeded old.phase ≡ true → is_succeeded new.phase ≡ true
