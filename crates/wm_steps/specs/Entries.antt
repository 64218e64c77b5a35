-- The records as the entries of an index, and what the index does in a step.
use Rattle.std.specs.Prelude.{◌≡◌, ◌<◌, ◌||◌, ℕ, List, [], ◌∷◌, ◌++◌, map, not, slice_get, take, true, is_some, IsSomeAnd, Option, None, Some}
use Rattle.std.specs.List.{AllByRecursion}
use Rattle.wm_collections.specs.Lists.{AllLater, HasOne}
use Rattle.wm_index.specs.Entries.{adding_tags, by_id, changed_at, has_seq, has_tag, has_unidentified, identified, keeping_tags, unnamed, without, Entry}
use Rattle.wm_keeper.specs.Keeper.{AreOfDifferentNumbers}
use Rattle.wm_machine.specs.Valid.{IsBefore}
use Rattle.wm_machine.specs.declared.record.Record.{Record}
use Rattle.wm_changes.specs.StepChanges.{changed_works, row_changes, KeepsPlace, KeepsRow}
use Rattle.wm_changes.specs.declared.change.Replacement.{Replacement}
use Rattle.wm_changes.specs.declared.change.StepChange.{StepChange}

-- an entry is that of a record: it has its number, its id, its unique name and its tags, in any order
pub record IsEntryOf (work : Record) (entry : Entry) : Type 0 where
  pub seq : entry.seq ≡ work.seq
  pub id : entry.id ≡ Some work.request.id
  pub name : entry.name ≡ work.name
  pub tags : (tag : List ℕ) → has_tag entry.tags tag ≡ has_tag work.request.tags tag

-- entries are those of these records, side by side
abbrev pub AreEntriesOf : List Record → List Entry → Type 0
AreEntriesOf [] [] = Unit {0}
AreEntriesOf [] (entry ∷ entries) = ⊥
AreEntriesOf (work ∷ works) [] = ⊥
AreEntriesOf (work ∷ works) (entry ∷ entries) = IsEntryOf work entry × AreEntriesOf works entries

-- each of these records changes the entry of its number
abbrev pub with_changed : (Record → Entry → Entry) → List Replacement → List Entry → List Entry
with_changed change [] entries = entries
with_changed change (replaced ∷ later) entries = with_changed change later (changed_at (change replaced.work) replaced.work.seq entries)

-- each of these records has an entry of its number
abbrev pub HaveEntries : List Replacement → List Entry → Type 0
HaveEntries replaced entries = AllByRecursion (λ replaced. has_seq entries replaced.work.seq ≡ true) replaced

-- ---- before the rows are committed

-- an entry with the tags of a record too
abbrev pub tagging : Record → Entry → Entry
tagging work entry = adding_tags work.request.tags entry

-- a new record as an entry, which hasn't its id yet
abbrev pub new_entry : Record → Entry
new_entry work = record { seq = work.seq; id = None; name = work.name; tags = work.request.tags }

-- the entries once a change is prepared: the tags and the records that come are there, and nothing is gone
abbrev pub prepared_entries : StepChange → List Entry → List Entry
prepared_entries change entries = with_changed tagging change.replaced entries ++ map new_entry change.placed

-- some of that has begun to come
pub record IsBegunIn (before : List Entry) (change : StepChange) (entries : List Entry) : Type 0 where
  pub tags : ℕ
  pub records : ℕ
  pub are : entries ≡ with_changed tagging (take tags change.replaced) before ++ map new_entry (take records change.placed)

-- ---- after it

-- an entry without its unique name, where a record has none
abbrev pub unnaming : Option (List ℕ) → Entry → Entry
unnaming None entry = unnamed entry
unnaming (Some name) entry = entry

-- an entry with no other tags than a record, and without a unique name where it has none
abbrev pub settling : Record → Entry → Entry
settling work entry = unnaming work.name (keeping_tags work.request.tags entry)

abbrev pub without_entries : List ℕ → List Entry → List Entry
without_entries [] entries = entries
without_entries (number ∷ numbers) entries = without_entries numbers (without number entries)

-- the entries, where those of new records have their ids
abbrev pub with_identified : List Record → List Entry → List Entry
with_identified [] entries = entries
with_identified (work ∷ works) entries = with_identified works (changed_at (identified work.request.id) work.seq entries)

-- new records can be given their ids, one after another: each has an entry without one, and no other has its id
abbrev pub AreIdentifiable : List Record → List Entry → Type 0
AreIdentifiable [] entries = Unit {0}
AreIdentifiable (work ∷ works) entries =
    (has_unidentified entries work.seq ≡ true) × (by_id entries work.request.id ≡ None)
    × AreIdentifiable works (changed_at (identified work.request.id) work.seq entries)

-- ---- what stays as it is

-- a record leaves the entry of another as it is: it has its tags, and a unique name where that has one
pub record LeavesEntry (old new : Record) : Type 0 where
  pub tags : new.request.tags ≡ old.request.tags
  pub name : (not (is_some old.name) || is_some new.name) ≡ true

-- so does one that is put in the place of another
abbrev pub IsLeaving : List Record → Replacement → Type 0
IsLeaving works replaced = IsSomeAnd (slice_get works replaced.index) (λ old. LeavesEntry old replaced.work)

-- those of these records that leave the entries of others change nothing, after any of the others
abbrev pub AreLeaving : (Record → Entry → Entry) → List Record → List Replacement → List Entry → Type 0
AreLeaving change works replaced entries =
    AllByRecursion (λ r. IsLeaving works r → (count : ℕ)
    → changed_at (change r.work) r.work.seq (with_changed change (take count replaced) entries) ≡ with_changed change (take count replaced) entries) replaced

-- ---- where the rows can't be committed

-- the entries, where that of a number has no other tags than a record
abbrev pub untagged_by : Option Record → ℕ → List Entry → List Entry
untagged_by None seq entries = entries
untagged_by (Some work) seq entries = changed_at (keeping_tags work.request.tags) seq entries

-- the entries, where those of records that were to change have no other tags than the records
abbrev pub with_untagged : List Record → List Replacement → List Entry → List Entry
with_untagged works [] entries = entries
with_untagged works (replaced ∷ later) entries =
    with_untagged works later (untagged_by (slice_get works replaced.index) replaced.work.seq entries)

-- ---- when the index can follow

-- a change can be followed from these records: what it replaces and removes is there, what it places comes behind, and no record is changed twice
pub record IsFollowable (works : List Record) (change : StepChange) : Type 0 where
  pub told : AllByRecursion (KeepsRow works) change.told
  pub replaced : AllByRecursion (KeepsPlace works) change.replaced
  pub removed : AllByRecursion (λ number. HasOne (λ work. work.seq ≡ number) works) change.removed
  pub apart : AreOfDifferentNumbers (row_changes change)
  pub ascending : AllLater (λ work later. work.seq < later.seq) (works ++ change.placed)
  pub different : AllLater IsBefore (changed_works change works)

-- entries were those of these records before a change was prepared in them
pub record IsPrepared (works : List Record) (change : StepChange) (entries : List Entry) : Type 0 where
  pub before : List Entry
  pub were : AreEntriesOf works before
  pub are : entries ≡ prepared_entries change before

-- and some of it was prepared
pub record IsBegun (works : List Record) (change : StepChange) (entries : List Entry) : Type 0 where
  pub before : List Entry
  pub were : AreEntriesOf works before
  pub begun : IsBegunIn before change entries
