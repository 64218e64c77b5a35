-- The entries of Data as a map from keys to values. After `androidx.work.Data` and its `Builder`, where a later put replaces the value; that
-- the entries stand in the order of their keys' bytes is this project's own choice.
use Rattle.std.specs.Prelude.{◌≡◌, ◌+◌, ◌<◌, ◌≤◌, ◌==◌, ℕ, List, [], ◌∷◌, ◌++◌, length, take, drop, filter, find, map, nat_le, Bool, if◌then◌else◌, Option, None, Some, option_map, Result, Ok, Err, slice_get}
use Rattle.std.specs.Cmp.Lexicographic.{slice_cmp}
use Rattle.std.specs.List.{AllByRecursion}
use Rattle.std.specs.Ordering.{nat_cmp, is_eq, is_gt, is_lt}
use Rattle.wm_collections.specs.Lists.{AscendByBytes}
use Rattle.wm_data.specs.Size.{IsData, size_of}
use Rattle.wm_data.specs.declared.data.DataEntry.{DataEntry}
use Rattle.wm_data.specs.declared.fault.DataFault.{DataFault}
use Rattle.wm_data.specs.declared.fault.DataFault.TheVariants as fault
use Rattle.wm_data.specs.declared.value.Value.{Value}

-- ---- the map

-- the entry has the key
abbrev pub is_at : List ℕ → DataEntry → Bool
is_at key entry = is_eq (slice_cmp nat_cmp entry.key key)

-- its key comes before the key, or after it
abbrev pub is_before : List ℕ → DataEntry → Bool
is_before key entry = is_lt (slice_cmp nat_cmp entry.key key)

abbrev pub is_after : List ℕ → DataEntry → Bool
is_after key entry = is_gt (slice_cmp nat_cmp entry.key key)

-- the value of a key
abbrev pub value_at : List ℕ → List DataEntry → Option Value
value_at key entries = option_map (λ entry. entry.value) (find (is_at key) entries)

-- the entries with a value under a key, in the place of one that was there
abbrev pub with_entry : DataEntry → List DataEntry → List DataEntry
with_entry entry entries = filter (is_before entry.key) entries ++ entry ∷ filter (is_after entry.key) entries

-- ---- what a put and a build answer

-- the entries after a put: a key isn't empty
abbrev pub put_of : DataEntry → List DataEntry → Result (List DataEntry) DataFault
put_of entry entries = if length entry.key == 0 then Err fault.EmptyKey else Ok (with_entry entry entries)

-- the entries as Data: they are within the size
abbrev pub built_of : List DataEntry → Result (List DataEntry) DataFault
built_of entries = if nat_le (size_of entries) 10240 then Ok entries else Err (fault.TooLarge (size_of entries))

-- A fault in the place of what a call is to answer: it is that fault, or memory was refused.
abbrev pub IsFaultOf : {T : Type 0} → Result T DataFault → DataFault → Type 0
IsFaultOf answer fault.EmptyKey = answer ≡ Err fault.EmptyKey
IsFaultOf answer (fault.BadData key) = answer ≡ Err (fault.BadData key)
IsFaultOf answer (fault.TooLarge size) = answer ≡ Err (fault.TooLarge size)
IsFaultOf answer fault.Memory = Unit {0}

-- ---- what the types keep

-- the entries of Data, where there are some
abbrev pub entries_in : Option (List DataEntry) → List DataEntry
entries_in None = []
entries_in (Some entries) = entries

-- the entries of a builder, and their size
pub record IsBuilding (entries : List DataEntry) (size : ℕ) : Type 0 where
  pub ascending : AscendByBytes (map (λ entry. entry.key) entries)
  pub named : AllByRecursion (λ entry. 1 ≤ length entry.key) entries
  pub sized : size ≡ size_of entries

-- the entries of Data, and their size
pub record IsKept (entries : List DataEntry) (size : ℕ) : Type 0 where
  pub is_data : IsData entries
  pub sized : size ≡ size_of entries

-- ---- the place of a key

-- the entry of the key stands at the index, between those before and those after
pub record IsFoundAt (key : List ℕ) (entries : List DataEntry) (index : ℕ) : Type 0 where
  pub within : index < length entries
  pub before : take index entries ≡ filter (is_before key) entries
  pub here : slice_get entries index ≡ find (is_at key) entries
  pub after : drop (index + 1) entries ≡ filter (is_after key) entries

-- no entry has the key, and one that had it would stand at the index
pub record IsMissingAt (key : List ℕ) (entries : List DataEntry) (index : ℕ) : Type 0 where
  pub within : index ≤ length entries
  pub before : take index entries ≡ filter (is_before key) entries
  pub none : find (is_at key) entries ≡ None
  pub after : drop index entries ≡ filter (is_after key) entries
