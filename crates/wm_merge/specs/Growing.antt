-- What has grown of the entries so far, and what one more does to it. This project's own way to `merged`.
use Rattle.std.specs.Prelude.{ℕ, List, [], ◌++◌, find, Bool, false, not, cond, Option, None, Some}
use Rattle.std.specs.Cmp.Lexicographic.{slice_cmp}
use Rattle.std.specs.Ordering.{nat_cmp, is_lt}
use Rattle.wm_data.specs.Entries.{is_at, with_entry}
use Rattle.wm_data.specs.declared.data.DataEntry.{DataEntry}
use Rattle.wm_data.specs.declared.merger.Merger.{Merger}
use Rattle.wm_data.specs.declared.merger.Merger.TheVariants as merger
use Rattle.wm_data.specs.declared.value.Value.{Value}
use Rattle.wm_data.specs.declared.value.Value.TheVariants as value
use Rattle.wm_merge.specs.Elements.{array_of, bools_of, bytes_of, element_type, ints_of, is_same, longs_of, texts_of}

-- the entries, and the least key that is a conflict
pub record Grown : Type 0 where
  pub entries : List DataEntry
  pub conflict : Option (List ℕ)

abbrev pub nothing_grown : Grown
nothing_grown = record { entries = []; conflict = None }

-- ---- a value

-- an array with those elements of a value that are of its type
abbrev pub appended : Value → Value → Value
appended (value.Bools bs) more = value.Bools (bs ++ bools_of more)
appended (value.Bytes ns) more = value.Bytes (ns ++ bytes_of more)
appended (value.Ints ns) more = value.Ints (ns ++ ints_of more)
appended (value.Longs ns) more = value.Longs (ns ++ longs_of more)
appended (value.Texts texts) more = value.Texts (texts ++ texts_of more)
appended other more = other

abbrev pub first_value : Merger → Value → Value
first_value merger.Overwriting first = first
first_value merger.ArrayCreating first = appended (array_of (element_type first) []) first

abbrev pub next_value : Merger → Value → Value → Value
next_value merger.Overwriting grown next = next
next_value merger.ArrayCreating grown next = appended grown next

abbrev pub differs : Merger → Value → Value → Bool
differs merger.Overwriting grown next = false
differs merger.ArrayCreating grown next = not (is_same (element_type grown) (element_type next))

-- ---- an entry

abbrev pub least_of : List ℕ → Option (List ℕ) → Option (List ℕ)
least_of key None = Some key
least_of key (Some least) = cond (is_lt (slice_cmp nat_cmp key least)) (Some key) (Some least)

-- the least key that is a conflict, with one more where it is one
abbrev pub noted : Bool → List ℕ → Option (List ℕ) → Option (List ℕ)
noted conflicts key least = cond conflicts (least_of key least) least

-- with an entry whose key isn't there, or stands in an entry
abbrev pub grown_beside : Merger → Grown → DataEntry → Option DataEntry → Grown
grown_beside how grown entry None =
    record { entries = with_entry (record { key = entry.key; value = first_value how entry.value }) grown.entries; conflict = grown.conflict }
grown_beside how grown entry (Some there) = record {
  entries = with_entry (record { key = entry.key; value = next_value how there.value entry.value }) grown.entries;
  conflict = noted (differs how there.value entry.value) entry.key grown.conflict;
}

abbrev pub grown_with : Merger → Grown → DataEntry → Grown
grown_with how grown entry = grown_beside how grown entry (find (is_at entry.key) grown.entries)
