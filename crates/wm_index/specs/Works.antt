-- What is kept of each work, and what its groups are.
use Rattle.std.specs.Prelude.{◌≡◌, ℕ, ◌+◌, ◌<◌, ◌≤◌, Bool, false, not, List, [], ◌++◌, count_by, filter, length, map, cond, is_none, Option, None, Some}
use Rattle.std.specs.BTreeMap.{is_at}
use Rattle.std.specs.Map.{lookup, set_value, values_of}
use Rattle.std.specs.Option.{option_map_or}
use Rattle.std.specs.Ordering.{is_eq, nat_cmp}
use Rattle.wm_collections.specs.Lists.{AllLater}
use Rattle.wm_index.specs.Entries.{has_tag, is_id, is_name, Entry}
use Rattle.wm_index.specs.Groups.{Ids, Table}

-- the id of a work and its unique name, if any, and its tags
pub record Kept : Type 0 where
  pub id : Option (List ℕ)
  pub name : Option (List ℕ)
  pub tags : List (List ℕ)

abbrev pub entry_of : ℕ × Kept → Entry
entry_of work = record { seq = work.0; id = work.1.id; name = work.1.name; tags = work.1.tags }

abbrev pub entries_of : List (ℕ × Kept) → List Entry
entries_of works = map entry_of works

-- what is kept of the work of a number
abbrev pub at : List (ℕ × Kept) → ℕ → Option Kept
at works seq = lookup (is_at (nat_cmp seq)) works

abbrev pub AreAscending : List Entry → Type 0
AreAscending entries = AllLater (λ entry later. entry.seq < later.seq) entries

-- what is kept of one number is this, or nothing, and of each other what it was
abbrev pub IsSetAt : ℕ → Option Kept → List (ℕ × Kept) → List (ℕ × Kept) → Type 0
IsSetAt seq kept old new = (q : ℕ) → at new q ≡ cond (is_eq (nat_cmp seq q)) kept (at old q)

-- a table has each work of which a test holds
abbrev pub AreFound : (List ℕ → Kept → Bool) → List (ℕ × Kept) → Table → Type 0
AreFound test works table = (text : List ℕ) (seq : ℕ) → table text seq ≡ option_map_or (test text) (at works seq) false

-- how many works have no id yet
abbrev pub unidentified : List (ℕ × Kept) → ℕ
unidentified works = count_by (λ kept. is_none kept.id) (values_of works)

-- each work that has an id is found by it, and for each other work there is room
pub record AreKnown (works : List (ℕ × Kept)) (ids : Ids) : Type 0 where
  pub found : AreFound (λ id kept. is_id id kept.id) works ids.has
  pub counted : ids.known + unidentified works ≡ length works
  pub room : unidentified works ≤ ids.room

-- the works in ascending number, with what finds them by their ids, and the tables of their names and their tags
pub record IsKept (works : List (ℕ × Kept)) (ids : Ids) (names tags : Table) : Type 0 where
  pub ascending : AreAscending (entries_of works)
  pub ids_are : AreKnown works ids
  pub names_are : AreFound (λ name kept. is_name name kept.name) works names
  pub tags_are : AreFound (λ tag kept. has_tag kept.tags tag) works tags

-- what is kept of the work of a number is changed
pub record IsChanged (change : Kept → Kept) (seq : ℕ) (old new : List (ℕ × Kept)) : Type 0 where
  pub ascending : AreAscending (entries_of new)
  pub list : (kept : Kept) → at old seq ≡ Some kept → new ≡ set_value (is_at (nat_cmp seq)) old (change kept)
  pub each : (kept : Kept) → at old seq ≡ Some kept → IsSetAt seq (Some (change kept)) old new

abbrev pub with_id : List ℕ → Kept → Kept
with_id id kept = record kept { id = Some id }

abbrev pub nameless : Kept → Kept
nameless kept = record kept { name = None }

abbrev pub with_tags : List (List ℕ) → Kept → Kept
with_tags tags kept = record kept { tags = kept.tags ++ tags }

abbrev pub keeping : List (List ℕ) → Kept → Kept
keeping tags kept = record kept { tags = filter (has_tag tags) kept.tags }

-- those of these tags that a work hasn't
abbrev pub missing_from : List (List ℕ) → Kept → List (List ℕ)
missing_from tags kept = filter (λ tag. not (has_tag kept.tags tag)) tags

abbrev pub missing_at : List (ℕ × Kept) → ℕ → List (List ℕ) → List (List ℕ)
missing_at works seq tags = option_map_or (missing_from tags) (at works seq) []
