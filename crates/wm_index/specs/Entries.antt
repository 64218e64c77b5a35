-- The works of an index, and those that an id, a unique name or a tag finds. After the guide's page "Managing work", where works are looked up by
-- these.
use Rattle.std.specs.Prelude.{ℕ, ◌==◌, ◌&&◌, Bool, false, not, List, [], ◌∷◌, ◌++◌, map, filter, find, if◌then◌else◌, nat_lt, is_none, Option, Some, None}
use Rattle.std.specs.List.{list_any}
use Rattle.std.specs.Option.{option_map}
use Rattle.std.specs.Str.{bytes_eq}

-- a work by its number, with its id and its unique name, if any, and its tags
pub record Entry : Type 0 where
  pub seq : ℕ
  pub id : Option (List ℕ)
  pub name : Option (List ℕ)
  pub tags : List (List ℕ)

-- whether an id, which may be there, is this one
abbrev pub is_id : List ℕ → Option (List ℕ) → Bool
is_id id None = false
is_id id (Some own) = bytes_eq own id

-- whether a unique name, which may be there, is this one
abbrev pub is_name : List ℕ → Option (List ℕ) → Bool
is_name name None = false
is_name name (Some own) = bytes_eq own name

abbrev pub has_tag : List (List ℕ) → List ℕ → Bool
has_tag tags tag = list_any (λ own. bytes_eq own tag) tags

-- the work of this number is there
abbrev pub has_seq : List Entry → ℕ → Bool
has_seq entries seq = list_any (λ entry. entry.seq == seq) entries

-- the work of this number is there, and has no id yet
abbrev pub has_unidentified : List Entry → ℕ → Bool
has_unidentified entries seq = list_any (λ entry. entry.seq == seq && is_none entry.id) entries

-- ---- what is found

abbrev pub numbers_of : List Entry → List ℕ
numbers_of entries = map (λ entry. entry.seq) entries

abbrev pub by_id : List Entry → List ℕ → Option ℕ
by_id entries id = option_map (λ (entry : Entry). entry.seq) (find (λ entry. is_id id entry.id) entries)

abbrev pub by_name : List Entry → List ℕ → List ℕ
by_name entries name = numbers_of (filter (λ entry. is_name name entry.name) entries)

abbrev pub by_tag : List Entry → List ℕ → List ℕ
by_tag entries tag = numbers_of (filter (λ entry. has_tag entry.tags tag) entries)

-- ---- what changes

-- the entries with one more, at its place by its number
abbrev pub with_entry : Entry → List Entry → List Entry
with_entry entry [] = entry ∷ []
with_entry entry (other ∷ others) = if nat_lt entry.seq other.seq then entry ∷ other ∷ others else other ∷ with_entry entry others

abbrev pub without : ℕ → List Entry → List Entry
without seq entries = filter (λ entry. not (entry.seq == seq)) entries

-- the entries with the one of a number changed
abbrev pub changed_at : (Entry → Entry) → ℕ → List Entry → List Entry
changed_at change seq entries = map (λ entry. if entry.seq == seq then change entry else entry) entries

abbrev pub identified : List ℕ → Entry → Entry
identified id entry = record entry { id = Some id }

abbrev pub unnamed : Entry → Entry
unnamed entry = record entry { name = None }

-- with those of these tags that it hasn't, behind its own
abbrev pub adding_tags : List (List ℕ) → Entry → Entry
adding_tags tags entry = record entry { tags = entry.tags ++ filter (λ tag. not (has_tag entry.tags tag)) tags }

-- with only those of its tags that are among these
abbrev pub keeping_tags : List (List ℕ) → Entry → Entry
keeping_tags tags entry = record entry { tags = filter (has_tag tags) entry.tags }
