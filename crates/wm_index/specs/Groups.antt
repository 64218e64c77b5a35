-- The works of each text, and how they come to it and leave it.
use Rattle.std.specs.Prelude.{◌≡◌, ℕ, ◌==◌, ◌<◌, ◌&&◌, ◌||◌, Bool, false, not, List, [], ◌∷◌, length, String}
use Rattle.std.specs.BTreeMap.{get_by_text, BTreeMap}
use Rattle.std.specs.Map.{lookup}
use Rattle.std.specs.Option.{option_map_or, unwrap_or}
use Rattle.std.specs.Str.{bytes_eq}
use Rattle.indexmap.specs.IndexMap.{index_map_len, spare, IndexMap}
use Rattle.wm_collections.specs.Lists.{is_among, NumbersAscend}

-- numbers in ascending order, of which there is one at least
pub record IsGroup (numbers : List ℕ) : Type 0 where
  pub ascending : NumbersAscend numbers
  pub some : 0 < length numbers

-- the list is this number alone
abbrev pub is_just : ℕ → List ℕ → Bool
is_just seq (number ∷ []) = number == seq
is_just seq _ = false

-- the numbers of the works of a text
abbrev pub numbers_at : {Y : Type 0} → BTreeMap (String Y) (List ℕ) → List ℕ → List ℕ
numbers_at groups text = unwrap_or (get_by_text groups text) []

-- whether the work of a number has a text, for each text and number
abbrev pub Table : Type 0
Table = List ℕ → ℕ → Bool

abbrev pub has : {Y : Type 0} → BTreeMap (String Y) (List ℕ) → Table
has groups text seq = is_among (numbers_at groups text) seq

abbrev pub has_id : List (List ℕ × ℕ) → Table
has_id ids id seq = option_map_or (λ number. number == seq) (lookup (bytes_eq id) ids) false

-- what finds the works by their ids: whether the work of a number has an id, of how many works an id is known, and for how many more there is room
pub record Ids : Type 0 where
  pub has : Table
  pub known : ℕ
  pub room : ℕ

abbrev pub ids_of : {S : Type 0} → IndexMap (List ℕ) ℕ S → Ids
ids_of ids = record { has = has_id ids.entries; known = index_map_len ids; room = spare ids }

-- the work of a number has those texts too that pass a test
abbrev pub IsJoined : (List ℕ → Bool) → ℕ → Table → Table → Type 0
IsJoined test seq old new = (text : List ℕ) (number : ℕ) → new text number ≡ (old text number || (seq == number && test text))

-- the others are as they were
abbrev pub KeepsOthers : (List ℕ → Bool) → ℕ → Table → Table → Type 0
KeepsOthers test seq old new = (text : List ℕ) (number : ℕ) → (seq == number && test text) ≡ false → new text number ≡ old text number

-- it hasn't them any more
abbrev pub IsParted : (List ℕ → Bool) → ℕ → Table → Table → Type 0
IsParted test seq old new = (text : List ℕ) (number : ℕ) → new text number ≡ (old text number && not (seq == number && test text))
