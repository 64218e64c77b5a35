-- Names that are noted, and which names the records so far have.
use Rattle.std.proofs.Common.{◌≡◌, ℕ, List, Bool, true, false, ◌&&◌, ◌||◌, cond, Option, Some, String, Global, string_bytes, string_cmp, refl, ◌∙◌}
use Rattle.std.proofs.lemmas.Map.Text.{btree_set_updates_text}
use Rattle.std.specs.BTreeSet.{BTreeSet, contains_text, Updates}
use Rattle.std.specs.Str.{bytes_eq}
use Rattle.wm_machine.specs.Group.{is_name}

pub or_last : (same before : Bool) → cond same true before ≡ (before || same)
or_last true true = refl
or_last true false = refl
or_last false true = refl
or_last false false = refl

-- one name more is noted
pub noted : (before now : BTreeSet (String Global)) (text : String Global) → Updates string_cmp before now text true → (is_noted : Bool) → is_noted ≡ true
    → (own : Option (List ℕ)) (name : List ℕ) → own ≡ Some name → string_bytes text ≡ name → (other : List ℕ)
    → contains_text now other ≡ (contains_text before other || (is_noted && is_name other own))
noted before now text updates is_noted is own name own_is text_is other =
    rw (is, own_is, ← text_is)
    (btree_set_updates_text (string_bytes text) before now true updates other ∙ or_last (bytes_eq (string_bytes text) other) (contains_text before other))
