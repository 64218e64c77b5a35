-- How an object is read by its keys: each key has a reader of its own, which is given the value of the key, or none where the key is absent.
-- Which members an object has is `serde_json`'s reading.
use Rattle.std.specs.Prelude.{ℕ, Bool, false, List, option_map, unwrap_or}
use Rattle.std.specs.List.{list_all, list_any}
use Rattle.std.specs.Str.{bytes_eq}
use Rattle.serde_json.specs.Data as json
use Rattle.serde_json.specs.Find.{as_object}
use Rattle.wm_data.specs.DataRead.{member_list}

-- whether each member has one of these keys
abbrev pub are_among : List (List ℕ) → json.Members → Bool
are_among keys members = list_all (λ m. list_any (λ key. bytes_eq key m.0) keys) (member_list members)

-- whether the value is an object that has no other key than these
unfoldable pub has_only : List (List ℕ) → json.Data → Bool
has_only keys d = unwrap_or (option_map (are_among keys) (as_object d)) false
