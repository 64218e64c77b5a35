-- How single values are read, and what an absent one stands for. The grammar is this project's own choice; which number a value is, is
-- `serde_json`'s reading, and which id a text names is `uuid`'s.
use Rattle.std.specs.Prelude.{ℕ, ◌^◌, Bool, false, List, nat_lt, if◌then◌else◌, Option, Some, None, option_and_then, Result}
use Rattle.std.specs.Map.{lookup}
use Rattle.std.specs.Str.{bytes_eq}
use Rattle.serde_json.specs.Data as json
use Rattle.serde_json.specs.Find.{as_bool, as_number, as_str, as_u64}
use Rattle.uuid.specs.Text.{parsed}
use Rattle.wm_request.specs.Building.{is_short}
use Rattle.wm_script.specs.Parts.{formed}
use Rattle.wm_script.specs.declared.parts.Unread.{Unread}

infixl 10 ◌>>=◌
abbrev pub ◌>>=◌ : {A B : Type 0} → Option A → (A → Option B) → Option B
o >>= f = option_and_then f o

-- a truth value; false where there is none
unfoldable pub flag_at : Option json.Data → Option Bool
flag_at None = Some false
flag_at (Some d) = as_bool d

-- a whole number from 0 to 2^53 - 1, which isn't written with a fraction or an exponent
unfoldable pub whole_in : json.Data → Option ℕ
whole_in d = do
  number ← as_number d
  n ← as_u64 number
  if nat_lt n (2 ^ 53) then Some n else None

-- such a number, or this one where there is none
unfoldable pub whole_at : ℕ → Option json.Data → Option ℕ
whole_at default None = Some default
whole_at default (Some d) = whole_in d

-- one of these by its name
abbrev pub named_in : {T : Type 0} → List (List ℕ × T) → json.Data → Option T
named_in names d = do
  name ← as_str d
  lookup (bytes_eq name) names

-- one of these by its name, or this one where there is none
abbrev pub named_at : {T : Type 0} → List (List ℕ × T) → T → Option json.Data → Option T
named_at names default None = Some default
named_at names default (Some d) = named_in names d

-- an id, in any of `uuid`'s forms
unfoldable pub id_in : json.Data → Option (List ℕ)
id_in d = do
  text ← as_str d
  parsed text

-- a text of 1 to 200 bytes
unfoldable pub short_in : json.Data → Option (List ℕ)
short_in d = do
  text ← as_str d
  if is_short text then Some text else None

-- the same as items of a list
abbrev pub id_part : json.Data → Result (List ℕ) Unread
id_part d = formed (id_in d)

abbrev pub text_part : json.Data → Result (List ℕ) Unread
text_part d = formed (short_in d)
