-- What stands under a key of a line, as it is read. What isn't there, or is something else, is read as nothing: a line is spelled again and
-- looked at as a whole.
use Rattle.std.specs.Prelude.{ℕ, ◌^◌, ℤ, pos, List, [], filter_map, nat_lt, if◌then◌else◌, Option, option_and_then, option_map, unwrap_or}
use Rattle.std.specs.Result.{result_ok}
use Rattle.serde_json.specs.Data as json
use Rattle.serde_json.specs.Find.{as_array, as_number, as_str, as_u64, get}
use Rattle.uuid.specs.Parts.{zero_bytes}
use Rattle.wm_data.specs.DataRead.{integer_of, item_list, read_data}
use Rattle.wm_data.specs.declared.data.DataEntry.{DataEntry}
use Rattle.wm_script.specs.Values.{id_in}

-- a number without a sign, and one that fits 32 bits
unfoldable pub number_at : List ℕ → json.Data → ℕ
number_at key d = unwrap_or (option_and_then as_u64 (option_and_then as_number (get key d))) 0

unfoldable pub small_at : List ℕ → json.Data → ℕ
small_at key d = if nat_lt (number_at key d) (2 ^ 32) then number_at key d else 0

-- a whole number
unfoldable pub whole_at : List ℕ → json.Data → ℤ
whole_at key d = unwrap_or (option_and_then integer_of (get key d)) (pos 0)

-- a text, where there is one
unfoldable pub text_in : List ℕ → json.Data → Option (List ℕ)
text_in key d = option_and_then as_str (get key d)

unfoldable pub text_at : List ℕ → json.Data → List ℕ
text_at key d = unwrap_or (text_in key d) []

-- the bytes of an id; all zero where there is none
unfoldable pub id_at : List ℕ → json.Data → List ℕ
id_at key d = unwrap_or (option_and_then id_in (get key d)) zero_bytes

-- Data
abbrev pub data_of : json.Data → List DataEntry
data_of d = unwrap_or (result_ok (read_data d)) []

unfoldable pub data_at : List ℕ → json.Data → List DataEntry
data_at key d = unwrap_or (option_map data_of (get key d)) []

-- the items of a list
unfoldable pub items_at : List ℕ → json.Data → List json.Data
items_at key d = unwrap_or (option_map item_list (option_and_then as_array (get key d))) []

-- those that are whole numbers, and those that are texts
unfoldable pub wholes_at : List ℕ → json.Data → List ℤ
wholes_at key d = filter_map integer_of (items_at key d)

unfoldable pub texts_at : List ℕ → json.Data → List (List ℕ)
texts_at key d = filter_map as_str (items_at key d)
