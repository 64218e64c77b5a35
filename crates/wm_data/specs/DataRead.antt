-- Which Data a JSON value is, and why one is none.
use Rattle.std.specs.Prelude.{ℕ, ℤ, pos, negsuc, ◌^◌, ◌==◌, List, [], ◌∷◌, length, codes, filter_map, find, nat_lt, Bool, if◌then◌else◌, Option, Some, None, is_some, is_none, option_map, option_and_then, Result, Ok, Err}
use Rattle.std.specs.List.{fold, list_all, list_any}
use Rattle.std.specs.Map.{lookup}
use Rattle.std.specs.Str.{bytes_eq}
use Rattle.serde_json.specs.Data as json
use Rattle.serde_json.specs.Find.{as_array, as_bool, as_i64, as_number, as_object, as_str}
use Rattle.wm_data.specs.Entries.{built_of, with_entry}
use Rattle.wm_data.specs.declared.data.DataEntry.{DataEntry}
use Rattle.wm_data.specs.declared.fault.DataFault.{DataFault}
use Rattle.wm_data.specs.declared.fault.DataFault.TheVariants as fault
use Rattle.wm_data.specs.declared.value.Value.{Value}
use Rattle.wm_data.specs.declared.value.Value.TheVariants as value

-- the items of an array, and the members of an object
abbrev pub item_list : json.Items → List json.Data
item_list json.no_items = []
item_list (json.item d ds) = d ∷ item_list ds

abbrev pub member_list : json.Members → List (List ℕ × json.Data)
member_list json.no_members = []
member_list (json.member key d ms) = (key, d) ∷ member_list ms

-- ---- the form of a value

-- a whole number as `serde_json` gives it: none is written with a fraction or an exponent, or as -0
abbrev pub integer_of : json.Data → Option ℤ
integer_of d = option_and_then as_i64 (as_number d)

-- from -2^bits to 2^bits - 1, where negsuc n is -(n + 1)
abbrev pub fits : ℕ → ℤ → Bool
fits bits (pos n) = nat_lt n (2 ^ bits)
fits bits (negsuc n) = nat_lt n (2 ^ bits)

abbrev pub whole_of : ℕ → json.Data → Option ℤ
whole_of bits d = option_and_then (λ n. if fits bits n then Some n else None) (integer_of d)

-- a list, where each of its items is in the form
abbrev pub list_in : {T : Type 0} → (json.Data → Option T) → json.Data → Option (List T)
list_in form d =
    option_and_then (λ ds. if list_all (λ item. is_some (form item)) (item_list ds) then Some (filter_map form (item_list ds)) else None) (as_array d)

-- what stands under the name of each type
abbrev pub forms : List (List ℕ × (json.Data → Option Value))
forms =
    (codes "bool", λ d. option_map value.Bool (as_bool d)) ∷
    (codes "byte", λ d. option_map value.Byte (whole_of 7 d)) ∷
    (codes "int", λ d. option_map value.Int (whole_of 31 d)) ∷
    (codes "long", λ d. option_map value.Long (whole_of 63 d)) ∷
    (codes "text", λ d. option_map value.Text (as_str d)) ∷
    (codes "bools", λ d. option_map value.Bools (list_in as_bool d)) ∷
    (codes "bytes", λ d. option_map value.Bytes (list_in (whole_of 7) d)) ∷
    (codes "ints", λ d. option_map value.Ints (list_in (whole_of 31) d)) ∷
    (codes "longs", λ d. option_map value.Longs (list_in (whole_of 63) d)) ∷
    (codes "texts", λ d. option_map value.Texts (list_in as_str d)) ∷ []

-- the name and the content of an object with one member
abbrev pub single_member : json.Members → Option (List ℕ × json.Data)
single_member (json.member name content json.no_members) = Some (name, content)
single_member _ = None

abbrev pub only_member : json.Data → Option (List ℕ × json.Data)
only_member d = option_and_then single_member (as_object d)

-- what stands under a name, in the form of that name
abbrev pub value_under : List ℕ → json.Data → Option Value
value_under name content = option_and_then (λ form. form content) (lookup (bytes_eq name) forms)

-- a value: an object whose one key is the name of a type
abbrev pub read_value : json.Data → Option Value
read_value d = option_and_then (λ m. value_under m.0 m.1) (only_member d)

-- ---- the form of Data

abbrev pub read_entry : List ℕ × json.Data → Option DataEntry
read_entry m = option_map (λ v. record { key = m.0; value = v }) (read_value m.1)

-- the entries put one after another
abbrev pub put_all : List DataEntry → List DataEntry → List DataEntry
put_all entries more = fold (λ built entry. with_entry entry built) entries more

-- The entries of members that are all in the form. The keys of an object ascend, so the first that isn't has the least key.
abbrev pub unless_bad : Option (List ℕ × json.Data) → List DataEntry → Result (List DataEntry) DataFault
unless_bad None entries = Ok entries
unless_bad (Some m) entries = Err (fault.BadData m.0)

abbrev pub entries_of : List (List ℕ × json.Data) → Result (List DataEntry) DataFault
entries_of ms = unless_bad (find (λ m. is_none (read_entry m)) ms) (put_all [] (filter_map read_entry ms))

-- the entries as Data, where there are some
abbrev pub and_built : Result (List DataEntry) DataFault → Result (List DataEntry) DataFault
and_built (Ok entries) = built_of entries
and_built (Err found) = Err found

-- a key that is empty comes before all else
abbrev pub read_members : List (List ℕ × json.Data) → Result (List DataEntry) DataFault
read_members ms = if list_any (λ m. length m.0 == 0) ms then Err fault.EmptyKey else and_built (entries_of ms)

-- what isn't an object is bad under the empty key
abbrev pub read_object : Option json.Members → Result (List DataEntry) DataFault
read_object None = Err (fault.BadData [])
read_object (Some ms) = read_members (member_list ms)

abbrev pub read_data : json.Data → Result (List DataEntry) DataFault
read_data d = read_object (as_object d)
