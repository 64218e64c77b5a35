-- Data as JSON, and its canonical text.
use Rattle.std.specs.Prelude.{ℕ, ℤ, List, [], ◌∷◌, map, codes}
use Rattle.serde_json.specs.Data as json
use Rattle.serde_json.specs.Find.{of_integer}
use Rattle.serde_json.specs.View.{items_of}
use Rattle.serde_json.specs.Written.{compact_text}
use Rattle.wm_data.specs.declared.data.DataEntry.{DataEntry}
use Rattle.wm_data.specs.declared.value.Value.{Value}
use Rattle.wm_data.specs.declared.value.Value.TheVariants as value

-- an object whose one key is the name of a type
abbrev pub typed : List ℕ → json.Data → json.Data
typed name content = json.object (json.member name content json.no_members)

abbrev pub whole : ℤ → json.Data
whole n = json.number (of_integer n)

abbrev pub list_of : {T : Type 0} → (T → json.Data) → List T → json.Data
list_of form contents = json.array (items_of (map form contents))

-- a value, under the name of its type
abbrev pub value_json : Value → json.Data
value_json (value.Bool b) = typed (codes "bool") (json.boolean b)
value_json (value.Byte n) = typed (codes "byte") (whole n)
value_json (value.Int n) = typed (codes "int") (whole n)
value_json (value.Long n) = typed (codes "long") (whole n)
value_json (value.Text text) = typed (codes "text") (json.string text)
value_json (value.Bools bs) = typed (codes "bools") (list_of json.boolean bs)
value_json (value.Bytes ns) = typed (codes "bytes") (list_of whole ns)
value_json (value.Ints ns) = typed (codes "ints") (list_of whole ns)
value_json (value.Longs ns) = typed (codes "longs") (list_of whole ns)
value_json (value.Texts texts) = typed (codes "texts") (list_of json.string texts)

-- the entries, each under its key
abbrev pub entries_json : List DataEntry → json.Members
entries_json [] = json.no_members
entries_json (entry ∷ entries) = json.member entry.key (value_json entry.value) (entries_json entries)

abbrev pub data_json : List DataEntry → json.Data
data_json entries = json.object (entries_json entries)

-- the canonical text: compact, keys in ascending byte order
abbrev pub data_text : List DataEntry → List ℕ
data_text entries = compact_text (data_json entries)
