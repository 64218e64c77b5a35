-- No Data has a float in its JSON, so its compact text is what `to_string` and `to_vec` give.
use Rattle.std.proofs.Common.{◌≡◌, ℤ, pos, negsuc, List, [], ◌∷◌, map, false, refl}
use Rattle.serde_json.specs.Data as json
use Rattle.serde_json.specs.View.{items_of}
use Rattle.serde_json.specs.Written.{has_float, items_have_float, members_have_float}
use Rattle.wm_data.specs.DataJson.{entries_json, value_json, whole}
use Rattle.wm_data.specs.declared.data.DataEntry.{DataEntry}
use Rattle.wm_data.specs.declared.value.Value.{Value}
use Rattle.wm_data.specs.declared.value.Value.TheVariants as value

-- a list has no float where none of its items has one
pub list_has_no_float : {T : Type 0} (form : T → json.Data) (contents : List T) → ((content : T) → has_float (form content) ≡ false)
    → items_have_float (items_of (map form contents)) ≡ false
list_has_no_float form [] each = refl
list_has_no_float form (content ∷ contents) each = rw (each content) (list_has_no_float form contents each)

whole_has_no_float : (n : ℤ) → has_float (whole n) ≡ false
whole_has_no_float (pos n) = refl
whole_has_no_float (negsuc n) = refl

value_has_no_float : (v : Value) → has_float (value_json v) ≡ false
value_has_no_float (value.Bool b) = refl
value_has_no_float (value.Byte n) = rw (whole_has_no_float n)
value_has_no_float (value.Int n) = rw (whole_has_no_float n)
value_has_no_float (value.Long n) = rw (whole_has_no_float n)
value_has_no_float (value.Text text) = refl
value_has_no_float (value.Bools bs) = rw (list_has_no_float json.boolean bs (λ b. refl))
value_has_no_float (value.Bytes ns) = rw (list_has_no_float whole ns whole_has_no_float)
value_has_no_float (value.Ints ns) = rw (list_has_no_float whole ns whole_has_no_float)
value_has_no_float (value.Longs ns) = rw (list_has_no_float whole ns whole_has_no_float)
value_has_no_float (value.Texts texts) = rw (list_has_no_float json.string texts (λ text. refl))

pub entries_have_no_float : (entries : List DataEntry) → members_have_float (entries_json entries) ≡ false
entries_have_no_float [] = refl
entries_have_no_float (entry ∷ entries) = rw (value_has_no_float entry.value) (entries_have_no_float entries)
