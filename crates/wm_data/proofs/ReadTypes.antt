-- What is read out of JSON is in its type.
use Rattle.std.proofs.Common.{◌≡◌, ℕ, ℤ, pos, negsuc, true, List, Option, IfSome, option_map, FitsSigned, rules}
use mir.Val.{hbits}
use Rattle.std.proofs.lemmas.Bool.{ltb-true}
use Rattle.std.proofs.lemmas.List.Elements.{All-from_recursion}
use Rattle.std.proofs.lemmas.Map.Views.{IfSome-lookup_from_All}
use Rattle.std.specs.Int.{w8, w32, w64, Width}
use Rattle.std.specs.List.{AllByRecursion}
use Rattle.std.specs.Map.{lookup, values_of}
use Rattle.std.specs.Str.{bytes_eq}
use Rattle.serde_json.specs.Data as json
use Rattle.serde_json.specs.Find.{as_array}
use Rattle.wm_collections.proofs.Options.{each_read, map_any, map_of, tested, then_any, then_of}
use Rattle.wm_data.specs.DataRead.{fits, forms, integer_of, item_list, list_in, only_member, read_entry, read_value, whole_of}
use Rattle.wm_data.specs.InType.{IsInType}
use Rattle.wm_data.specs.declared.data.DataEntry.{DataEntry}
use Rattle.wm_data.specs.declared.value.Value.{Value}

-- a number that fits is in its type
fits_signed : (w : Width) (n : ℤ) → fits (hbits w) n ≡ true → FitsSigned w n
fits_signed w (pos n) e = record { sfits = ltb-true n _ e }
fits_signed w (negsuc n) e = record { sfits = ltb-true n _ e }

whole_in_type : (w : Width) (d : json.Data) → IfSome (whole_of (hbits w) d) (FitsSigned w)
whole_in_type w d = then_any (FitsSigned w) _ (integer_of d) (λ n. tested (FitsSigned w) (fits (hbits w) n) n (fits_signed w n))

list_in_type : {T : Type 0} (P : T → Type 0) (form : json.Data → Option T) (d : json.Data) → ((item : json.Data) → IfSome (form item) P)
    → IfSome (list_in form d) (AllByRecursion P)
list_in_type P form d each =
    then_any (AllByRecursion P) _ (as_array d) (λ ds. tested (AllByRecursion P) _ _ (λ all. each_read P form each (item_list ds)))

-- what a form gives is in its type
abbrev GivesInType : (json.Data → Option Value) → Type 0
GivesInType form = (d : json.Data) → IfSome (form d) IsInType

-- a number, and a list of numbers
one_in_type : (w : Width) (put : ℤ → Value) → ((n : ℤ) → FitsSigned w n → IsInType (put n)) → GivesInType (λ d. option_map put (whole_of (hbits w) d))
one_in_type w put is d = map_of (FitsSigned w) IsInType put (whole_of (hbits w) d) (whole_in_type w d) is

many_in_type : (w : Width) (put : List ℤ → Value) → ((ns : List ℤ) → AllByRecursion (FitsSigned w) ns → IsInType (put ns))
    → GivesInType (λ d. option_map put (list_in (whole_of (hbits w)) d))
many_in_type w put are d =
    map_of (AllByRecursion (FitsSigned w)) IsInType put (list_in (whole_of (hbits w)) d)
    (list_in_type (FitsSigned w) (whole_of (hbits w)) d (whole_in_type w)) are

-- all ten do
forms_in_type : AllByRecursion GivesInType (values_of forms)
forms_in_type =
    search (rules, map_any, one_in_type w8, one_in_type w32, one_in_type w64, many_in_type w8, many_in_type w32, many_in_type w64)

value_in_type : (d : json.Data) → IfSome (read_value d) IsInType
value_in_type d =
    then_any IsInType _ (only_member d) (λ m. then_of GivesInType IsInType _ (lookup (bytes_eq m.0) forms)
    (IfSome-lookup_from_All GivesInType (bytes_eq m.0) forms (All-from_recursion GivesInType (values_of forms) forms_in_type)) (λ form gives. gives m.1))

-- what is read of a member is in its type
pub entry_in_type : (m : List ℕ × json.Data) → IfSome (read_entry m) (λ entry. IsInType entry.value)
entry_in_type m = map_of IsInType (λ (entry : DataEntry). IsInType entry.value) _ (read_value m.1) (value_in_type m.1) (λ v is. is)
