-- Lists that are read item by item.
use Rattle.std.proofs.Common.{◌≡◌, ℕ, ◌+◌, ◌<◌, true, cond, List, [], ◌∷◌, ◌++◌, length, map, take, get_or, filter_map, is_some, Option, Some, None, refl, ap, ◌∙◌}
use Rattle.std.proofs.lemmas.List.{take_more, map-append}
use Rattle.std.proofs.lemmas.List.Elements.{filter_map-append}
use Rattle.std.proofs.lemmas.List.Folds.{list_all-append, list_all-map, list_all_at}
use Rattle.std.specs.List.{list_all}
use Rattle.serde_json.specs.Data as json
use Rattle.serde_json.specs.Find.{as_array}
use Rattle.serde_json.specs.View.{items_of, items_view, view}
use Rattle.serde_json.specs.declared.value.Value.{Value}
use Rattle.wm_data.specs.DataRead.{item_list, list_in}

pub item_list-items_of : (ds : List json.Data) → item_list (items_of ds) ≡ ds
item_list-items_of [] = refl
item_list-items_of (d ∷ ds) = ap (λ rest. d ∷ rest) (item_list-items_of ds)

-- the items so far are all in the form, and these are what they are read as
abbrev pub AreRead : {T : Type 0} → (json.Data → Option T) → List Value → List T → Type 0
AreRead form vs es = (list_all (λ item. is_some (form item)) (map view vs) ≡ true) × (es ≡ filter_map form (map view vs))

AreRead-append : {T : Type 0} (form : json.Data → Option T) (vs : List Value) (v : Value) (es : List T) (e : T) → AreRead form vs es
    → form (view v) ≡ Some e → AreRead form (vs ++ v ∷ []) (es ++ e ∷ [])
AreRead-append form vs v es e h is =
    rw (map-append view vs (v ∷ [])) (
      list_all-append (λ item. is_some (form item)) (map view vs) (view v ∷ []) ∙ rw (h.0, is) refl,
      rw (filter_map-append form (map view vs) (view v ∷ []), is) (ap (λ front. front ++ e ∷ []) h.1),
    )

-- one item more
pub AreRead-more : {T : Type 0} (form : json.Data → Option T) (vs : List Value) (i : ℕ) (d : Value) (es : List T) (e : T) → i < length vs
    → AreRead form (take i vs) es → form (view (get_or vs i d)) ≡ Some e → AreRead form (take (i + 1) vs) (es ++ e ∷ [])
AreRead-more form vs i d es e h are is = rw (take_more vs i d h) (AreRead-append form (take i vs) (get_or vs i d) es e are is)

list_in-answer : {T : Type 0} (form : json.Data → Option T) (d : json.Data) (vs : List Value) → as_array d ≡ Some (items_view vs)
    → list_in form d ≡ cond (list_all (λ item. is_some (form item)) (map view vs)) (Some (filter_map form (map view vs))) None
list_in-answer form d vs e = rw (e, item_list-items_of (map view vs)) refl

-- all items are in the form
pub list_in-all : {T : Type 0} (form : json.Data → Option T) (d : json.Data) (vs : List Value) (es : List T) → as_array d ≡ Some (items_view vs)
    → AreRead form vs es → Some es ≡ list_in form d
list_in-all form d vs es e are = rw (list_in-answer form d vs e, are.0) (ap Some are.1)

-- one isn't
pub list_in-none : {T : Type 0} (form : json.Data → Option T) (d : json.Data) (vs : List Value) (i : ℕ) (v : Value) → as_array d ≡ Some (items_view vs)
    → i < length vs → form (view (get_or vs i v)) ≡ None → None ≡ list_in form d
list_in-none form d vs i v e h none =
    let one = list_all_at (λ x. is_some (form (view x))) vs i v h (ap is_some none) in
    rw (list_in-answer form d vs e, list_all-map (λ item. is_some (form item)) view vs, one) refl
