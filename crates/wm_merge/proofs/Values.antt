-- What the values of a key become by either merger, with one more.
use Rattle.std.proofs.Common.{◌≡◌, Bool, true, false, ◌||◌, not, List, [], ◌∷◌, ◌++◌, flat_map, Option, None, Some, is_some, option_map, unwrap_or, refl, sym, ap, ◌∙◌, append-nil, true≢false}
use Rattle.std.proofs.lemmas.List.Concat.{flat_map-append}
use Rattle.std.proofs.lemmas.List.Folds.{list_any-append}
use Rattle.wm_collections.proofs.Lists.{last_of-push}
use Rattle.wm_collections.specs.Lists.{last_of}
use Rattle.wm_data.specs.declared.merger.Merger.{Merger}
use Rattle.wm_data.specs.declared.merger.Merger.TheVariants as merger
use Rattle.wm_data.specs.declared.value.Value.{Value}
use Rattle.wm_data.specs.declared.value.Value.TheVariants as value
use Rattle.wm_merge.specs.Elements.{array_of, bools_of, bytes_of, element_type, ints_of, is_same, longs_of, texts_of}
use Rattle.wm_merge.specs.Growing.{appended, differs, first_value, next_value}
use Rattle.wm_merge.specs.Merged.{are_mixed, array_of_all}
use Rattle.wm_merge.specs.declared.element.ElementType.{ElementType}
use Rattle.wm_merge.specs.declared.element.ElementType.TheVariants as kind

-- what the values of a key become
abbrev pub merged_value : Merger → List Value → Option Value
merged_value merger.Overwriting values = last_of values
merged_value merger.ArrayCreating values = array_of_all values

-- the values of a key are a conflict
abbrev pub conflict : Merger → List Value → Bool
conflict merger.Overwriting values = false
conflict merger.ArrayCreating values = are_mixed values

-- ---- lists of values

last_of-some : {T : Type 0} (x : T) (xs : List T) → last_of (x ∷ xs) ≡ None → ⊥
last_of-some x [] e = true≢false (ap is_some e)
last_of-some x (y ∷ xs) e = last_of-some y xs e

flat_map-more : {X A : Type 0} (f : X → List A) (xs : List X) (x : X) → flat_map f xs ++ f x ≡ flat_map f (xs ++ x ∷ [])
flat_map-more f xs x = sym (flat_map-append f xs (x ∷ []) ∙ ap (λ rest. flat_map f xs ++ rest) (append-nil (f x)))

appended-array_of : (type : ElementType) (values : List Value) (v : Value) → appended (array_of type values) v ≡ array_of type (values ++ v ∷ [])
appended-array_of kind.Bool values v = ap value.Bools (flat_map-more bools_of values v)
appended-array_of kind.Byte values v = ap value.Bytes (flat_map-more bytes_of values v)
appended-array_of kind.Int values v = ap value.Ints (flat_map-more ints_of values v)
appended-array_of kind.Long values v = ap value.Longs (flat_map-more longs_of values v)
appended-array_of kind.Text values v = ap value.Texts (flat_map-more texts_of values v)

element_type-array_of : (type : ElementType) (values : List Value) → element_type (array_of type values) ≡ type
element_type-array_of kind.Bool values = refl
element_type-array_of kind.Byte values = refl
element_type-array_of kind.Int values = refl
element_type-array_of kind.Long values = refl
element_type-array_of kind.Text values = refl

-- ---- one more

pub merged_value-first : (how : Merger) (v : Value) → merged_value how (v ∷ []) ≡ Some (first_value how v)
merged_value-first merger.Overwriting v = refl
merged_value-first merger.ArrayCreating v = ap Some (sym (appended-array_of (element_type v) [] v))

pub merged_value-next : (how : Merger) (values : List Value) (there v : Value) → merged_value how values ≡ Some there
    → merged_value how (values ++ v ∷ []) ≡ Some (next_value how there v)
merged_value-next merger.Overwriting values there v e = last_of-push values v
merged_value-next merger.ArrayCreating [] there v e = absurd (true≢false (sym (ap is_some e)))
merged_value-next merger.ArrayCreating (first ∷ values) there v e =
    ap Some (sym (appended-array_of (element_type first) (first ∷ values) v)) ∙ ap (option_map (λ grown. appended grown v)) e

pub merged_value-nothing : (how : Merger) → merged_value how [] ≡ None
merged_value-nothing merger.Overwriting = refl
merged_value-nothing merger.ArrayCreating = refl

pub merged_value-none : (how : Merger) (values : List Value) → merged_value how values ≡ None → values ≡ []
merged_value-none how [] e = refl
merged_value-none merger.Overwriting (v ∷ values) e = absurd (last_of-some v values e)
merged_value-none merger.ArrayCreating (v ∷ values) e = absurd (true≢false (ap is_some e))

-- ---- a conflict

or_false : (a b : Bool) → (a || (b || false)) ≡ (a || b)
or_false true b = refl
or_false false true = refl
or_false false false = refl

pub conflict-few : (how : Merger) (v : Value) → (conflict how [] ≡ false) × (conflict how (v ∷ []) ≡ false)
conflict-few merger.Overwriting v = (refl, refl)
conflict-few merger.ArrayCreating v = (refl, refl)

pub conflict-next : (how : Merger) (values : List Value) (there v : Value) → merged_value how values ≡ Some there
    → conflict how (values ++ v ∷ []) ≡ (conflict how values || differs how there v)
conflict-next merger.Overwriting values there v e = refl
conflict-next merger.ArrayCreating [] there v e = absurd (true≢false (sym (ap is_some e)))
conflict-next merger.ArrayCreating (first ∷ values) there v e =
    let type : element_type first ≡ element_type there =
    sym (element_type-array_of (element_type first) (first ∷ values)) ∙ ap element_type (ap (λ o. unwrap_or o v) e) in
    let test = λ (x : Value). not (is_same (element_type first) (element_type x)) in
    list_any-append test values (v ∷ []) ∙ or_false _ (test v)
    ∙ ap (λ t. conflict merger.ArrayCreating (first ∷ values) || not (is_same t (element_type v))) type
