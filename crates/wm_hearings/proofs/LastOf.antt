-- The last of a list, by its index.
use Rattle.std.proofs.Common.{◌≡◌, suc, ◌-◌, List, [], ◌∷◌, length, slice_get, refl, ◌∙◌, ap, arith}
use Rattle.wm_collections.specs.Lists.{last_of}

pub slice_get-last : {T : Type 0} (xs : List T) → slice_get xs (length xs - 1) ≡ last_of xs
slice_get-last [] = refl
slice_get-last (x ∷ []) = refl
slice_get-last (x ∷ y ∷ xs) =
    let last : suc (suc (length xs)) - 1 ≡ suc (length xs) = omega arith in
    let before : length xs ≡ suc (length xs) - 1 = omega arith in
    ap (slice_get (x ∷ y ∷ xs)) last ∙ ap (slice_get (y ∷ xs)) before ∙ slice_get-last (y ∷ xs)
