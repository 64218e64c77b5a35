-- The tags that were written are read again.
use Rattle.serde_json.specs.Data.{Data, array, depth, items_depth, string}
use Rattle.serde_json.specs.Read.{max_depth, read}
use Rattle.serde_json.specs.View.{items_of}
use Rattle.std.proofs.Common.{◌≡◌, ℕ, ◌≤◌, List, [], ◌∷◌, map, Some, option_map, refl, ap, arith}
use Rattle.wm_columns.specs.Columns.{tags_in, texts_of}

-- texts nest no deeper than a list of them
texts_depth : (texts : List (List ℕ)) → items_depth (items_of (map string texts)) ≡ 0
texts_depth [] = refl
texts_depth (text ∷ texts) = omega (arith, texts_depth texts)

-- a list of texts is read as these texts
texts_of-strings : (texts : List (List ℕ)) → texts_of (items_of (map string texts)) ≡ Some texts
texts_of-strings [] = refl
texts_of-strings (text ∷ texts) = ap (λ more. option_map (λ all. text ∷ all) more) (texts_of-strings texts)

-- what is printed for tags is read as they are, if it is read as what it was printed for
pub tags_again : (texts : List (List ℕ)) (d : Data) (text : List ℕ) → d ≡ array (items_of (map string texts))
    → (depth d ≤ max_depth → read text ≡ Some d) → tags_in text ≡ Some texts
tags_again texts d text is reads =
    let deep : depth d ≤ max_depth = rw is (omega (arith, texts_depth texts)) in
    rw (reads deep, is) (texts_of-strings texts)
