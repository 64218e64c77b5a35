-- One step of a walk over ids, and over works.
use Rattle.std.proofs.Common.{◌≡◌, ℕ, ◌+◌, ◌<◌, Bool, true, false, ◌||◌, cond, List, [], ◌∷◌, ◌++◌, length, get_or, take, drop, Option, Some, None, is_some, refl, sym, ap, ◌∙◌}
use Rattle.std.specs.Cmp.Lexicographic.{slice_cmp}
use Rattle.std.specs.Ordering.{is_eq, nat_cmp}
use Rattle.std.specs.Str.{bytes_eq}
use Rattle.std.proofs.lemmas.List.{drop_more, map-append, take_more}
use Rattle.std.proofs.lemmas.List.Folds.{list_any-append}
use Rattle.std.proofs.lemmas.Map.Text.{is_eq-slice_cmp}
use Rattle.wm_chain.specs.Walk.{again, fault_from, fault_in, fault_of, first_fault}
use Rattle.wm_chain.specs.declared.fault.ChainFault.{ChainFault}
use Rattle.wm_request.specs.Batches.{has_id, ids_of, periodic_ids}
use Rattle.wm_request.specs.declared.request.Node.{Node}

-- ---- ids

module _ (ids : List (List ℕ)) (i : ℕ) (id : List ℕ) (within : i < length ids) (is : id ≡ get_or ids i id) where
  left : drop i ids ≡ id ∷ drop (i + 1) ids
  left = drop_more ids i id within ∙ ap (λ x. x ∷ drop (i + 1) ids) (sym is)

  seen : take (i + 1) ids ≡ take i ids ++ id ∷ []
  seen = take_more ids i id within ∙ ap (λ x. take i ids ++ x ∷ []) (sym is)

  step : (b : Bool) → has_id (take i ids) id ≡ b → again (take i ids) (drop i ids) ≡ cond b (Some id) (again (take (i + 1) ids) (drop (i + 1) ids))
  step b e =
      ap (again (take i ids)) left ∙ ap (λ t. cond t (Some id) (again (take i ids ++ id ∷ []) (drop (i + 1) ids))) e
      ∙ ap (λ before. cond b (Some id) (again before (drop (i + 1) ids))) (sym seen)

  -- it stands a second time
  pub again-here : again (take i ids) (drop i ids) ≡ again [] ids → has_id (take i ids) id ≡ true → Some id ≡ again [] ids
  again-here so_far e = sym (step true e) ∙ so_far

  -- it stands for the first time
  pub again-on : again (take i ids) (drop i ids) ≡ again [] ids → has_id (take i ids) id ≡ false → again (take (i + 1) ids) (drop (i + 1) ids) ≡ again [] ids
  again-on so_far e = sym (step false e) ∙ so_far

-- whether an id is among those seen or is the next one
either : (next seen before : Bool) → before ≡ seen → cond next true before ≡ (seen || (next || false))
either true true before e = refl
either true false before e = refl
either false true before e = e
either false false before e = e

-- one id more is seen
pub more-seen : (ids : List (List ℕ)) (i : ℕ) (id : List ℕ) → i < length ids → id ≡ get_or ids i id → (other : List ℕ) (before : Bool)
    → before ≡ has_id (take i ids) other → cond (is_eq (slice_cmp nat_cmp id other)) true before ≡ has_id (take (i + 1) ids) other
more-seen ids i id within is other before e =
    ap (λ next. cond next true before) (is_eq-slice_cmp id other) ∙ either (bytes_eq id other) (has_id (take i ids) other) before e
    ∙ sym (list_any-append (λ one. bytes_eq one other) (take i ids) (id ∷ [])) ∙ ap (λ list. has_id list other) (sym (seen ids i id within is))

-- ---- works

first-none : (found later : Option ChainFault) → is_some found ≡ false → first_fault (found ∷ later ∷ []) ≡ later
first-none (Some fault) later e = absurd (cc)
first-none None (Some fault) e = refl
first-none None None e = refl

module _ (works : List Node) (i : ℕ) (work : Node) (within : i < length works) (is : work ≡ get_or works i work)
    (so_far : fault_from (periodic_ids works) (ids_of (take i works)) (drop i works) ≡ fault_in works) where
  abbrev periodic : List (List ℕ)
  periodic = periodic_ids works

  others : drop i works ≡ work ∷ drop (i + 1) works
  others = drop_more works i work within ∙ ap (λ x. x ∷ drop (i + 1) works) (sym is)

  more : ids_of (take (i + 1) works) ≡ ids_of (take i works) ++ work.request.id ∷ []
  more =
      ap ids_of (take_more works i work within ∙ ap (λ x. take i works ++ x ∷ []) (sym is)) ∙ map-append (λ (w : Node). w.request.id) (take i works) (work ∷ [])

  turn : first_fault (fault_of periodic (ids_of (take i works)) work ∷ fault_from periodic (ids_of (take (i + 1) works)) (drop (i + 1) works) ∷ [])
      ≡ fault_in works
  turn =
      ap (λ before. first_fault (fault_of periodic (ids_of (take i works)) work ∷ fault_from periodic before (drop (i + 1) works) ∷ [])) more
      ∙ sym (ap (fault_from periodic (ids_of (take i works))) others) ∙ so_far
