-- What the views have in hand and which is the roll's, once a view takes the place of another.
use Rattle.std.proofs.Common.{◌≡◌, ℕ, zero, suc, ◌+◌, List, [], ◌∷◌, ◌++◌, set, count_by, refl, sym, ap, subst, ◌∙◌, arith}
use Rattle.std.specs.List.{AllByRecursion}
use Rattle.std.proofs.lemmas.List.Sums.{sum_by-append}
use Rattle.std.proofs.Common.{cond, Bool}
use mathlib.Core.Option.{some, some-injective, some-ne-none}
use lib.ListN.{get_elem?}
use Rattle.wm_collections.proofs.Lists.{All-append, All-back, All-front}
use Rattle.wm_roll.specs.Rule.{held_by, held_in, lists_in}
use Rattle.wm_roll.specs.declared.part.Part.{Part}
use Rattle.wm_roll.specs.declared.view.Lists.{Lists}
use Rattle.wm_roll.specs.declared.view.View.{View}
use Rattle.wm_roll.specs.declared.view.View.TheVariants.{OfRoll, OfToken, Spent}

-- ---- which is the roll's

-- a view that is the roll's is among the views
no_roll : (views : List View) (id : ℕ) (lists : Lists) → get_elem? views id ≡ some (OfRoll lists) → lists_in views ≡ [] → ⊥
no_roll [] id lists at none = some-ne-none (OfRoll lists) (sym at)
no_roll (OfRoll its ∷ views) id lists at none = absurd cc
no_roll (OfToken part ∷ views) zero lists at none = absurd cc
no_roll (Spent ∷ views) zero lists at none = absurd cc
no_roll (OfToken part ∷ views) (suc id) lists at none = no_roll views id lists at none
no_roll (Spent ∷ views) (suc id) lists at none = no_roll views id lists at none

-- the roll's view is the one that the rule speaks of, and so is the one that takes its place
pub roll-changed : (views : List View) (id : ℕ) (its lists new : Lists) → get_elem? views id ≡ some (OfRoll its) → lists_in views ≡ lists ∷ []
    → (its ≡ lists) × (lists_in (set views id (OfRoll new)) ≡ new ∷ [])
roll-changed [] id its lists new at roll = absurd (some-ne-none (OfRoll its) (sym at))
roll-changed (OfRoll first ∷ views) zero its lists new at roll =
    let none : lists_in views ≡ [] = cc in
    (cc, ap (λ rest. new ∷ rest) none)
roll-changed (OfToken part ∷ views) zero its lists new at roll = absurd cc
roll-changed (Spent ∷ views) zero its lists new at roll = absurd cc
roll-changed (OfRoll first ∷ views) (suc id) its lists new at roll = absurd (no_roll views id its at (cc))
roll-changed (OfToken part ∷ views) (suc id) its lists new at roll = roll-changed views id its lists new at roll
roll-changed (Spent ∷ views) (suc id) its lists new at roll = roll-changed views id its lists new at roll

-- a token's view is spent
pub roll-spent : (views : List View) (id : ℕ) (part : Part) → get_elem? views id ≡ some (OfToken part) → lists_in (set views id Spent) ≡ lists_in views
roll-spent [] id part at = refl
roll-spent (OfRoll lists ∷ views) zero part at = absurd cc
roll-spent (OfToken its ∷ views) zero part at = refl
roll-spent (Spent ∷ views) zero part at = refl
roll-spent (OfRoll lists ∷ views) (suc id) part at = ap (λ rest. lists ∷ rest) (roll-spent views id part at)
roll-spent (OfToken its ∷ views) (suc id) part at = roll-spent views id part at
roll-spent (Spent ∷ views) (suc id) part at = roll-spent views id part at

-- a new token is no roll
pub roll-given : (views : List View) (part : Part) → lists_in (views ++ OfToken part ∷ []) ≡ lists_in views
roll-given [] part = refl
roll-given (OfRoll lists ∷ views) part = ap (λ rest. lists ∷ rest) (roll-given views part)
roll-given (OfToken its ∷ views) part = roll-given views part
roll-given (Spent ∷ views) part = roll-given views part

-- ---- what is in hand

-- a view with as much in hand
pub held-same : (views : List View) (id : ℕ) (old new : View) → get_elem? views id ≡ some old → held_by new ≡ held_by old → held_in (set views id new) ≡ held_in views
held-same [] id old new at same = refl
held-same (view ∷ views) zero old new at same =
    let is : view ≡ old = some-injective view old at in
    ap (λ held. held ++ held_in views) (same ∙ ap held_by (sym is))
held-same (view ∷ views) (suc id) old new at same = ap (λ held. held_by view ++ held) (held-same views id old new at same)

-- a new token has its part in hand
pub held-given : (views : List View) (part : Part) → held_in (views ++ OfToken part ∷ []) ≡ held_in views ++ part ∷ []
held-given [] part = refl
held-given (view ∷ views) part = ap (λ held. held_by view ++ held) (held-given views part) ∙ assoc (held_by view) (held_in views) (part ∷ [])
  where
    assoc : (xs ys zs : List Part) → xs ++ (ys ++ zs) ≡ (xs ++ ys) ++ zs
    assoc [] ys zs = refl
    assoc (x ∷ xs) ys zs = ap (λ rest. x ∷ rest) (assoc xs ys zs)

-- what all have in hand holds of each still where it holds of what the new view has
pub held-All : (P : Part → Type 0) (views : List View) (id : ℕ) (new : View) → AllByRecursion P (held_in views) → AllByRecursion P (held_by new)
    → AllByRecursion P (held_in (set views id new))
held-All P [] id new all more = all
held-All P (view ∷ views) zero new all more = All-append P (held_by new) (held_in views) more (All-back P (held_by view) (held_in views) all)
held-All P (view ∷ views) (suc id) new all more =
    All-append P (held_by view) (held_in (set views id new)) (All-front P (held_by view) (held_in views) all)
    (held-All P views id new (All-back P (held_by view) (held_in views) all) more)

-- what is asked of all in hand is asked of one view
pub held-at : (P : Part → Type 0) (views : List View) (id : ℕ) (view : View) → get_elem? views id ≡ some view → AllByRecursion P (held_in views)
    → AllByRecursion P (held_by view)
held-at P [] id view at all = absurd (some-ne-none view (sym at))
held-at P (first ∷ views) zero view at all =
    subst (λ (one : View). AllByRecursion P (held_by one)) (some-injective first view at) (All-front P (held_by first) (held_in views) all)
held-at P (first ∷ views) (suc id) view at all = held-at P views id view at (All-back P (held_by first) (held_in views) all)

count-append : (test : Part → Bool) (xs ys : List Part) → count_by test (xs ++ ys) ≡ count_by test xs + count_by test ys
count-append test xs ys = sum_by-append (λ (part : Part). cond (test part) 1 0) xs ys

-- how many that pass are in hand, where a new view takes the place of an old one
pub held-count : (test : Part → Bool) (views : List View) (id : ℕ) (old new : View) → get_elem? views id ≡ some old
    → count_by test (held_in (set views id new)) + count_by test (held_by old) ≡ count_by test (held_in views) + count_by test (held_by new)
held-count test [] id old new at = absurd (some-ne-none old (sym at))
held-count test (view ∷ views) zero old new at =
    let same : count_by test (held_by view) ≡ count_by test (held_by old) = ap (λ (one : View). count_by test (held_by one)) (some-injective view old at) in
    omega (arith, count-append test (held_by new) (held_in views), count-append test (held_by view) (held_in views), same)
held-count test (view ∷ views) (suc id) old new at =
    omega (arith, count-append test (held_by view) (held_in (set views id new)), count-append test (held_by view) (held_in views), held-count test views id old new at)
