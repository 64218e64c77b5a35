-- What the views have, once a view takes the place of another, or comes to them.
use Rattle.std.proofs.Common.{◌≡◌, ℕ, zero, suc, List, [], ◌∷◌, ◌++◌, set, refl, sym, ap, subst, ◌∙◌}
use Rattle.std.specs.List.{AllByRecursion}
use mathlib.Core.Option.{some, some-injective, some-ne-none}
use lib.ListN.{get_elem?}
use Rattle.wm_collections.proofs.Lists.{All-append, All-back, All-front}
use Rattle.wm_callers.specs.Rule.{all_by, all_in, owns_by, owns_in}
use Rattle.wm_callers.specs.declared.entry.Signed.{Signed}
use Rattle.wm_callers.specs.declared.view.DeskKnows.{DeskKnows}
use Rattle.wm_callers.specs.declared.view.Own.{Own}
use Rattle.wm_callers.specs.declared.view.View.{View}
use Rattle.wm_callers.specs.declared.view.View.TheVariants.{OfDesk, OfPass, Spent}

-- ---- which is the desk's

-- a desk's view is among the views
no_desk : (views : List View) (id : ℕ) (desk : DeskKnows) → get_elem? views id ≡ some (OfDesk desk) → all_in views ≡ [] → ⊥
no_desk [] id desk at none = some-ne-none (OfDesk desk) (sym at)
no_desk (OfDesk its ∷ views) id desk at none = absurd cc
no_desk (OfPass pass ∷ views) zero desk at none = absurd cc
no_desk (Spent ∷ views) zero desk at none = absurd cc
no_desk (OfPass pass ∷ views) (suc id) desk at none = no_desk views id desk at none
no_desk (Spent ∷ views) (suc id) desk at none = no_desk views id desk at none

-- the rule speaks of the entries of the desk's own view, and then of those of the one that takes its place
pub all-changed : (views : List View) (id : ℕ) (its new : DeskKnows) (all : List Signed) → get_elem? views id ≡ some (OfDesk its) → all_in views ≡ all ∷ []
    → (its.all ≡ all) × (all_in (set views id (OfDesk new)) ≡ new.all ∷ [])
all-changed [] id its new all at desk = absurd (some-ne-none (OfDesk its) (sym at))
all-changed (OfDesk first ∷ views) zero its new all at desk =
    let none : all_in views ≡ [] = cc in
    (cc, ap (λ rest. new.all ∷ rest) none)
all-changed (OfPass pass ∷ views) zero its new all at desk = absurd cc
all-changed (Spent ∷ views) zero its new all at desk = absurd cc
all-changed (OfDesk first ∷ views) (suc id) its new all at desk = absurd (no_desk views id its at (cc))
all-changed (OfPass pass ∷ views) (suc id) its new all at desk = all-changed views id its new all at desk
all-changed (Spent ∷ views) (suc id) its new all at desk = all-changed views id its new all at desk

-- a view that is no desk's, before and after
pub all-same : (views : List View) (id : ℕ) (old new : View) → get_elem? views id ≡ some old → all_by new ≡ all_by old → all_in (set views id new) ≡ all_in views
all-same [] id old new at same = refl
all-same (view ∷ views) zero old new at same =
    let is : view ≡ old = some-injective view old at in
    ap (λ all. all ++ all_in views) (same ∙ ap all_by (sym is))
all-same (view ∷ views) (suc id) old new at same = ap (λ all. all_by view ++ all) (all-same views id old new at same)

-- a new one
pub all-given : (views : List View) (new : View) → all_by new ≡ [] → all_in (views ++ new ∷ []) ≡ all_in views
all-given [] new none = ap (λ all. all ++ []) none
all-given (view ∷ views) new none = ap (λ all. all_by view ++ all) (all-given views new none)

-- ---- what is known of callers

-- what holds of all that is known holds of it still where it holds of what the new view knows
pub owns-set : (P : Own → Type 0) (views : List View) (id : ℕ) (new : View) → AllByRecursion P (owns_in views) → AllByRecursion P (owns_by new)
    → AllByRecursion P (owns_in (set views id new))
owns-set P [] id new all more = all
owns-set P (view ∷ views) zero new all more = All-append P (owns_by new) (owns_in views) more (All-back P (owns_by view) (owns_in views) all)
owns-set P (view ∷ views) (suc id) new all more =
    All-append P (owns_by view) (owns_in (set views id new)) (All-front P (owns_by view) (owns_in views) all)
    (owns-set P views id new (All-back P (owns_by view) (owns_in views) all) more)

pub owns-at : (P : Own → Type 0) (views : List View) (id : ℕ) (view : View) → get_elem? views id ≡ some view → AllByRecursion P (owns_in views)
    → AllByRecursion P (owns_by view)
owns-at P [] id view at all = absurd (some-ne-none view (sym at))
owns-at P (first ∷ views) zero view at all =
    subst (λ (one : View). AllByRecursion P (owns_by one)) (some-injective first view at) (All-front P (owns_by first) (owns_in views) all)
owns-at P (first ∷ views) (suc id) view at all = owns-at P views id view at (All-back P (owns_by first) (owns_in views) all)

pub owns-given : (P : Own → Type 0) (views : List View) (new : View) → AllByRecursion P (owns_in views) → AllByRecursion P (owns_by new)
    → AllByRecursion P (owns_in (views ++ new ∷ []))
owns-given P [] new all more = All-append P (owns_by new) [] more tt
owns-given P (view ∷ views) new all more =
    All-append P (owns_by view) (owns_in (views ++ new ∷ [])) (All-front P (owns_by view) (owns_in views) all)
    (owns-given P views new (All-back P (owns_by view) (owns_in views) all) more)
