-- One number more in a walk.
use Rattle.std.proofs.Common.{◌≡◌, ℕ, ◌<◌, ◌≤◌, length, ◌==◌, ◌||◌, Bool, true, false, cond, List, [], ◌∷◌, ◌++◌, refl, sym, ap, ◌∙◌, arith, inl, inr, length-append}
use Rattle.std.proofs.lemmas.Bool.{or_cases}
use Rattle.std.proofs.lemmas.Bool.Decides.{nat_tests}
use Rattle.std.proofs.lemmas.List.Folds.{list_any-append}
use Rattle.std.specs.Ordering.{is_eq, is_gt, nat_cmp}
use Rattle.std.specs.BTreeSet.{BTreeSet, IsLowerBound, Updates}
use Rattle.wm_collections.proofs.Lists.{All-push, All-weaker, AllLater-push}
use Rattle.std.specs.List.{AllByRecursion}
use Rattle.wm_collections.specs.Lists.{AllLater, is_among}
use Rattle.wm_collections.specs.Sets.{has_number}
use Rattle.wm_graph.specs.Edges.{comes_after, has_edge, AreRising, Edge}

-- ---- a walk under way

-- a number that is left is greater than all that were found
pub record IsLeft (found : List ℕ) (number : ℕ) : Type 0 where
  pub above : AllByRecursion (λ one. one < number) found
  pub many : length found ≤ number

pub record IsWalking (edges : BTreeSet Edge) (starts todo : BTreeSet ℕ) (found : List ℕ) : Type 0 where
  pub ascending : AllLater (λ number later. number < later) found
  pub each : (number : ℕ) → (is_among found number || has_number todo number) ≡ (has_number starts number || comes_after edges found number)
  pub left : (number : ℕ) → has_number todo number ≡ true → IsLeft found number

-- ---- one number more

each-step : (a t p e s c q : Bool) → (a || t) ≡ (s || c) → p ≡ cond q false t → (q ≡ true → t ≡ true)
    → ((a || (q || false)) || (p || e)) ≡ (s || (c || (e || false)))
each-step true true p e true c q old popped here = refl
each-step true true p e false true q old popped here = refl
each-step true true p e false false q old popped here = absurd cc
each-step true false p e true c q old popped here = refl
each-step true false p e false true q old popped here = refl
each-step true false p e false false q old popped here = absurd cc
each-step false true p e true c true old popped here = refl
each-step false true p e false true true old popped here = refl
each-step false true p e false false true old popped here = absurd cc
each-step false true true e true c false old popped here = refl
each-step false true true e false true false old popped here = refl
each-step false true true e false false false old popped here = absurd cc
each-step false true false e s c false old popped here = absurd cc
each-step false false p e s c true old popped here = absurd (let h = here refl in cc)
each-step false false true e s c false old popped here = absurd cc
each-step false false false true true c false old popped here = refl
each-step false false false true false true false old popped here = refl
each-step false false false true false false false old popped here = refl
each-step false false false false true c false old popped here = absurd cc
each-step false false false false false true false old popped here = absurd cc
each-step false false false false false false false old popped here = refl

kept : (b c : Bool) → cond b false c ≡ true → (b ≡ false)
kept true c given = absurd cc
kept false c given = refl

pub stood : (b c : Bool) → cond b false c ≡ true → (c ≡ true)
stood true c given = absurd cc
stood false c given = given

greater : (number other : ℕ) → is_gt (nat_cmp number other) ≡ false → is_eq (nat_cmp number other) ≡ false → number < other
greater number other least differs = grind (arith, nat_tests)

module _ (edges : BTreeSet Edge) (starts todo popped new : BTreeSet ℕ) (found : List ℕ) (number : ℕ) (rising : AreRising edges)
    (walking : IsWalking edges starts todo found) (there : has_number todo number ≡ true) (least : IsLowerBound nat_cmp todo number)
    (updates : Updates nat_cmp todo popped number false)
    (added : (other : ℕ) → has_number new other ≡ (has_number popped other || has_edge edges number other)) where
  each : (other : ℕ) → (is_among (found ++ number ∷ []) other || has_number new other) ≡ (has_number starts other || comes_after edges (found ++ number ∷ []) other)
  each other =
      let same : (number == other) ≡ true → has_number todo other ≡ true = λ e. (let is : number ≡ other = grind (arith, nat_tests) in ap (λ n. has_number todo n) (sym is) ∙ there) in
      let test : is_eq (nat_cmp number other) ≡ (number == other) = grind (arith, nat_tests) in
      rw (list_any-append, list_any-append, added other)
      (each-step (is_among found other) (has_number todo other) (has_number popped other) (has_edge edges number other) (has_number starts other)
      (comes_after edges found other) (number == other) (walking.each other) (updates.0 other ∙ ap (λ b. cond b false (has_number todo other)) test) same)

  after : (other : ℕ) → number < other → IsLeft (found ++ number ∷ []) other
  after other less = record {
    above = All-push _ found number (All-weaker found (λ one below. omega (arith, less, below)) (walking.left number there).above) less;
    many = rw (length-append found (number ∷ [])) (let few = (walking.left number there).many in omega arith);
  }

  greater_left : (other : ℕ) → has_number popped other ≡ true → number < other
  greater_left other has =
      let given = sym (updates.0 other) ∙ has in
      greater number other (least other (stood (is_eq (nat_cmp number other)) (has_number todo other) given)) (kept (is_eq (nat_cmp number other)) (has_number todo other) given)

  left : (other : ℕ) → has_number new other ≡ true → IsLeft (found ++ number ∷ []) other
  left other has = elim (or_cases (has_number popped other) (has_edge edges number other) (sym (added other) ∙ has)) as (λ _. IsLeft (found ++ number ∷ []) other) [
    | inl still ↦ after other (greater_left other still)
    | inr next ↦ after other (rising number other next)
  ]

  pub walk-step : IsWalking edges starts new (found ++ number ∷ [])
  walk-step = record {
    ascending = AllLater-push _ found number walking.ascending (walking.left number there).above;
    each = each;
    left = left;
  }
