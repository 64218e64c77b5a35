-- Two lists of numbers in ascending order that have the same numbers are the same list.
use Rattle.std.proofs.Common.{◌≡◌, ℕ, ◌<◌, ◌==◌, ◌||◌, Bool, true, false, List, [], ◌∷◌, refl, sym, ap, subst, ◌∙◌, arith, inl, inr}
use Rattle.std.specs.List.{AllByRecursion}
use Rattle.std.proofs.lemmas.Bool.{eq-eqb, eqb-true, false≢true, ne_eqb, or_cases, or_left}
use Rattle.wm_collections.specs.Lists.{is_among, NumbersAscend}
use Rattle.wm_collections.proofs.Lists.{All-weaker, any_passes, list_any-false, one_gives}

none_below : (x : ℕ) (xs : List ℕ) → AllByRecursion (λ later. x < later) xs → is_among xs x ≡ false
none_below x xs above = list_any-false (λ one. one == x) xs (All-weaker xs (λ one less. ne_eqb one x (λ e. absurd (omega (arith, less, e)))) above)

among_above : (x n : ℕ) (xs : List ℕ) → AllByRecursion (λ later. x < later) xs → is_among xs n ≡ true → x < n
among_above x n xs above has =
    one_gives xs (λ one less here. subst (λ m. x < m) (eqb-true one n here) less) above (any_passes (λ one. one == n) xs has)

not_both : (a b : ℕ) → a < b → b < a → ⊥
not_both a b one other = absurd (omega arith)

module _ (x y : ℕ) (xs ys : List ℕ) (above : AllByRecursion (λ later. x < later) xs) (above_other : AllByRecursion (λ later. y < later) ys)
    (same : (n : ℕ) → is_among (x ∷ xs) n ≡ is_among (y ∷ ys) n) where
  heads : x ≡ y
  heads =
      elim (or_cases (y == x) (is_among ys x) (sym (same x) ∙ or_left _ _ (eq-eqb x x refl))) as (λ _. x ≡ y) [
        | inl here ↦ sym (eqb-true y x here)
        | inr later ↦ elim (or_cases (x == y) (is_among xs y) (same y ∙ or_left _ _ (eq-eqb y y refl))) as (λ _. x ≡ y) [
          | inl here ↦ eqb-true x y here
          | inr also ↦ absurd (not_both x y (among_above x y xs above also) (among_above y x ys above_other later))
        ]
      ]

  split_other : (b c d : Bool) → (b || c) ≡ (b || d) → (b ≡ true → c ≡ false) → (b ≡ true → d ≡ false) → c ≡ d
  split_other true c d given one other = one refl ∙ sym (other refl)
  split_other false c d given one other = given

  tails : (n : ℕ) → is_among xs n ≡ is_among ys n
  tails n =
      split_other (x == n) (is_among xs n) (is_among ys n) (same n ∙ ap (λ m. (m == n) || is_among ys n) (sym heads))
      (λ e. subst (λ m. is_among xs m ≡ false) (eqb-true x n e) (none_below x xs above))
      (λ e. subst (λ m. is_among ys m ≡ false) (sym heads ∙ eqb-true x n e) (none_below y ys above_other))

pub ascending-same : (xs ys : List ℕ) → NumbersAscend xs → NumbersAscend ys → ((n : ℕ) → is_among xs n ≡ is_among ys n) → xs ≡ ys
ascending-same [] [] one other same = refl
ascending-same [] (y ∷ ys) one other same = absurd (false≢true (same y ∙ or_left _ _ (eq-eqb y y refl)))
ascending-same (x ∷ xs) [] one other same = absurd (false≢true (sym (same x) ∙ or_left _ _ (eq-eqb x x refl)))
ascending-same (x ∷ xs) (y ∷ ys) one other same =
    let rest = ascending-same xs ys one.1 other.1 (tails x y xs ys one.0 other.0 same) in
    let first = heads x y xs ys one.0 other.0 same in
    cc
