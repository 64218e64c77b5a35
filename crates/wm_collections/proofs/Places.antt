-- Where a binary search finds a number in a list that ascends in it.
use Rattle.std.proofs.Common.{◌≡◌, ℕ, zero, suc, ◌+◌, ◌<◌, false, cond, eqb, ltb, List, [], ◌∷◌, length, get_or, Ok, Err, Less, Equal, Greater, nat_cmp, is_lt, refl, sym, arith, inl, inr}
use Rattle.std.specs.List.{AllByRecursion}
use Rattle.std.specs.List.Sorted.{IsBinarySearchResult, IsSearchInRange}
use Rattle.std.proofs.lemmas.Bool.{cases_Bool, cond_both, ltb-true, ltb-false}
use Rattle.std.proofs.lemmas.Cmp.{nat_cmp_total, ranked}
use Rattle.std.proofs.lemmas.List.Sorted.{searchable_from_sorted}
use Rattle.wm_collections.specs.Lists.{AllLater}

-- a greater number doesn't come before a smaller one
not_less : (one other : ℕ) → other < one → is_lt (nat_cmp one other) ≡ false
not_less one other less =
    cond_both (ltb one other) Less (cond (eqb one other) Equal Greater) (λ o. is_lt o ≡ false) (λ e. let more = ltb-true one other e in absurd (omega arith))
    (λ e. cond_both (eqb one other) Equal Greater (λ o. is_lt o ≡ false) (λ e. refl) (λ e. refl))

module _ {T : Type 0} (number_of : T → ℕ) where
  -- the elements ascend in their numbers
  abbrev pub Ascends : List T → Type 0
  Ascends xs = AllLater (λ one later. number_of one < number_of later) xs

  -- what is above a number at each place
  pub above-at : (number : ℕ) (xs : List T) (i : ℕ) (d : T) → AllByRecursion (λ later. number < number_of later) xs → i < length xs
      → number < number_of (get_or xs i d)
  above-at number [] i d all within = absurd (omega arith)
  above-at number (x ∷ xs) zero d all within = all.0
  above-at number (x ∷ xs) (suc i) d all within = above-at number xs i d all.1 (omega arith)

  rises : (xs : List T) (i : ℕ) (d : T) → Ascends xs → suc i < length xs → number_of (get_or xs i d) < number_of (get_or xs (suc i) d)
  rises [] i d ascend within = absurd (omega arith)
  rises (x ∷ xs) zero d ascend within = above-at (number_of x) xs 0 d ascend.0 (omega arith)
  rises (x ∷ xs) (suc i) d ascend within = rises xs i d ascend.1 (omega arith)

  -- what is found has the number
  pub place-found : (number : ℕ) (xs : List T) (i : ℕ) (d : T) → IsBinarySearchResult (λ x. nat_cmp (number_of x) number) xs (Ok i)
      → number_of (get_or xs i d) ≡ number
  place-found number xs i d is = ranked (number_of (get_or xs i d)) number Equal (sym (is d))

  -- where nothing is found, none has the number
  pub place-none : (number : ℕ) (xs : List T) (i k : ℕ) (d : T) → Ascends xs → IsSearchInRange (Err i) (length xs)
      → IsBinarySearchResult (λ x. nat_cmp (number_of x) number) xs (Err i) → k < length xs → number_of (get_or xs k d) ≡ number → ⊥
  place-none number xs i k d ascend range is within same =
      let parted =
      is (searchable_from_sorted nat_cmp_total number_of xs number (λ k d low high.
      let next : k + 1 ≡ suc k = omega arith in
      rw next (not_less (number_of (get_or xs (suc k) d)) (number_of (get_or xs k d)) (rises xs k d ascend (omega arith))))) in
      elim (cases_Bool (ltb k i)) [
        | inl e ↦
            let less = ranked (number_of (get_or xs k d)) number Less (sym (parted.0 k d (omega arith) (ltb-true k i e))) in
            absurd (omega (arith, less, same))
        | inr e ↦
            let more = ranked (number_of (get_or xs k d)) number Greater (sym (parted.1 k d (ltb-false k i e) within)) in
            absurd (omega (arith, more, same))
      ]
