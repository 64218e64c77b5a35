-- Numbers in ascending order: a search among them, one more and one less, and two lists of the same ones.
use Rattle.std.proofs.Common.{◌≡◌, ℕ, zero, suc, ◌<◌, ◌≤◌, ◌==◌, ◌&&◌, ◌||◌, Bool, true, false, not, List, [], ◌∷◌, filter, length, get_or, refl, sym, ap, subst, ◌∙◌, arith, inl, inr}
use Rattle.std.proofs.Math.Bool.{and-true, or-false}
use Rattle.std.proofs.lemmas.Bool.{and_left, cases_Bool, eq-eqb, eqb-true, false≢true, ne_eqb, or_cases, or_left, or_right}
use Rattle.std.proofs.lemmas.Bool.Decides.{nat_tests}
use Rattle.std.proofs.lemmas.List.Edits.{length-insert, length-remove}
use Rattle.std.proofs.lemmas.List.Sorted.{list_any-IsPermutation, IsPermutation-insert}
use Rattle.std.specs.Prelude.{insert, remove}
use Rattle.std.specs.List.{AllByRecursion, HoldsAt}
use Rattle.std.specs.List.Sorted.{IsNonDecreasingBy, IsPartitionPoint}
use Rattle.std.specs.Ordering.{nat_cmp, ordering_index}
use Rattle.std.specs.declared.cmp.Ordering.TheVariants.{Equal, Greater, Less}
use Rattle.wm_collections.specs.Lists.{is_among, NumbersAscend}
use Rattle.wm_collections.proofs.Lists.{All-any, All-weaker, AllLater-filter, any_passes, filter-each, list_any-agree, list_any-false, list_any-kept, one_gives}
use Rattle.wm_index.specs.Groups.{is_just, IsGroup}
use Rattle.wm_index.proofs.Bools.{any-and, or-comm, under}

-- ---- a search

at_place : (P : ℕ → Type 0) (xs : List ℕ) (i d : ℕ) → AllByRecursion P xs → i < length xs → P (get_or xs i d)
at_place P [] i d all within = absurd (omega arith)
at_place P (x ∷ xs) zero d all within = all.0
at_place P (x ∷ xs) (suc i) d all within = at_place P xs i d all.1 (omega arith)

rises : (xs : List ℕ) (i j d : ℕ) → NumbersAscend xs → i ≤ j → j < length xs → get_or xs i d ≤ get_or xs j d
rises [] i j d up le within = absurd (omega arith)
rises (x ∷ xs) zero zero d up le within = omega arith
rises (x ∷ xs) zero (suc j) d up le within = let later = at_place (λ y. x < y) xs j d up.0 (omega arith) in omega (arith, later)
rises (x ∷ xs) (suc i) zero d up le within = absurd (omega arith)
rises (x ∷ xs) (suc i) (suc j) d up le within = rises xs i j d up.1 (omega arith) (omega arith)

order_rises : (a b x : ℕ) → a ≤ b → ordering_index (nat_cmp a x) ≤ ordering_index (nat_cmp b x)
order_rises a b x le = grind (arith, nat_tests)

-- a search may rely on the order
pub searchable : (x : ℕ) (xs : List ℕ) → NumbersAscend xs → IsNonDecreasingBy (λ y. ordering_index (nat_cmp y x)) xs
searchable x xs up i j d le within = order_rises _ _ x (rises xs i j d up le within)

equal-is : (a b : ℕ) → nat_cmp a b ≡ Equal → a ≡ b
equal-is a b is = grind (arith, nat_tests)

less-is : (a b : ℕ) → nat_cmp a b ≡ Less → a < b
less-is a b is = grind (arith, nat_tests)

greater-is : (a b : ℕ) → nat_cmp a b ≡ Greater → b < a
greater-is a b is = grind (arith, nat_tests)

-- what was found is there
pub found-among : (xs : List ℕ) (i x : ℕ) → i < length xs → HoldsAt (λ y. nat_cmp y x ≡ Equal) xs i → is_among xs x ≡ true
found-among [] i x within at = absurd (omega arith)
found-among (y ∷ ys) zero x within at = or_left _ _ (eq-eqb y x (equal-is y x (at x)))
found-among (y ∷ ys) (suc i) x within at =
    elim (y == x) as (λ here. (here || is_among ys x) ≡ true) [ true ↦ refl | false ↦ found-among ys i x (omega arith) at ]

-- ---- one more

All-insert : (P : ℕ → Type 0) (xs : List ℕ) (i x : ℕ) → P x → AllByRecursion P xs → AllByRecursion P (insert xs i x)
All-insert P [] zero x p all = (p, tt)
All-insert P [] (suc i) x p all = (p, tt)
All-insert P (y ∷ ys) zero x p all = (p, all)
All-insert P (y ∷ ys) (suc i) x p all = (all.0, All-insert P ys i x p all.1)

abbrev IsGap : ℕ → List ℕ → ℕ → Type 0
IsGap x xs i = IsPartitionPoint (λ y. nat_cmp y x ≡ Less) (λ y. nat_cmp y x ≡ Greater) xs i

tail-gap : (x y : ℕ) (ys : List ℕ) (i : ℕ) → IsGap x (y ∷ ys) (suc i) → IsGap x ys i
tail-gap x y ys i gap = (λ k d from to. gap.0 (suc k) d (omega arith) (omega arith), λ k d from to. gap.1 (suc k) d (omega arith) (omega arith))

pub insert-ascends : (xs : List ℕ) (i x : ℕ) → i ≤ length xs → IsGap x xs i → NumbersAscend xs → NumbersAscend (insert xs i x)
insert-ascends [] zero x le gap up = (tt, tt)
insert-ascends [] (suc i) x le gap up = absurd (omega arith)
insert-ascends (y ∷ ys) zero x le gap up =
    let less : x < y = greater-is y x (gap.1 0 x (omega arith) (omega arith)) in
    ((less, All-weaker ys (λ z later. omega (arith, less, later)) up.0), up)
insert-ascends (y ∷ ys) (suc i) x le gap up =
    let less : y < x = less-is y x (gap.0 0 x (omega arith) (omega arith)) in
    (All-insert (λ z. y < z) ys i x less up.0, insert-ascends ys i x (omega arith) (tail-gap x y ys i gap) up.1)

pub insert-among : (xs : List ℕ) (i x number : ℕ) → is_among (insert xs i x) number ≡ (is_among xs number || x == number)
insert-among xs i x number =
    sym (list_any-IsPermutation (λ one. one == number) (x ∷ xs) (insert xs i x) (IsPermutation-insert xs i x)) ∙ or-comm (x == number) (is_among xs number)

pub inserted-group : (xs : List ℕ) (i x : ℕ) → i ≤ length xs → IsGap x xs i → NumbersAscend xs → IsGroup (insert xs i x)
inserted-group xs i x le gap up = record {
  ascending = insert-ascends xs i x le gap up;
  some = let size = length-insert xs i x le in omega (arith, size);
}

-- one that is there already
pub same-among : (xs : List ℕ) (x number : ℕ) → is_among xs x ≡ true → is_among xs number ≡ (is_among xs number || x == number)
same-among xs x number there =
    elim (cases_Bool (x == number)) as (λ _. is_among xs number ≡ (is_among xs number || x == number)) [
      | inl is ↦ subst (λ n. is_among xs n ≡ true) (eqb-true x number is) there ∙ sym (or_right (is_among xs number) (x == number) is)
      | inr isnt ↦ sym (ap (λ b. is_among xs number || b) isnt ∙ or-false (is_among xs number))
    ]

-- ---- one less

abbrev others : ℕ → List ℕ → List ℕ
others x xs = filter (λ y. not (x == y)) xs

pub remove-is : (xs : List ℕ) (i x : ℕ) → i < length xs → HoldsAt (λ y. nat_cmp y x ≡ Equal) xs i → NumbersAscend xs → remove xs i ≡ others x xs
remove-is [] i x within at up = absurd (omega arith)
remove-is (y ∷ ys) zero x within at up =
    let is : x ≡ y = sym (equal-is y x (at x)) in
    rw (eq-eqb x y is) (sym (filter-each (λ z. not (x == z)) ys (All-weaker ys (λ z later. ap not (ne_eqb x z (λ e. absurd (omega (arith, later, e, is))))) up.0)))
remove-is (y ∷ ys) (suc i) x within at up =
    let later = at_place (λ z. y < z) ys i x up.0 (omega arith) in
    let is = equal-is _ x (at x) in
    let apart : (x == y) ≡ false = ne_eqb x y (λ e. absurd (omega (arith, later, is, e))) in
    rw apart (ap (λ rest. y ∷ rest) (remove-is ys i x (omega arith) at up.1))

pub others-among : (xs : List ℕ) (x number : ℕ) → is_among (others x xs) number ≡ (is_among xs number && not (x == number))
others-among xs x number =
    list_any-kept (λ one. one == number) (λ y. not (x == y)) xs
    ∙ list_any-agree (λ y. (y == number) && not (x == y)) (λ y. (y == number) && not (x == number)) xs
    (All-any xs (λ y. under (y == number) (not (x == y)) (not (x == number)) (λ e. ap (λ n. not (x == n)) (eqb-true y number e))))
    ∙ any-and (λ one. one == number) (not (x == number)) xs

some-left : (y z : ℕ) (zs : List ℕ) (i : ℕ) → i < length (y ∷ z ∷ zs) → 0 < length (remove (y ∷ z ∷ zs) i)
some-left y z zs i within = omega (arith, length-remove (y ∷ z ∷ zs) i within)

removed-some : (xs : List ℕ) (i x : ℕ) → i < length xs → HoldsAt (λ y. nat_cmp y x ≡ Equal) xs i → is_just x xs ≡ false → 0 < length (remove xs i)
removed-some [] i x within at others = absurd (omega arith)
removed-some (y ∷ []) zero x within at others = absurd (false≢true (sym others ∙ eq-eqb y x (equal-is y x (at x))))
removed-some (y ∷ []) (suc i) x within at others = absurd (omega arith)
removed-some (y ∷ z ∷ zs) i x within at others = some-left y z zs i within

pub removed-group : (xs : List ℕ) (i x : ℕ) → i < length xs → HoldsAt (λ y. nat_cmp y x ≡ Equal) xs i → is_just x xs ≡ false → NumbersAscend xs → IsGroup (remove xs i)
removed-group xs i x within at more up = record {
  ascending = subst NumbersAscend (sym (remove-is xs i x within at up)) (AllLater-filter (λ y z. y < z) (λ y. not (x == y)) xs up);
  some = removed-some xs i x within at more;
}

pub removed-among : (xs : List ℕ) (i x number : ℕ) → i < length xs → HoldsAt (λ y. nat_cmp y x ≡ Equal) xs i → NumbersAscend xs
    → is_among (remove xs i) number ≡ (is_among xs number && not (x == number))
removed-among xs i x number within at up = ap (λ list. is_among list number) (remove-is xs i x within at up) ∙ others-among xs x number

-- one that isn't there
pub absent-among : (xs : List ℕ) (i x : ℕ) → i ≤ length xs → IsGap x xs i → is_among xs x ≡ false
absent-among [] i x le gap = refl
absent-among (y ∷ ys) zero x le gap =
    let less : x < y = greater-is y x (gap.1 0 x (omega arith) (omega arith)) in
    let apart : (y == x) ≡ false = ne_eqb y x (λ e. absurd (omega (arith, less, e))) in
    rw apart (absent-among ys zero x (omega arith) (λ k d from to. absurd (omega arith), λ k d from to. gap.1 (suc k) d (omega arith) (omega arith)))
absent-among (y ∷ ys) (suc i) x le gap =
    let less : y < x = less-is y x (gap.0 0 x (omega arith) (omega arith)) in
    let apart : (y == x) ≡ false = ne_eqb y x (λ e. absurd (omega (arith, less, e))) in
    rw apart (absent-among ys i x (omega arith) (tail-gap x y ys i gap))

pub absent-left : (xs : List ℕ) (x number : ℕ) → is_among xs x ≡ false → is_among xs number ≡ (is_among xs number && not (x == number))
absent-left xs x number absent =
    elim (cases_Bool (x == number)) as (λ _. is_among xs number ≡ (is_among xs number && not (x == number))) [
      | inl is ↦
          (let none : is_among xs number ≡ false = subst (λ n. is_among xs n ≡ false) (eqb-true x number is) absent in
          none ∙ sym (and_left (is_among xs number) (not (x == number)) none))
      | inr isnt ↦ sym (ap (λ b. is_among xs number && not b) isnt ∙ and-true (is_among xs number))
    ]
