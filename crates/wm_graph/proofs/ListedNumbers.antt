-- Whether a number is one of several that ascend, as a search by halving tells; and how they come to ascend.
use Rattle.std.proofs.Common.{◌≡◌, ◌⊎◌, ℕ, zero, suc, ◌<◌, ◌≤◌, true, false, not, eqb, ltb, List, [], ◌∷◌, drop, filter, length, get_or, Result, Ok, Err, nat_cmp, refl, sym, ap, arith, inl, inr}
use Rattle.std.specs.Prelude.{is_ok, MatchResult}
use Rattle.std.specs.List.{AllByRecursion}
use Rattle.std.specs.List.Sorted.{IsBinarySearchResult, IsPartitionedBy, IsPartitionPoint, IsPermutation, IsSorted}
use Rattle.std.proofs.lemmas.Bool.{eq-eqb, ne_eqb, or_left, or_right}
use Rattle.std.proofs.lemmas.List.Elements.{recursion_from_All, All-from_all_within}
use Rattle.std.proofs.lemmas.List.Sorted.{searched, IsNonDecreasingBy-from_default, IsNonDecreasingBy-from_sort, IsPartitionedBy-ltb, list_any-IsPermutation}
use Rattle.wm_collections.specs.Lists.{AllLater, is_among}
use Rattle.wm_collections.proofs.Lists.{All-weaker, AllLater-weaker, filter-each}
use Rattle.wm_graph.specs.Numbers.{Ascend}

-- ---- by their places

above-at : (number : ℕ) (numbers : List ℕ) (i : ℕ) → AllByRecursion (λ later. number ≤ later) numbers → i < length numbers → number ≤ get_or numbers i 0
above-at number [] i all within = absurd (omega arith)
above-at number (one ∷ numbers) zero all within = all.0
above-at number (one ∷ numbers) (suc i) all within = above-at number numbers i all.1 (omega arith)

-- numbers that ascend do so by their places
rises : (numbers : List ℕ) → Ascend numbers → (i j : ℕ) → i ≤ j → j < length numbers → get_or numbers i 0 ≤ get_or numbers j 0
rises [] ascend i j order within = absurd (omega arith)
rises (number ∷ numbers) ascend zero zero order within = omega arith
rises (number ∷ numbers) ascend zero (suc j) order within = above-at number numbers j ascend.0 (omega arith)
rises (number ∷ numbers) ascend (suc i) zero order within = absurd (omega arith)
rises (number ∷ numbers) ascend (suc i) (suc j) order within = rises numbers ascend.1 i j (omega arith) (omega arith)

above-each : (number : ℕ) (numbers : List ℕ) → ((k : ℕ) → k < length numbers → number ≤ get_or numbers k 0) → AllByRecursion (λ later. number ≤ later) numbers
above-each number [] each = tt
above-each number (one ∷ numbers) each = (each 0 (omega arith), above-each number numbers (λ k within. each (suc k) (omega arith)))

-- and what does so by its places ascends
ascends : (numbers : List ℕ) → ((i j : ℕ) → i ≤ j → j < length numbers → get_or numbers i 0 ≤ get_or numbers j 0) → Ascend numbers
ascends [] rising = tt
ascends (number ∷ numbers) rising = (
  above-each number numbers (λ k within. rising 0 (suc k) (omega arith) (omega arith)),
  ascends numbers (λ i j order within. rising (suc i) (suc j) (omega arith) (omega arith)),
)

-- ---- a search

among-at : (number : ℕ) (numbers : List ℕ) (i : ℕ) → i < length numbers → get_or numbers i 0 ≡ number → is_among numbers number ≡ true
among-at number [] i within is = absurd (omega arith)
among-at number (one ∷ numbers) zero within is = or_left _ _ (eq-eqb one number is)
among-at number (one ∷ numbers) (suc i) within is = or_right _ _ (among-at number numbers i (omega arith) is)

among-none : (number : ℕ) (numbers : List ℕ) → ((k : ℕ) → k < length numbers → get_or numbers k 0 ≡ number → ⊥) → is_among numbers number ≡ false
among-none number [] differ = refl
among-none number (one ∷ numbers) differ =
    let miss = ne_eqb one number (λ e. absurd (differ 0 (omega arith) e)) in
    rw miss (among-none number numbers (λ k within is. differ (suc k) (omega arith) is))

before_or_from : (k i : ℕ) → (k < i) ⊎ (i ≤ k)
before_or_from k i = grind arith

listed-by : (number : ℕ) (numbers : List ℕ) (answer : Result ℕ ℕ) → MatchResult answer (λ i. (i < length numbers) × (get_or numbers i 0 ≡ number))
    (λ i. (i ≤ length numbers) × ((k : ℕ) → k < i → get_or numbers k 0 < number) × ((k : ℕ) → i ≤ k → k < length numbers → number < get_or numbers k 0))
    → is_ok answer ≡ is_among numbers number
listed-by number numbers (Ok i) at = sym (among-at number numbers i at.0 at.1)
listed-by number numbers (Err i) at =
    sym (among-none number numbers (λ k within is. elim (before_or_from k i) as (λ _. ⊥) [
      | inl before ↦ let less = at.1 k before in absurd (omega (arith, less, is))
      | inr from ↦ let more = at.2 k from within in absurd (omega (arith, more, is))
    ]))

-- a number is found exactly where it is one of them
pub listed-search : (number : ℕ) (numbers : List ℕ) (answer : Result ℕ ℕ) → Ascend numbers
    → IsBinarySearchResult (λ one. nat_cmp one number) numbers answer → is_ok answer ≡ is_among numbers number
listed-search number numbers answer ascend is = listed-by number numbers answer (searched numbers number answer is (rises numbers ascend))

-- ---- how they come to ascend

-- numbers that rise
pub rising-ascend : (numbers : List ℕ) → AllLater (λ number later. number < later) numbers → Ascend numbers
rising-ascend numbers rising = AllLater-weaker numbers (λ number later less. omega arith) rising

-- numbers that are sorted
pub sorted-ascend : (numbers : List ℕ) → IsSorted nat_cmp numbers → Ascend numbers
sorted-ascend numbers sorted = ascends numbers (λ i j order within. IsNonDecreasingBy-from_sort (λ x. x) numbers sorted i j 0 order within)

-- and the same are among them
pub sorted-among : (numbers sorted : List ℕ) (number : ℕ) → IsPermutation numbers sorted → is_among sorted number ≡ is_among numbers number
sorted-among numbers sorted number moved = sym (list_any-IsPermutation (λ one. eqb one number) numbers sorted moved)

-- ---- those from one on

shorter : (least one : ℕ) (numbers : List ℕ) (place : ℕ) → IsPartitionPoint (λ n. ltb n least ≡ true) (λ n. ltb n least ≡ false) (one ∷ numbers) (suc place)
    → IsPartitionPoint (λ n. ltb n least ≡ true) (λ n. ltb n least ≡ false) numbers place
shorter least one numbers place point = (
  λ k d from within. point.0 (suc k) d (omega arith) (omega arith),
  λ k d from within. point.1 (suc k) d (omega arith) (omega arith),
)

-- behind the place that halving finds
pub from-place : (least : ℕ) (numbers : List ℕ) (place : ℕ) → IsPartitionPoint (λ n. ltb n least ≡ true) (λ n. ltb n least ≡ false) numbers place
    → drop place numbers ≡ filter (λ number. not (ltb number least)) numbers
from-place least [] zero point = refl
from-place least [] (suc place) point = refl
from-place least (one ∷ numbers) zero point =
    sym (filter-each (λ number. not (ltb number least)) (one ∷ numbers)
    (All-weaker (one ∷ numbers) (λ n is. ap not is)
    (recursion_from_All (λ n. ltb n least ≡ false) (one ∷ numbers) (All-from_all_within (λ n. ltb n least ≡ false) (one ∷ numbers) point.1))))
from-place least (one ∷ numbers) (suc place) point =
    let first : ltb one least ≡ true = point.0 0 0 (omega arith) (omega arith) in
    rw first (from-place least numbers place (shorter least one numbers place point))

pub rising-parted : (numbers : List ℕ) (least : ℕ) → AllLater (λ number later. number < later) numbers → IsPartitionedBy (λ n. ltb n least) numbers
rising-parted numbers least rising =
    IsPartitionedBy-ltb (λ n. n) numbers least (IsNonDecreasingBy-from_default (λ n. n) numbers 0 (rises numbers (rising-ascend numbers rising)))
