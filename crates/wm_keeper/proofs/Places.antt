-- What an edit at the place that a search by number found makes of rows that ascend.
use Rattle.std.proofs.Common.{◌≡◌, ℕ, ℤ, zero, suc, ◌<◌, ◌≤◌, List, [], ◌∷◌, length, get_or, set, refl, ap, arith}
use Rattle.std.specs.Prelude.{◌<ℤ◌, ◌≤ℤ◌, insert, remove, Result, Ok, Err, IfOk, IfErr}
use Rattle.std.specs.declared.cmp.Ordering.TheVariants.{Less, Equal, Greater}
use Rattle.std.specs.Ordering.{int_cmp, ordering_index}
use Rattle.std.specs.Cmp.{int_ranks}
use Rattle.std.specs.List.{AllByRecursion, HoldsAt}
use Rattle.std.specs.List.Sorted.{IsNonDecreasingBy, IsPartitionPoint, IsBinarySearchResult}
use Rattle.std.proofs.lemmas.Int.{ints}
use Rattle.wm_keeper.specs.Keeper.{Ascends, put_row, remove_row}
use Rattle.wm_keeper.specs.declared.row.Row.{Row}
use Rattle.wm_keeper.proofs.Ascending.{int_lt-true, int_lt-false}

-- what holds of every row holds at each place
at_place : (P : Row → Type 0) (rows : List Row) (i : ℕ) (d : Row) → AllByRecursion P rows → i < length rows → P (get_or rows i d)
at_place P [] i d h below = absurd (omega arith)
at_place P (row ∷ rows) zero d h below = h.0
at_place P (row ∷ rows) (suc i) d h below = at_place P rows i d h.1 (omega arith)

-- a later place has no lower number
rising : (rows : List Row) (i j : ℕ) (d : Row) → Ascends rows → i ≤ j → j < length rows → (get_or rows i d).seq ≤ℤ (get_or rows j d).seq
rising [] i j d h le below = absurd (omega arith)
rising (row ∷ rows) zero zero d h le below = omega (arith, ints)
rising (row ∷ rows) zero (suc j) d h le below = let later = at_place (λ r. row.seq <ℤ r.seq) rows j d h.0 (omega arith) in omega (arith, ints, later)
rising (row ∷ rows) (suc i) zero d h le below = absurd (omega arith)
rising (row ∷ rows) (suc i) (suc j) d h le below = rising rows i j d h.1 (omega arith) (omega arith)

-- a comparison with a number rises with what is compared
order_rises : (a b s : ℤ) → a ≤ℤ b → ordering_index (int_cmp a s) ≤ ordering_index (int_cmp b s)
order_rises a b s h = grind (arith, ints)

-- a search by number may rely on the order
searchable : (seq : ℤ) (rows : List Row) → Ascends rows → IsNonDecreasingBy (λ row. ordering_index (int_cmp row.seq seq)) rows
searchable seq rows h i j d le below = order_rises _ _ seq (rising rows i j d h le below)

-- what each answer of a comparison says
lower : (a b : ℤ) → int_cmp a b ≡ Less → a <ℤ b
lower a b e = grind (arith, ints)

same : (a b : ℤ) → int_cmp a b ≡ Equal → a ≡ b
same a b e = let ranked = int_ranks a b in rw e at ranked

higher : (a b : ℤ) → int_cmp a b ≡ Greater → b <ℤ a
higher a b e = grind (arith, ints)

-- the place between the lower numbers and the higher ones
abbrev IsGap : ℤ → List Row → ℕ → Type 0
IsGap seq rows i = IsPartitionPoint (λ row. row.seq <ℤ seq) (λ row. seq <ℤ row.seq) rows i

-- a place past the first row is one of the rows after it
tail_gap : (seq : ℤ) (first : Row) (rows : List Row) (i : ℕ) → IsGap seq (first ∷ rows) (suc i) → IsGap seq rows i
tail_gap seq first rows i h = (λ k d from to. h.0 (suc k) d (omega arith) (omega arith), λ k d from to. h.1 (suc k) d (omega arith) (omega arith))

-- a row of a new number goes to that place
pub put_row-gap : (row : Row) (rows : List Row) (i : ℕ) → i ≤ length rows → IsGap row.seq rows i → put_row row rows ≡ insert rows i row
put_row-gap row [] zero le h = refl
put_row-gap row [] (suc i) le h = absurd (omega arith)
put_row-gap row (first ∷ rows) zero le h = rw (int_lt-true row.seq first.seq (h.1 0 row (omega arith) (omega arith)))
put_row-gap row (first ∷ rows) (suc i) le h =
    let below = h.0 0 row (omega arith) (omega arith) in
    rw (int_lt-false row.seq first.seq (omega (arith, ints, below)), int_lt-true first.seq row.seq below)
    (ap (λ rest. first ∷ rest) (put_row-gap row rows i (omega arith) (tail_gap row.seq first rows i h)))

-- where there is such a place, there is nothing to remove
pub remove_row-gap : (seq : ℤ) (rows : List Row) (i : ℕ) → i ≤ length rows → IsGap seq rows i → remove_row seq rows ≡ rows
remove_row-gap seq [] i le h = refl
remove_row-gap seq (first ∷ rows) zero le h = rw (int_lt-true seq first.seq (h.1 0 first (omega arith) (omega arith)))
remove_row-gap seq (first ∷ rows) (suc i) le h =
    let below = h.0 0 first (omega arith) (omega arith) in
    rw (int_lt-false seq first.seq (omega (arith, ints, below)), int_lt-true first.seq seq below)
    (ap (λ rest. first ∷ rest) (remove_row-gap seq rows i (omega arith) (tail_gap seq first rows i h)))

-- a row of a number that stands there takes the place of that row
pub put_row-at : (row : Row) (rows : List Row) (i : ℕ) → Ascends rows → i < length rows → HoldsAt (λ r. r.seq ≡ row.seq) rows i
    → put_row row rows ≡ set rows i row
put_row-at row [] i h within e = absurd (omega arith)
put_row-at row (first ∷ rows) zero h within e =
    let equal = e row in
    rw (int_lt-false row.seq first.seq (omega (arith, ints, equal)), int_lt-false first.seq row.seq (omega (arith, ints, equal)))
put_row-at row (first ∷ rows) (suc i) h within e =
    let later = at_place (λ r. first.seq <ℤ r.seq) rows i row h.0 (omega arith) in
    let below : first.seq <ℤ row.seq = omega (arith, ints, later, e row) in
    rw (int_lt-false row.seq first.seq (omega (arith, ints, below)), int_lt-true first.seq row.seq below)
    (ap (λ rest. first ∷ rest) (put_row-at row rows i h.1 (omega arith) e))

-- the row of a number is removed at its place
pub remove_row-at : (seq : ℤ) (rows : List Row) (i : ℕ) → Ascends rows → i < length rows → HoldsAt (λ r. r.seq ≡ seq) rows i
    → remove_row seq rows ≡ remove rows i
remove_row-at seq [] i h within e = absurd (omega arith)
remove_row-at seq (first ∷ rows) zero h within e =
    let equal = e first in
    rw (int_lt-false seq first.seq (omega (arith, ints, equal)), int_lt-false first.seq seq (omega (arith, ints, equal)))
remove_row-at seq (first ∷ rows) (suc i) h within e =
    let later = at_place (λ r. first.seq <ℤ r.seq) rows i first h.0 (omega arith) in
    let below : first.seq <ℤ seq = omega (arith, ints, later, e first) in
    rw (int_lt-false seq first.seq (omega (arith, ints, below)), int_lt-true first.seq seq below)
    (ap (λ rest. first ∷ rest) (remove_row-at seq rows i h.1 (omega arith) e))

-- a search by number finds the row of the number
pub search_found : (seq : ℤ) (rows : List Row) (r : Result ℕ ℕ) → IsBinarySearchResult (λ row. int_cmp row.seq seq) rows r
    → IfOk r (HoldsAt (λ row. row.seq ≡ seq) rows)
search_found seq rows (Ok i) h = λ d. same _ _ (h d)
search_found seq rows (Err i) h = tt

-- or else the place between the lower numbers and the higher ones
pub search_missing : (seq : ℤ) (rows : List Row) (r : Result ℕ ℕ) → Ascends rows → IsBinarySearchResult (λ row. int_cmp row.seq seq) rows r
    → IfErr r (IsPartitionPoint (λ row. row.seq <ℤ seq) (λ row. seq <ℤ row.seq) rows)
search_missing seq rows (Ok i) h at = tt
search_missing seq rows (Err i) h at =
    let point = at (searchable seq rows h) in
    (λ k d from to. lower _ _ (point.0 k d from to), λ k d from to. higher _ _ (point.1 k d from to))
