-- That a change keeps rows in ascending number, and where a row of the highest number goes.
use Rattle.std.proofs.Common.{◌≡◌, ℤ, true, false, cond, List, [], ◌∷◌, ◌++◌, refl, ap, arith}
use Rattle.std.specs.Prelude.{◌<ℤ◌, ◌≤ℤ◌, int_lt}
use Rattle.std.specs.List.{AllByRecursion}
use Rattle.std.proofs.lemmas.Int.{ints, by_lt_z}
use Rattle.wm_keeper.specs.Keeper.{Ascends, put_row, remove_row, changed_by}
use Rattle.wm_keeper.specs.declared.row.Row.{Row}
use Rattle.wm_keeper.specs.declared.row.Change.{Change}
use Rattle.wm_keeper.specs.declared.row.Change.TheVariants.{Put, Remove}

-- the test that `put_row` and `remove_row` make
pub int_lt-true : (a b : ℤ) → a <ℤ b → int_lt a b ≡ true
int_lt-true a b h = grind (arith, ints)

pub int_lt-false : (a b : ℤ) → b ≤ℤ a → int_lt a b ≡ false
int_lt-false a b h = grind (arith, ints)

-- a row whose number is above every other goes to the end
pub put_row-above : (row : Row) (rows : List Row) → AllByRecursion (λ r. r.seq <ℤ row.seq) rows → put_row row rows ≡ rows ++ row ∷ []
put_row-above row [] h = refl
put_row-above row (first ∷ rows) h =
    let up = int_lt-true first.seq row.seq h.0 in
    let down = int_lt-false row.seq first.seq (omega (arith, ints, h.0)) in
    rw (down, up) (ap (λ rest. first ∷ rest) (put_row-above row rows h.1))

-- what is above a number is above each lower one
above_lower : (a b : ℤ) (rows : List Row) → a ≤ℤ b → AllByRecursion (λ r. b <ℤ r.seq) rows → AllByRecursion (λ r. a <ℤ r.seq) rows
above_lower a b [] lower h = tt
above_lower a b (row ∷ rows) lower h = (omega (arith, ints, h.0), above_lower a b rows lower h.1)

-- a put keeps what holds of every row and of the one that is put
All-put_row : (P : Row → Type 0) (row : Row) (rows : List Row) → P row → AllByRecursion P rows → AllByRecursion P (put_row row rows)
All-put_row P row [] p h = (p, tt)
All-put_row P row (first ∷ rows) p h =
    elim (int_lt row.seq first.seq)
    as (λ below. AllByRecursion P (cond below (row ∷ first ∷ rows) (cond (int_lt first.seq row.seq) (first ∷ put_row row rows) (row ∷ rows)))) [
      | true ↦ (p, h)
      | false ↦ elim (int_lt first.seq row.seq) as (λ above. AllByRecursion P (cond above (first ∷ put_row row rows) (row ∷ rows))) [
        | true ↦ (h.0, All-put_row P row rows p h.1)
        | false ↦ (p, h.1)
      ]
    ]

-- a removal keeps what holds of every row
All-remove_row : (P : Row → Type 0) (seq : ℤ) (rows : List Row) → AllByRecursion P rows → AllByRecursion P (remove_row seq rows)
All-remove_row P seq [] h = tt
All-remove_row P seq (first ∷ rows) h =
    elim (int_lt seq first.seq) as (λ below. AllByRecursion P (cond below (first ∷ rows) (cond (int_lt first.seq seq) (first ∷ remove_row seq rows) rows))) [
      | true ↦ h
      | false ↦ elim (int_lt first.seq seq) as (λ above. AllByRecursion P (cond above (first ∷ remove_row seq rows) rows)) [
        | true ↦ (h.0, All-remove_row P seq rows h.1)
        | false ↦ h.1
      ]
    ]

-- a put keeps the order
pub put_row-Ascends : (row : Row) (rows : List Row) → Ascends rows → Ascends (put_row row rows)
put_row-Ascends row [] h = (tt, tt)
put_row-Ascends row (first ∷ rows) h =
    by_lt_z row.seq first.seq
    (λ below. let e = int_lt-true row.seq first.seq below in rw e ((below, above_lower row.seq first.seq rows (omega (arith, ints)) h.0), h)) (λ at_least.
    let e = int_lt-false row.seq first.seq at_least in
    by_lt_z first.seq row.seq
    (λ above. let f = int_lt-true first.seq row.seq above in rw (e, f) (All-put_row (λ r. first.seq <ℤ r.seq) row rows above h.0, put_row-Ascends row rows h.1))
    (λ at_most. let f = int_lt-false first.seq row.seq at_most in rw (e, f) (above_lower row.seq first.seq rows at_most h.0, h.1)))

-- a removal keeps the order
pub remove_row-Ascends : (seq : ℤ) (rows : List Row) → Ascends rows → Ascends (remove_row seq rows)
remove_row-Ascends seq [] h = tt
remove_row-Ascends seq (first ∷ rows) h =
    elim (int_lt seq first.seq) as (λ below. Ascends (cond below (first ∷ rows) (cond (int_lt first.seq seq) (first ∷ remove_row seq rows) rows))) [
      | true ↦ h
      | false ↦ elim (int_lt first.seq seq) as (λ above. Ascends (cond above (first ∷ remove_row seq rows) rows)) [
        | true ↦ (All-remove_row (λ r. first.seq <ℤ r.seq) seq rows h.0, remove_row-Ascends seq rows h.1)
        | false ↦ h.1
      ]
    ]

-- a change keeps the order
pub changed_by-Ascends : (change : Change) (rows : List Row) → Ascends rows → Ascends (changed_by change rows)
changed_by-Ascends (Put row) rows h = put_row-Ascends row rows h
changed_by-Ascends (Remove seq) rows h = remove_row-Ascends seq rows h
