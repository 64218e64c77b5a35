-- The rows of records.
use Rattle.std.proofs.Common.{◌≡◌, ℕ, suc, ◌<◌, pos, List, [], ◌∷◌, length, map, refl, ap, inl, inr, rules}
use Rattle.std.specs.List.{AllByRecursion}
use Rattle.std.specs.Prelude.{◌<ℤ◌}
use Rattle.wm_machine.specs.Types.{Record, Row}
use Rattle.wm_machine.specs.Rows.{row_of, AreRowsOf, IsRowOf}

-- the number of each row is below the next one
pub rows_below : (works : List Record) (next : ℕ) → AllByRecursion (λ w. w.seq < next) works
    → AllByRecursion (λ (row : Row). row.seq <ℤ pos next) (map row_of works)
rows_below [] next below = tt
rows_below (work ∷ works) next below = (search (rules, below.0), rows_below works next below.1)

-- ---- rows and their records, side by side

-- the rows that are kept for records are theirs
pub AreRowsOf-kept : (works : List Record) → AreRowsOf (map row_of works) works
AreRowsOf-kept [] = tt
AreRowsOf-kept (work ∷ works) = (inl refl, AreRowsOf-kept works)

-- a row of a record has its number
pub row-number : (row : Row) (work : Record) → IsRowOf row work → row.seq ≡ pos work.seq
row-number row work (inl is) = ap (λ (r : Row). r.seq) is
row-number row work (inr is) = ap (λ (r : Row). r.seq) is.0

-- there are as many
pub rows-as_many : (rows : List Row) (works : List Record) → AreRowsOf rows works → length rows ≡ length works
rows-as_many [] [] are = refl
rows-as_many (row ∷ rows) (work ∷ works) are = ap suc (rows-as_many rows works are.1)
rows-as_many [] (work ∷ works) are = absurd are
rows-as_many (row ∷ rows) [] are = absurd are
