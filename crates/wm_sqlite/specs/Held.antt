-- The rows that a keeper of this crate holds: those of its two tables, in ascending number, in whatever order they stand there.
use Rattle.sqlite_trees.specs.Tree.{rowid, put_row as put_cells, without_rowid, Trees}
use Rattle.sqlite_trees.specs.View.{is_int}
use Rattle.sqlite_value.specs.Order.{Row as Cells}
use Rattle.std.specs.List.{AllByRecursion, list_all}
use Rattle.std.specs.Ordering.{int_eq}
use Rattle.std.specs.Prelude.{◌≢◌, ◌&&◌, ℤ, Bool, true, not, List, [], ◌∷◌, ◌++◌, map, Option, None, Some, IsTrue, if◌then◌else◌}
use Rattle.wm_keeper.specs.Keeper.{put_row, remove_row}
use Rattle.wm_keeper.specs.declared.row.Change.{Change}
use Rattle.wm_keeper.specs.declared.row.Change.TheVariants.{Put, Remove}
use Rattle.wm_keeper.specs.declared.row.Row.{Row}
use Rattle.wm_columns.specs.Values.{row_of}
use Rattle.wm_sqlite.specs.Table.{carried, shown_row}

-- the row that stands in `work2`
abbrev pub row_in : Cells → Row
row_in r = row_of (shown_row r)

-- rows in ascending number, of two under one number the first
abbrev pub in_order : List Row → List Row
in_order [] = []
in_order (row ∷ rows) = put_row row (in_order rows)

-- no two of the rows have the same number
abbrev pub Differ : List Row → Type 0
Differ [] = Unit {0}
Differ (row ∷ rows) = AllByRecursion (λ later. row.seq ≢ later.seq) rows × Differ rows

-- whether no two of the rows have the same number
abbrev pub differ : List Row → Bool
differ [] = true
differ (row ∷ rows) = list_all (λ later. not (int_eq row.seq later.seq)) rows && differ rows

-- the rows that are told: all in ascending number, and none where two have the same number
abbrev pub told_rows : List Row → Option (List Row)
told_rows rows = if differ rows then Some (in_order rows) else None

-- the numbers of rows that stand in a table are integers
abbrev pub AreNumbered : List Cells → Type 0
AreNumbered = AllByRecursion (λ r. IsTrue (is_int (rowid r)))

-- and no two of them are the same
pub record IsListed (table : List Cells) : Type 0 where
  pub numbered : AreNumbered table
  pub apart : Differ (map row_in table)

-- the rows of tables
abbrev pub held_in : List Cells → List Row
held_in table = in_order (map row_in table)

-- what stands in `work`, and what stands in `work2`
abbrev pub Tables : Type 0
Tables = List Cells × List Cells

abbrev pub tables_in : Trees → Tables
tables_in trees = (trees 0, trees 1)

-- the rows of both tables, as rows of `work2`
abbrev pub all_rows : Tables → List Cells
all_rows tables = map carried tables.0 ++ tables.1

-- without the rows of a number, and with a row in `work2`
abbrev pub without : ℤ → Tables → Tables
without number tables = (without_rowid number tables.0, without_rowid number tables.1)

abbrev pub with_cells : Cells → Tables → Tables
with_cells r tables = (tables.0, put_cells r tables.1)

-- the rows without those that are removed
abbrev pub removed : List Change → List Row → List Row
removed [] rows = rows
removed (Remove seq ∷ changes) rows = removed changes (remove_row seq rows)
removed (Put row ∷ changes) rows = removed changes rows

-- the rows with those that are put
abbrev pub added : List Change → List Row → List Row
added [] rows = rows
added (Put row ∷ changes) rows = added changes (put_row row rows)
added (Remove seq ∷ changes) rows = added changes rows
