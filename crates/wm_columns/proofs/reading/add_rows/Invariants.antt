use Rattle.sqlite_trees.specs.View.{is_int}
use Rattle.sqlite_value.specs.Order.{column}
use Rattle.std.proofs.Common.{◌≡◌, ◌++◌, IsTrue, map, take}
use Rattle.std.specs.List.{AllByRecursion}
use Rattle.wm_columns.specs.Values.{row_of}
use Rattle.wm_columns.proofs.reading.add_rows.Given as goal

abbrev pub invariant-loop-row : goal.invariant-loop-row
invariant-loop-row l =
    (l.rows.items ≡ l.initial.rows.items ++ map row_of (take l.row-index l.shown))
    × AllByRecursion (λ r. IsTrue (is_int (column r 1))) (take l.row-index l.shown)
