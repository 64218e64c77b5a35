use Rattle.std.proofs.Common.{◌≡◌, ◌≤◌, List, length}
use Rattle.std.specs.Map.{values_of}
use Rattle.std.specs.Ordering.{int_eq}
use Rattle.std.specs.Vec.Iter.{into_iter_items}
use Rattle.indexmap.specs.IndexMap.{spare, IsUnique}
use Rattle.wm_gathering.specs.Waiting.{AreByNumber}
use Rattle.wm_keeper.specs.Keeper.{Ascends, changed}
use Rattle.wm_keeper.specs.declared.row.Row.{Row}
use Rattle.wm_gathering.proofs.waiting.put_each.Given as goal

-- the changes that are left make of what waits so far what all of them make of what waited, and there is room for them
abbrev pub invariant-loop-change : goal.invariant-loop-change
invariant-loop-change l = record {
  by_number : AreByNumber l.waiting.entries;
  unique : IsUnique int_eq l.waiting;
  room : length (into_iter_items l.change-iterator) ≤ spare l.waiting;
  left : (rows : List Row) → Ascends rows
      → changed (into_iter_items l.change-iterator) (changed (values_of l.waiting.entries) rows)
      ≡ changed l.fn.changes.items (changed (values_of l.fn.waiting.entries) rows);
}
