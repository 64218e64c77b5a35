use Rattle.std.proofs.Common.{◌≡◌, ◌+◌, ◌≤◌, length, vec_len, vec_capacity}
use Rattle.std.specs.Vec.Iter.{into_iter_items}
use Rattle.wm_keeper.specs.Keeper.{Ascends, changed}
use Rattle.wm_keeper.proofs.rows.make_changes.Given as goal

-- the changes that are left make of the rows so far what all of them make of the rows held, and there
-- is room for them
abbrev pub invariant-loop-change : goal.invariant-loop-change
invariant-loop-change l = record {
  ascending : Ascends l.rows.items;
  left : changed (into_iter_items l.change-iterator) l.rows.items ≡ changed l.fn.changes.items l.fn.rows.items;
  room : vec_len l.rows + length (into_iter_items l.change-iterator) ≤ vec_capacity l.rows;
}
