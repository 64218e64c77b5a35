use Rattle.std.proofs.Common.{◌≡◌, ◌∷◌, arith, rules}
use Rattle.std.specs.Vec.Iter.{into_iter_items}
use Rattle.wm_keeper.proofs.Ascending.{changed_by-Ascends}
use Rattle.wm_keeper.proofs.rows.make_changes.Goals as goal

pub loop-change-preserved : goal.loop-change-preserved
loop-change-preserved c =
    let made = c.make_change.ensures in
    let kept = c.loop-change.invariant in
    let first : into_iter_items c.loop-change.change-iterator ≡ c.in-Some.change ∷ into_iter_items c.next.new.self = search rules in
    let left = kept.left in
    let room = kept.room in
    record {
      ascending = rw made.changed (changed_by-Ascends c.in-Some.change c.loop-change.rows.items kept.ascending);
      left = rw made.changed (rw first at left);
      room = let some = rw first at room in omega (arith, some, made.len, made.capacity);
    }
