use Rattle.std.proofs.Common.{◌≡◌, ◌∷◌, arith, rules}
use Rattle.std.specs.Vec.Iter.{into_iter_items}
use Rattle.wm_gathering.proofs.waiting.put_each.Goals as goal

pub loop-change-preserved : goal.loop-change-preserved
loop-change-preserved c =
    let made = c.put.ensures in
    let kept = c.loop-change.invariant in
    let first : into_iter_items c.loop-change.change-iterator ≡ c.in-Some.change ∷ into_iter_items c.next.new.self = search rules in
    let room = rw first at kept.room in
    record {
      by_number = made.by_number;
      unique = made.unique;
      room = omega (arith, room, made.room);
      left = λ rows up. rw (made.merged rows up) (let left = kept.left rows up in rw first at left);
    }
