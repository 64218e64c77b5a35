use Rattle.std.proofs.Common.{◌≡◌, ◌+◌, ◌≤◌, length, vec_capacity, ap, arith}
use Rattle.wm_table.proofs.TableSteps.{kept-roomier, kept-turned}
use Rattle.wm_table.proofs.table.Table.turn.Goals as goal

pub invariant_of-self : goal.invariant_of-self
invariant_of-self g c =
    let first = c.self.inside.first in
    let roomier =
    kept-roomier g.M.Mark.inputs first _ _ c.self.inside.log c.make_room.new.log c.self.invariant c.make_room.ensures.items c.make_room.ensures.capacity in
    let room = roomier.room in
    let capacity = c.turn.ensures.capacity in
    let longs = ap length c.make_room.ensures.items in
    kept-turned g.M.Mark.inputs _ first _ _ c.make_room.new.log c.turn.new.events roomier c.turn.ensures.noted (omega (arith, room, capacity)) _ _ _
    (λ counts. let more = c.in-Ok.ensures.room counts in omega (arith, more, longs, capacity)) (c.turn.ensures.answer first)
