use Rattle.std.proofs.Common.{◌≡◌, ◌+◌, ◌≤◌, length, vec_capacity, arith}
use Rattle.wm_table.proofs.TableSteps.{kept-late}
use Rattle.wm_table.proofs.table.Table.late.Goals as goal

pub invariant_of-self : goal.invariant_of-self
invariant_of-self g c =
    let room = c.self.invariant.room in
    let capacity = c.late.ensures.capacity in
    kept-late g.M.Mark.inputs _ c.self.inside.first _ _ c.self.inside.log c.late.new.events c.self.invariant c.late.ensures.noted
    (omega (arith, room, capacity)) _ _ (c.late.ensures.answer c.self.inside.first)
