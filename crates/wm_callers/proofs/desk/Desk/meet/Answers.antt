use Rattle.std.proofs.Common.{subst}
use Rattle.wm_callers.proofs.Helds.{pass-learned}
use Rattle.wm_callers.specs.Rule.{IsPassSeat}
use Rattle.wm_callers.proofs.desk.Desk.meet.Goals as goal

pub invariant_of-into : goal.invariant_of-into
invariant_of-into g c =
    pass-learned g.J.DeskMark.desk c.into.inside.number c.into.inside.seat c.learn.new.into _ _ _ c.into.invariant
    (subst (λ t. IsPassSeat t c.learn.new.into) c.self.invariant.0 c.learn.ensures.into) c.learn.ensures.number c.learn.ensures.mine c.learn.ensures.later
