use Rattle.std.proofs.Common.{◌∙◌, ap, subst}
use mathlib.Core.List.{IsPrefix}
use Rattle.wm_callers.proofs.Helds.{pass-learned}
use Rattle.wm_callers.specs.Rule.{all_of, IsPassSeat}
use Rattle.wm_callers.proofs.held.Held.look.Goals as goal

pub invariant_of-pass : goal.invariant_of-pass
invariant_of-pass g c =
    let own = c.look.ensures.own in
    let before = c.show.ensures.own in
    pass-learned g.J.DeskMark.desk c.pass.inside.number c.pass.inside.seat c.look.new.pass _ _ _ c.pass.invariant
    (subst (λ t. IsPassSeat t c.look.new.pass) c.requires.board c.look.ensures.pass) (ap (λ o. o.number) own ∙ ap (λ o. o.number) before)
    (ap (λ o. o.mine) own ∙ ap (λ o. o.mine) before)
    (rw (ap (λ o. o.seen) own) (subst (λ o. IsPrefix o.seen (all_of c.show.new.desk)) before c.show.ensures.begins))
