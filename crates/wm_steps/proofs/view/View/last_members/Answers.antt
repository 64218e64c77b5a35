use Rattle.std.proofs.Common.{◌≡◌, ap, filter, ltb, not, subst, sym, ◌∙◌}
use Rattle.wm_machine.specs.Group.{members_of, numbers_in}
use Rattle.wm_machine.specs.Valid.{Valid}
use Rattle.wm_machine.specs.declared.state.State.{State}
use Rattle.wm_steps.proofs.LastMembers.{last-are, members-ascend, members-numbered}
use Rattle.wm_steps.specs.Covers.{mark_of, AreLast, IsMark}
use Rattle.wm_steps.proofs.view.View.last_members.Goals as goal

pub numbers_from-requires : goal.numbers_from-requires
numbers_from-requires c =
    members-ascend c.args.self.now c.args.name.now c.members.result.now (subst Valid c.self.view_is c.self.invariant.valid) c.members.ensures

pub returns : goal.returns
returns c =
    let s = c.self.inside.state in
    let name = c.args.name.now in
    let least = c.mark.result in
    let mark : least ≡ mark_of c.self.inside.covers name = c.mark.ensures ∙ ap (mark_of c.self.inside.covers) c.as_str.ensures in
    let numbers = c.members.ensures ∙ ap (λ (t : State). numbers_in (members_of t.works name)) (sym c.self.view_is) in
    let is = subst (IsMark s name) (sym mark) (c.self.invariant.covered name) in
    subst (λ (t : State). AreLast (members_of t.works name) c.numbers_from.result.now) c.self.view_is
    (last-are s name least c.numbers_from.result.now c.self.invariant.valid is
    (c.numbers_from.ensures ∙ ap (filter (λ number. not (ltb number least))) numbers ∙ members-numbered least (members_of s.works name)))
