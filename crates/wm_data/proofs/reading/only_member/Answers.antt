-- One member, or none.
use Rattle.std.proofs.Common.{◌∙◌, sym}
use Rattle.wm_data.proofs.MemberLists.{only_member-none, only_member-one}
use Rattle.wm_data.proofs.reading.only_member.Goals as goal

pub returns-then-len-ne1 : goal.returns-then-len-ne1
returns-then-len-ne1 c =
    only_member-none _ c.in_ok-members.members.now.entries (sym c.in_ok-members.ensures) (λ one. c.if-len-ne1.true (c.len.ensures.len ∙ one))

pub returns : goal.returns
returns c =
    rw c.as_str.ensures.value
    (sym (only_member-one _ c.in_ok-members.members.now.entries (c.in_ok-name.name.now, c.in_ok-name.content.now) (sym c.in_ok-members.ensures)
    (sym c.len.ensures.len ∙ c.if-len-ne1.false) c.in_ok-name.ensures.first))
