use Rattle.std.proofs.Common.{◌≡◌, rules, subst, sym, IsSome}
use Rattle.wm_machine.specs.Input.{work_numbered}
use Rattle.wm_replay.proofs.MemberUpdates.{member-there, updated-member}
use Rattle.wm_replay.specs.Planned.{IsReplyOfUpdate}
use Rattle.wm_replay.proofs.members.update_member.Goals as goal

pub member_reply-reply-requires-clause-there : goal.member_reply-reply-requires-clause-there
member_reply-reply-requires-clause-there c =
    let s = c.args.state.now in
    let same : c.as_slice.result.now ≡ s.works = search rules in
    subst (λ works. IsSome (work_numbered c.args.number works)) (sym same) (member-there s c.args.unique.now c.args.number c.requires.valid c.requires.planned)

pub returns : goal.returns
returns c =
    let s = c.args.state.now in
    let answers : IsReplyOfUpdate (work_numbered c.args.number s.works) c.member_reply-reply.result = search rules in
    updated-member s c.args.unique.now c.args.number c.requires.valid c.requires.planned c.args.batch.now.works c.first_node-node.result.now
    c.member_reply-reply.result c.update_work.new.state c.first_node-node.ensures c.requires.fits answers c.in_ok-update_work.ensures
