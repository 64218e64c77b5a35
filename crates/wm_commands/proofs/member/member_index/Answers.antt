use Rattle.std.proofs.Common.{◌≡◌, None, rules}
use Rattle.wm_commands.proofs.MemberUpdates.{member-there}
use Rattle.wm_steps.proofs.Views.{reached-view}
use Rattle.wm_machine.specs.Input.{work_numbered}
use Rattle.wm_commands.proofs.member.member_index.Goals as goal

pub unreachable-requires : goal.unreachable-requires
unreachable-requires c =
    let s = c.args.view.now in
    let reached = reached-view _ s _ c.view.view_is c.view.invariant in
    let none : work_numbered c.args.number s.works ≡ None = search rules in
    member-there s c.args.unique.now c.args.number c.requires.planned reached none
