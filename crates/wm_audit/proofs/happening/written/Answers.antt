use Rattle.wm_audit.proofs.Happenings.{happened-text, happened-valid}
use Rattle.wm_audit.proofs.happening.written.Goals as goal

pub told-requires : goal.told-requires
told-requires c =
    happened-valid c.args.state.now c.happened.new.state c.args.entry c.in-Some.event c.requires.valid (rw c.in-Some.is at c.in_ok-event.ensures.happened)

pub returns-in-Some : goal.returns-in-Some
returns-in-Some c =
    happened-text c.args.state.now c.happened.new.state c.args.entry c.in-Some.event c.in_ok-before.before c.in_ok-told-in-Some.field-0.items
    c.in_ok-before.ensures (rw c.in-Some.is at c.in_ok-event.ensures.happened) c.in_ok-told-in-Some.ensures
