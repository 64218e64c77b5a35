use Rattle.wm_audit_text.proofs.LineValues.{ok_then}
use Rattle.wm_audit_text.proofs.Plain.{event_is_plain, event_is_shallow}
use Rattle.wm_audit_text.proofs.ToldEvents.{IsTold-event}
use Rattle.wm_audit_text.proofs.lines.event_line.Goals as goal
use Rattle.wm_audit_text.specs.Lines.{IsToldCanonical}

pub text_of-requires-clause-plain : goal.text_of-requires-clause-plain
text_of-requires-clause-plain c = rw (c.in_ok-value.ensures) (event_is_plain c.args.event.now)

pub text_of-requires-clause-shallow : goal.text_of-requires-clause-shallow
text_of-requires-clause-shallow c = rw (c.in_ok-value.ensures) (event_is_shallow c.args.event.now)

pub returns-clause-line : goal.returns-clause-line
returns-clause-line c = rw (c.in_ok-value.ensures) at c.text_of.ensures.text

pub returns-clause-told : goal.returns-clause-told
unfolding IsToldCanonical
returns-clause-told c =
    ok_then _ _ _ (IsTold-event c.args.event.now c.read_event.ensures) (rw (c.in_ok-value.ensures) at c.text_of.ensures.read)
