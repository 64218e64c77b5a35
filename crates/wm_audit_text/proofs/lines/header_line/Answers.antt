use Rattle.wm_audit_text.proofs.LineValues.{ok_then}
use Rattle.wm_audit_text.proofs.Plain.{header_is_plain, header_is_shallow}
use Rattle.wm_audit_text.proofs.ToldHeaders.{IsHeaderOf-hands}
use Rattle.wm_audit_text.proofs.lines.header_line.Goals as goal

pub text_of-requires-clause-plain : goal.text_of-requires-clause-plain
text_of-requires-clause-plain c = rw (c.in_ok-value.ensures) (header_is_plain c.args.hands.now c.args.rows)

pub text_of-requires-clause-shallow : goal.text_of-requires-clause-shallow
text_of-requires-clause-shallow c = rw (c.in_ok-value.ensures) (header_is_shallow c.args.hands.now c.args.rows)

pub returns-clause-line : goal.returns-clause-line
returns-clause-line c = rw (c.in_ok-value.ensures) at c.text_of.ensures.text

pub returns-clause-told : goal.returns-clause-told
returns-clause-told c =
    ok_then _ _ _ (IsHeaderOf-hands c.args.hands.now c.args.rows) (rw (c.in_ok-value.ensures) at c.text_of.ensures.read)
