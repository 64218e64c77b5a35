use Rattle.wm_audit_text.proofs.LineValues.{ok_then}
use Rattle.wm_audit_text.proofs.Plain.{row_is_plain, row_is_shallow}
use Rattle.wm_audit_text.proofs.ToldRows.{IsToldRow-row}
use Rattle.wm_audit_text.proofs.lines.row_line.Goals as goal

pub text_of-requires-clause-plain : goal.text_of-requires-clause-plain
text_of-requires-clause-plain c = rw (c.in_ok-value.ensures) (row_is_plain c.args.row.now)

pub text_of-requires-clause-shallow : goal.text_of-requires-clause-shallow
text_of-requires-clause-shallow c = rw (c.in_ok-value.ensures) (row_is_shallow c.args.row.now)

pub returns-clause-line : goal.returns-clause-line
returns-clause-line c = rw (c.in_ok-value.ensures) at c.text_of.ensures.text

pub returns-clause-told : goal.returns-clause-told
returns-clause-told c =
    ok_then _ _ _ (IsToldRow-row c.args.row.now c.read_row.ensures.range c.read_row.ensures.own) (rw (c.in_ok-value.ensures) at c.text_of.ensures.read)
