use Rattle.wm_audit_text.proofs.LineValues.{ok_then}
use Rattle.wm_audit_text.proofs.ToldHeaders.{end-told}
use Rattle.wm_audit_text.proofs.lines.end_line.Goals as goal

pub returns-clause-line : goal.returns-clause-line
returns-clause-line c = rw (c.in_ok-value.ensures) at c.text_of.ensures.text

pub returns-clause-told : goal.returns-clause-told
returns-clause-told c = ok_then _ _ _ (end-told c.args.size) (rw (c.in_ok-value.ensures) at c.text_of.ensures.read)
