use Rattle.wm_audit_text.proofs.Plain.{row_is_plain}
use Rattle.wm_audit_text.proofs.lines.row_of.Goals as goal

pub is_text_of-requires : goal.is_text_of-requires
is_text_of-requires c = rw (c.in_ok-written.ensures) (row_is_plain c.in_ok-row.row)
