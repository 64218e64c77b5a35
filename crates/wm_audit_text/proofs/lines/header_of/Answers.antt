use Rattle.wm_audit_text.proofs.Plain.{header_is_plain}
use Rattle.wm_audit_text.proofs.lines.header_of.Goals as goal

pub is_text_of-requires : goal.is_text_of-requires
is_text_of-requires c = rw (c.in_ok-written.ensures) (header_is_plain c.as_slice.result.now c.in-Some-2.header.rows)
