use Rattle.wm_audit_text.proofs.Plain.{entry_is_plain}
use Rattle.wm_audit_text.proofs.lines.entry_of.Goals as goal

pub is_text_of-requires : goal.is_text_of-requires
is_text_of-requires c = rw (c.in_ok-written.ensures) (entry_is_plain c.in-Some-2.entry)
