use Rattle.wm_audit_text.proofs.Cuts.{cut-written}
use Rattle.wm_audit_text.proofs.laws.what_is_written_is_cut.Goals as goal

pub returns : goal.returns
returns c = cut-written
