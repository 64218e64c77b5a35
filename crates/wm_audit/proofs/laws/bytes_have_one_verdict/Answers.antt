use Rattle.wm_audit.proofs.OneVerdict.{one-verdict}
use Rattle.wm_audit.proofs.laws.bytes_have_one_verdict.Goals as goal

pub returns : goal.returns
returns c = one-verdict
