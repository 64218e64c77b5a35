use Rattle.wm_steps.proofs.Readies.{step-readiness}
use Rattle.wm_steps.proofs.laws.untouched_works_stay_as_ready.Goals as goal

pub returns : goal.returns
returns c = step-readiness
