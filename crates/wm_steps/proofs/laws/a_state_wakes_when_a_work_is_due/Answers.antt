use Rattle.wm_steps.proofs.Wakings.{wakes-at}
use Rattle.wm_steps.proofs.laws.a_state_wakes_when_a_work_is_due.Goals as goal

pub returns : goal.returns
returns c = wakes-at
