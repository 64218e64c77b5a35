use Rattle.wm_machine.proofs.FinishMoments.{finish_now}
use Rattle.wm_machine.proofs.laws.what_a_step_finishes_has_its_moment.Goals as goal

pub returns : goal.returns
returns c = finish_now
