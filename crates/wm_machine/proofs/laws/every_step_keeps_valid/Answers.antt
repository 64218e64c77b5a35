use Rattle.wm_machine.proofs.Steps.{Valid-after}
use Rattle.wm_machine.proofs.laws.every_step_keeps_valid.Goals as goal

pub returns : goal.returns
returns c = Valid-after
