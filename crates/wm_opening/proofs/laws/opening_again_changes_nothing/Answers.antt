use Rattle.wm_opening.proofs.OpenedAgain.{opened-again}
use Rattle.wm_opening.proofs.laws.opening_again_changes_nothing.Goals as goal

pub returns : goal.returns
returns c = opened-again
