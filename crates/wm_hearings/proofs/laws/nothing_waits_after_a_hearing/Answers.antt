use Rattle.wm_hearings.proofs.Rests.{nothing-waits}
use Rattle.wm_hearings.proofs.laws.nothing_waits_after_a_hearing.Goals as goal

pub returns : goal.returns
returns c = nothing-waits
