use Rattle.wm_hearings.proofs.Wakes.{wake-computed, wake-one}
use Rattle.wm_hearings.proofs.laws.the_wake_is_computed.Goals as goal

pub returns-clause-of : goal.returns-clause-of
returns-clause-of c = wake-computed

pub returns-clause-one : goal.returns-clause-one
returns-clause-one c = wake-one
