use Rattle.wm_hearings.proofs.Determined.{one-end, one-part}
use Rattle.wm_hearings.proofs.laws.hearings_are_determined.Goals as goal

pub returns-clause-one : goal.returns-clause-one
returns-clause-one c = one-part

pub returns-clause-all : goal.returns-clause-all
returns-clause-all c = one-end
