use Rattle.wm_hearings.proofs.RunNames.{none-named}
use Rattle.wm_hearings.proofs.laws.no_other_session_is_named.Goals as goal

pub returns : goal.returns
returns c = none-named
