use Rattle.wm_hearings.proofs.Replays.{heard-once}
use Rattle.wm_hearings.proofs.laws.each_start_is_reported_once.Goals as goal

pub returns : goal.returns
returns c = heard-once
