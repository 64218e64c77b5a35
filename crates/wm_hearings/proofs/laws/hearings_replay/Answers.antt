use Rattle.wm_hearings.proofs.Replays.{all-replay}
use Rattle.wm_hearings.proofs.laws.hearings_replay.Goals as goal

pub returns : goal.returns
returns c = all-replay
