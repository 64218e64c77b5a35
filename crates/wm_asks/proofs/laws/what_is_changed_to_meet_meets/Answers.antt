use Rattle.wm_asks.proofs.Meetings.{meet-meets}
use Rattle.wm_asks.proofs.laws.what_is_changed_to_meet_meets.Goals as goal

pub returns : goal.returns
returns c = meet-meets
