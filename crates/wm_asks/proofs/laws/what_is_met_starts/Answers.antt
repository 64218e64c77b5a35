use Rattle.wm_asks.proofs.MetStarts.{met-starts}
use Rattle.wm_asks.proofs.laws.what_is_met_starts.Goals as goal

pub returns : goal.returns
returns c = met-starts
