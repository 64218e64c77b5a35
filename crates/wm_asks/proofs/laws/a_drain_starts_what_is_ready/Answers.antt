use Rattle.wm_asks.proofs.Readied.{starts-ready}
use Rattle.wm_asks.proofs.laws.a_drain_starts_what_is_ready.Goals as goal

pub returns : goal.returns
returns c = starts-ready
