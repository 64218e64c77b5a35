use Rattle.wm_table.proofs.Acknowledged.{acknowledged-kept}
use Rattle.wm_table.proofs.laws.what_was_acknowledged_is_kept.Goals as goal

pub returns : goal.returns
returns c = acknowledged-kept
