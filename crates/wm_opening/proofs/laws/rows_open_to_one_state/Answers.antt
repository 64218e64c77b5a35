use Rattle.wm_opening.proofs.QuietRecords.{opened-once}
use Rattle.wm_opening.proofs.laws.rows_open_to_one_state.Goals as goal

pub returns : goal.returns
returns c = opened-once
