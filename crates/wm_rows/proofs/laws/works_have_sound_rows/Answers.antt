use Rattle.wm_rows.proofs.StoreWritten.{checked-written}
use Rattle.wm_rows.proofs.laws.works_have_sound_rows.Goals as goal

pub returns : goal.returns
returns c = checked-written
