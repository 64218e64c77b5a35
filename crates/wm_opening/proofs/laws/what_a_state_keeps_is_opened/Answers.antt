use Rattle.wm_opening.proofs.QuietRecords.{opened-kept, sound-kept}
use Rattle.wm_opening.proofs.laws.what_a_state_keeps_is_opened.Goals as goal

pub returns-clause-sound : goal.returns-clause-sound
returns-clause-sound c = sound-kept

pub returns-clause-opened : goal.returns-clause-opened
returns-clause-opened c = opened-kept
