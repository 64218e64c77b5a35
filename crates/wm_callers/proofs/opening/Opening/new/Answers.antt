use Rattle.wm_callers.proofs.Keeps.{opens}
use Rattle.wm_callers.proofs.opening.Opening.new.Goals as goal

pub of_words-requires : goal.of_words-requires
of_words-requires c = opens
