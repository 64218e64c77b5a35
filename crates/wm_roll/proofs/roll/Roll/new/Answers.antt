use Rattle.wm_roll.proofs.Keeps.{opens}
use Rattle.wm_roll.proofs.roll.Roll.new.Goals as goal

pub of_words-requires : goal.of_words-requires
of_words-requires c = opens
