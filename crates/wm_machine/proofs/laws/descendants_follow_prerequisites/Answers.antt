use Rattle.wm_machine.proofs.Descendants.{descendants_where}
use Rattle.wm_machine.proofs.laws.descendants_follow_prerequisites.Goals as goal

pub returns : goal.returns
returns c = descendants_where
