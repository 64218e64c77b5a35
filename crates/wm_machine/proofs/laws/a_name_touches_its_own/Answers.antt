use Rattle.wm_machine.proofs.NameLaws.{name_touches_its_own}
use Rattle.wm_machine.proofs.laws.a_name_touches_its_own.Goals as goal

pub returns : goal.returns
returns c = name_touches_its_own
