use Rattle.wm_machine.proofs.NameLaws.{name_of_one_kind}
use Rattle.wm_machine.proofs.laws.a_name_is_of_one_kind.Goals as goal

pub returns : goal.returns
returns c = name_of_one_kind
