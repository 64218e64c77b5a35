use Rattle.wm_machine.proofs.NameLaws.{name_passes}
use Rattle.wm_machine.proofs.laws.a_name_passes_to_new_works.Goals as goal

pub returns : goal.returns
returns c = name_passes
