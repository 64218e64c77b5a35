use Rattle.wm_rows.proofs.FirstFault.{first_fault}
use Rattle.wm_rows.proofs.laws.the_first_fault_is_told.Goals as goal

pub returns : goal.returns
returns c = first_fault
