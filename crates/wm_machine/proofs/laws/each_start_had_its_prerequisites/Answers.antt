use Rattle.wm_machine.proofs.StartedLogs.{had_its_prerequisites}
use Rattle.wm_machine.proofs.laws.each_start_had_its_prerequisites.Goals as goal

pub returns : goal.returns
returns c = had_its_prerequisites
