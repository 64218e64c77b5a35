use Rattle.wm_machine.proofs.Openings.{reached-of_log, reached-opened, rest-opened}
use Rattle.wm_machine.proofs.laws.an_opened_state_is_valid.Goals as goal

pub returns-clause-opened : goal.returns-clause-opened
returns-clause-opened c rows instances first opened = (reached-opened rows instances first opened, rest-opened opened)

pub returns-clause-of_log : goal.returns-clause-of_log
returns-clause-of_log c = reached-of_log
