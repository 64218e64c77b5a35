use Rattle.wm_machine.proofs.Openings.{reached-opened}
use Rattle.wm_machine.proofs.Reports.{reported_once}
use Rattle.wm_machine.proofs.laws.each_run_is_reported_once.Goals as goal

pub returns-clause-from_valid : goal.returns-clause-from_valid
returns-clause-from_valid c = reported_once

pub returns-clause-from_opened : goal.returns-clause-from_opened
returns-clause-from_opened c rows instances first last before later run seq instance input opened replays =
    reported_once first last before later run seq instance input (reached-opened rows instances first opened) replays
