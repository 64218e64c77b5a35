use Rattle.wm_hearings.proofs.Reported.{date-none, reports-on}
use Rattle.wm_hearings.proofs.laws.each_report_is_of_one_line.Goals as goal

pub returns-clause-goes_on : goal.returns-clause-goes_on
returns-clause-goes_on c = reports-on

pub returns-clause-ends : goal.returns-clause-ends
returns-clause-ends c = date-none
