use Rattle.std.proofs.Common.{rules}
use Rattle.wm_data.proofs.Equal.{data_decides}
use Rattle.wm_data.proofs.data.DataPartialEq.eq.Goals as goal

pub returns-clause-decides : goal.returns-clause-decides
returns-clause-decides c = search (data_decides, rules)
