use Rattle.std.proofs.Common.{rules}
use Rattle.wm_observe.proofs.Same.{eq_same}
use Rattle.wm_observe.specs.SameInfo.{eq_decides}
use Rattle.wm_observe.proofs.noting.is_same.Goals as goal

pub returns-clause-same : goal.returns-clause-same
returns-clause-same c = search (eq_same, rules)

pub returns-clause-decides : goal.returns-clause-decides
returns-clause-decides c = search (eq_decides, rules)
