use Rattle.std.proofs.Common.{◌-◌, length}
use Rattle.wm_graph.proofs.Walking.{IsWalking}
use Rattle.wm_graph.proofs.walks.walked.Given as goal

abbrev pub invariant-loop-number : goal.invariant-loop-number
invariant-loop-number l = IsWalking l.edges l.fn.starts l.todo l.found.items

abbrev pub decreases-loop-number : goal.decreases-loop-number
decreases-loop-number l = 18446744073709551616 - length l.found.items
