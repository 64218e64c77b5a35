use Rattle.std.proofs.Common.{length}
use Rattle.wm_graph.proofs.Forgotten.{IsForgetting}
use Rattle.wm_graph.proofs.removing.forget_each.Given as goal

abbrev pub invariant-loop-number : goal.invariant-loop-number
invariant-loop-number l = IsForgetting l.seq l.was_done l.initial.edges l.edges l.initial.nodes.entries l.nodes.entries

abbrev pub decreases-loop-number : goal.decreases-loop-number
decreases-loop-number l = length l.edges.keys
