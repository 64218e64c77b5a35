use Rattle.std.proofs.Common.{◌≡◌, length, take}
use Rattle.wm_graph.specs.Kept.{IsKept}
use Rattle.wm_graph.proofs.removing.truncate_nodes.Given as goal

abbrev pub invariant-loop-nodes : goal.invariant-loop-nodes
invariant-loop-nodes l = record {
  kept : IsKept l.nodes.entries l.edges;
  first : take l.count l.nodes.entries ≡ take l.count l.initial.nodes.entries;
}

abbrev pub decreases-loop-nodes : goal.decreases-loop-nodes
decreases-loop-nodes l = length l.nodes.entries
