use Rattle.std.proofs.Common.{◌≡◌, drop}
use Rattle.wm_graph.specs.Nodes.{NamesNodes}
use Rattle.wm_steps.specs.Following.{without_all}
use Rattle.wm_steps.proofs.follow.remove_each.Given as goal

-- what is left makes of the graph so far what all makes of the graph, and names nodes that are there
abbrev pub invariant-loop-number : goal.invariant-loop-number
invariant-loop-number l = record {
  nodes : without_all (drop l.number-index l.numbers) l.graph ≡ without_all l.numbers l.fn.graph;
  left : NamesNodes l.graph (drop l.number-index l.numbers);
}
