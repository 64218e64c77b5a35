use Rattle.std.proofs.Common.{◌≡◌, ℕ, drop}
use Rattle.std.specs.List.{AllByRecursion}
use Rattle.wm_graph.specs.Nodes.{HasNode}
use Rattle.wm_steps.specs.Following.{with_followed}
use Rattle.wm_steps.proofs.follow.follow_each.Given as goal

-- what is left makes of the graph so far what all makes of the graph, and each node stays there
abbrev pub invariant-loop-replacement : goal.invariant-loop-replacement
invariant-loop-replacement l = record {
  nodes : with_followed (drop l.replacement-index l.replaced) l.graph ≡ with_followed l.replaced l.fn.graph;
  there : (number : ℕ) → HasNode l.fn.graph number → HasNode l.graph number;
  left : AllByRecursion (λ replaced. HasNode l.graph replaced.work.seq) (drop l.replacement-index l.replaced);
}
