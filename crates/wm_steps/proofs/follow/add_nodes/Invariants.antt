use Rattle.std.proofs.Common.{◌≡◌, ◌++◌, drop, map, take}
use Rattle.wm_steps.specs.Following.{placed_node, AreAddable}
use Rattle.wm_steps.proofs.follow.add_nodes.Given as goal

-- the nodes of the works so far are added, and those of the works that are left can be
abbrev pub invariant-loop-work : goal.invariant-loop-work
invariant-loop-work l = record {
  added : l.graph ≡ l.fn.graph ++ map placed_node (take l.work-index l.placed);
  left : AreAddable l.graph (map placed_node (drop l.work-index l.placed));
}
