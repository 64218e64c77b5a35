use Rattle.std.proofs.Common.{◌≡◌, map, take}
use Rattle.wm_changes.specs.Nodes.{node_of}
use Rattle.wm_opening.proofs.nodes.graph_of.Given as goal

-- the nodes of the records so far, among all records
abbrev pub invariant-loop-work : goal.invariant-loop-work
invariant-loop-work l = l.graph ≡ map (node_of l.works) (take l.work-index l.works)
