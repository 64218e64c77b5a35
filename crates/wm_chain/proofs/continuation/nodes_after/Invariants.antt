use Rattle.std.proofs.Common.{◌≡◌, ◌++◌, map}
use Rattle.std.specs.Vec.Iter.{into_iter_items}
use Rattle.wm_chain.specs.Layers.{node_after}
use Rattle.wm_chain.proofs.continuation.nodes_after.Given as goal

-- there is a work of each request so far
abbrev pub invariant-loop-request : goal.invariant-loop-request
invariant-loop-request l = record {
  made : l.nodes.items ≡ map (node_after l.after) l.yielded;
  left : l.yielded ++ into_iter_items l.request-iterator ≡ l.fn.layer.items;
}
