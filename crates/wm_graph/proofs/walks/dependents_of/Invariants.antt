use Rattle.std.proofs.Common.{◌≡◌, ◌++◌, map}
use Rattle.std.specs.Map.Iter.{deref}
use Rattle.wm_graph.proofs.walks.dependents_of.Given as goal

abbrev pub invariant-loop-edge : goal.invariant-loop-edge
invariant-loop-edge l = record {
  split : map deref l.yielded ++ l.edge-iterator ≡ l.initial.edge-iterator;
  found : l.found.items ≡ map (λ edge. edge.1) (map deref l.yielded);
}
