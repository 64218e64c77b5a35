-- The layers that are left, at the end of the chain so far, are all.
use Rattle.std.proofs.Common.{◌≡◌, ◌≤◌, length}
use Rattle.std.specs.List.{AllByRecursion}
use Rattle.std.specs.Vec.Iter.{into_iter_items}
use Rattle.wm_chain.specs.Layers.{chained, no_layer}
use Rattle.wm_script.proofs.batches.chain_of.Given as goal

abbrev pub invariant-loop-layer : goal.invariant-loop-layer
invariant-loop-layer l = record {
  full : AllByRecursion (λ layer. 1 ≤ length layer) (into_iter_items l.layer-iterator);
  left : chained l.chain (into_iter_items l.layer-iterator) ≡ chained no_layer l.fn.layers;
}
