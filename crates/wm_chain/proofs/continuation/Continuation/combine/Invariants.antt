use Rattle.std.proofs.Common.{◌≡◌, ◌≤◌, ◌++◌, length}
use Rattle.std.specs.Vec.Iter.{into_iter_items}
use Rattle.wm_chain.specs.Layers.{combined}
use Rattle.wm_chain.proofs.continuation.Continuation.combine.Given as goal

-- the chains so far are one, with a work of each at least
abbrev pub invariant-loop-part : goal.invariant-loop-part
invariant-loop-part l = record {
  works : l.works.items ≡ (combined l.yielded).works;
  last : l.last.items ≡ (combined l.yielded).last;
  left : l.yielded ++ into_iter_items l.part-iterator ≡ l.fn.parts.items;
  long : length l.yielded ≤ length l.works.items;
}
