use Rattle.std.proofs.Common.{◌≡◌, ◌&&◌, ℕ, not, take}
use Rattle.wm_collections.specs.Sets.{has_number}
use Rattle.wm_graph.specs.Kept.{nodes_of}
use Rattle.wm_graph.specs.Leaves.{is_before_any}
use Rattle.wm_graph.proofs.last.drop_needed.Given as goal

abbrev pub invariant-loop-seq : goal.invariant-loop-seq
invariant-loop-seq l = (number : ℕ) → has_number l.numbers number
    ≡ (has_number l.initial.numbers number && not (is_before_any (nodes_of l.nodes.entries) (take l.seq-index l.among) number))
