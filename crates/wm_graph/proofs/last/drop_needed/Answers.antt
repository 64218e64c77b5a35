use Rattle.std.proofs.Common.{◌≡◌, ◌&&◌, ℕ, not, subst}
use Rattle.wm_collections.specs.Lists.{is_among}
use Rattle.wm_graph.proofs.Leaves.{needed-more}
use Rattle.wm_collections.specs.Sets.{has_number}
use Rattle.wm_graph.specs.Kept.{nodes_of}
use Rattle.wm_graph.proofs.last.drop_needed.Goals as goal

pub loop-seq-preserved : goal.loop-seq-preserved
loop-seq-preserved c =
    needed-more (nodes_of c.args.nodes.now.entries) c.args.among.now c.loop-seq.seq-index c.loop-seq-test.true c.args.numbers.now c.loop-seq.numbers
    c.drop_each.new.numbers c.loop-seq.invariant
    (subst (λ before. (number : ℕ) → has_number c.drop_each.new.numbers number ≡ (has_number c.loop-seq.numbers number && not (is_among before number)))
    c.before_of.ensures c.drop_each.ensures)
