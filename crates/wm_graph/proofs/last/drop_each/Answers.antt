use Rattle.wm_graph.proofs.Leaves.{dropped-more}
use Rattle.wm_graph.proofs.last.drop_each.Goals as goal

pub loop-other-preserved : goal.loop-other-preserved
loop-other-preserved c =
    dropped-more c.args.others.now c.loop-other.other-index c.loop-other-test.true c.args.numbers.now c.loop-other.numbers _ c.loop-other.invariant
    c.remove.ensures.updates
