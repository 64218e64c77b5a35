use Rattle.wm_collections.proofs.NumberSets.{added-more}
use Rattle.wm_collections.proofs.sets.add_each.Goals as goal

pub loop-other-preserved : goal.loop-other-preserved
loop-other-preserved c =
    added-more c.args.others.now c.loop-other.other-index c.loop-other-test.true c.args.numbers.now c.loop-other.numbers _ c.loop-other.invariant
    c.in_ok-insert.ensures.updates
