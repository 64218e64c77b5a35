use Rattle.wm_observe.proofs.PutRecords.{places-more}
use Rattle.wm_observe.proofs.places.places_in.Goals as goal

pub loop-index-preserved : goal.loop-index-preserved
loop-index-preserved c =
    places-more c.args.replaced.now c.loop-index.index c.index-replaced-index.result c.loop-index-test.true c.index-replaced-index.is c.loop-index.places _ c.loop-index.invariant
    c.in_ok-insert.ensures.updates
