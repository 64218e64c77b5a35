use Rattle.wm_replay.proofs.Placings.{prior-more}
use Rattle.wm_replay.proofs.placing.numbers_of.Goals as goal

pub loop-id-preserved : goal.loop-id-preserved
loop-id-preserved c =
    prior-more c.args.works.now c.args.ids.now c.loop-id.id-index c.id-item.result c.loop-id.numbers c.add_with_id.new.numbers c.loop-id-test.true c.id-item.is
    c.in_ok-add_with_id.ensures c.loop-id.invariant
