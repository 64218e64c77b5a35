use Rattle.wm_machine.specs.Queried.{matches}
use Rattle.wm_settings.proofs.FoundAnswers.{numbered-more}
use Rattle.wm_settings.proofs.answering.told_of.Goals as goal

pub loop-number-preserved : goal.loop-number-preserved
loop-number-preserved c =
    numbered-more (matches c.args.query.now) c.args.view.now.works c.args.numbers.now c.loop-number.number-index c.loop-number.told c.add_numbered.new.told
    c.loop-number-test.true c.in_ok-add_numbered.ensures c.loop-number.invariant
