use Rattle.wm_machine.specs.Queried.{matches}
use Rattle.wm_machine.specs.Shown.{info_of}
use Rattle.wm_replay_commands.proofs.ToldWorks.{told-more}
use Rattle.wm_replay_commands.proofs.telling.told_among.Goals as goal

pub loop-work-preserved : goal.loop-work-preserved
loop-work-preserved c =
    told-more (matches c.args.query.now) (info_of c.args.works.now) c.args.works.now c.loop-work.work-index c.work-item.result c.loop-work.told
    c.add_told.new.told c.loop-work-test.true c.work-item.is c.in_ok-add_told.ensures c.loop-work.invariant
