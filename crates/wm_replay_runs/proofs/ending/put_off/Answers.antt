use Rattle.std.proofs.Common.{◌∙◌}
use Rattle.std.proofs.lemmas.Result.{on_ok_weaker}
use Rattle.wm_replay_runs.proofs.Closings.{put_off-periodic}
use Rattle.wm_replay_runs.proofs.ending.put_off.Goals as goal

pub returns : goal.returns
returns c =
    on_ok_weaker c.change_work.result
    (λ is. is ∙ put_off-periodic c.args.now c.args.seq c.args.period c.args.works.now c.requires.in_order c.requires.period) c.change_work.ensures
