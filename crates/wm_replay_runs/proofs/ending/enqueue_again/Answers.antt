use Rattle.std.proofs.Common.{◌∙◌}
use Rattle.std.proofs.lemmas.Result.{on_ok_weaker}
use Rattle.wm_replay_runs.proofs.Closings.{again-periodic}
use Rattle.wm_replay_runs.proofs.ending.enqueue_again.Goals as goal

pub returns : goal.returns
returns c =
    on_ok_weaker c.change_work.result
    (λ is. is ∙ again-periodic c.args.renewed c.args.now c.args.end.now c.args.seq c.args.period c.args.works.now c.requires.in_order c.requires.period
    c.requires.is_final) c.change_work.ensures
