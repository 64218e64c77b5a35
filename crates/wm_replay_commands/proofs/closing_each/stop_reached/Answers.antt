use Rattle.std.proofs.Common.{◌∙◌}
use Rattle.std.proofs.lemmas.Result.{on_ok_weaker}
use Rattle.wm_replay_runs.proofs.Closings.{stopped-reached}
use Rattle.wm_replay_commands.proofs.closing_each.stop_reached.Goals as goal

pub returns : goal.returns
returns c =
    on_ok_weaker c.change_items.result
    (λ is. is ∙ stopped-reached c.args.seq c.args.works.now c.args.runs.now c.in_ok-numbers.numbers c.in_ok-numbers.ensures) c.change_items.ensures
