use Rattle.std.proofs.Common.{◌≡◌, ◌∙◌}
use Rattle.std.proofs.lemmas.Result.{on_ok_weaker}
use Rattle.wm_replay_runs.proofs.Closings.{meant-by_numbers}
use Rattle.wm_machine.specs.Closed.{closed, is_reached}
use Rattle.wm_replay_runs.proofs.closing.close_work.Goals as goal

pub returns : goal.returns
returns c =
    let works = c.args.works.now in
    let stored : c.as_slice.result.now ≡ works = c.as_slice.ensures in
    on_ok_weaker c.change_items.result
    (λ is. is ∙ meant-by_numbers (is_reached c.args.seq works) (closed c.args.how c.args.now) works c.in_ok-numbers.numbers c.requires (rw stored at c.in_ok-numbers.ensures))
    c.change_items.ensures
