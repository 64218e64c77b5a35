use Rattle.std.proofs.Common.{◌≡◌, ◌&&◌, ◌∙◌, ap, filter, reverse, rules}
use Rattle.std.proofs.lemmas.Result.{IfOk-weaker}
use Rattle.wm_replay_runs.proofs.Closings.{reached-open}
use Rattle.wm_collections.specs.Lists.{is_among}
use Rattle.wm_machine.specs.Closed.{descendants, is_open, is_reached}
use Rattle.wm_machine.specs.Group.{numbers_in}
use Rattle.wm_machine.specs.declared.record.Record.{Record}
use Rattle.wm_replay_runs.proofs.closing.reached.Goals as goal

pub returns : goal.returns
returns c =
    let works = c.args.works.now in
    let numbers = c.as_slice.result.now in
    let are : numbers ≡ reverse (descendants c.args.seq (reverse works)) = search rules in
    IfOk-weaker c.open_among.result (λ left. left ≡ numbers_in (filter (λ (work : Record). is_open work.phase && is_among numbers work.seq) works))
    (λ left. left ≡ numbers_in (filter (is_reached c.args.seq works) works))
    (λ left is. is ∙ ap (λ ns. numbers_in (filter (λ (work : Record). is_open work.phase && is_among ns work.seq) works)) are
    ∙ ap numbers_in (reached-open c.args.seq works)) c.open_among.ensures
