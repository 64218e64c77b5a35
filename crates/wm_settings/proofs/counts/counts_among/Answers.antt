use Rattle.std.proofs.Common.{take, ◌∙◌}
use Rattle.wm_machine.proofs.Counting.{counts-whole, same_counts}
use Rattle.wm_machine.specs.Summarized.{counts_among}
use Rattle.wm_settings.proofs.counts.counts_among.Goals as goal

pub returns : goal.returns
returns c =
    let all = c.args.view.now.works in
    let works = c.args.works.now in
    let index = c.loop-work.work-index in
    let seen = c.loop-work.invariant in
    same_counts c.loop-work.counts (counts_among all (take index works)) seen.enqueued seen.running seen.succeeded seen.failed seen.blocked seen.cancelled
    seen.attempts
    ∙ counts-whole all works index c.loop-work-test.false
