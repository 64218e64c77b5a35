use Rattle.std.proofs.Common.{take, ◌∙◌}
use Rattle.wm_machine.proofs.Counting.{counts-whole, same_counts}
use Rattle.wm_machine.specs.Summarized.{counts_among}
use Rattle.wm_replay_commands.proofs.counts.counts_among.Goals as goal

pub returns : goal.returns
returns c =
    let works = c.args.works.now in
    let index = c.loop-work.work-index in
    let seen = c.loop-work.invariant in
    same_counts c.loop-work.counts (counts_among works (take index works)) seen.enqueued seen.running seen.succeeded seen.failed seen.blocked seen.cancelled
    seen.attempts
    ∙ counts-whole works works index c.loop-work-test.false
