use Rattle.std.proofs.Common.{◌≡◌, List, rules, ap, ◌∙◌}
use Rattle.wm_machine.specs.declared.record.Record.{Record}
use Rattle.wm_machine.proofs.Counting.{counts-all}
use Rattle.wm_machine.specs.Summarized.{counts_among}
use Rattle.wm_replay_commands.proofs.counts.counts_of.Goals as goal

pub returns : goal.returns
returns c =
    let s = c.args.state.now in
    let same : c.as_slice.result.now ≡ s.works = search rules in
    c.counts_among.ensures ∙ ap (λ (works : List Record). counts_among works c.as_slice.result.now) same ∙ counts-all s c.as_slice.result.now same
