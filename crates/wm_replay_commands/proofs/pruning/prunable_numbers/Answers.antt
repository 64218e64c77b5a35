use Rattle.std.proofs.Common.{◌≡◌, ◌∙◌, ap, rules, List, filter, length}
use Rattle.std.specs.List.{count_by}
use Rattle.std.proofs.lemmas.List.{take_all}
use Rattle.wm_replay_commands.proofs.Commands.{numbers-count}
use Rattle.wm_machine.specs.Group.{numbers_in}
use Rattle.wm_machine.specs.Pruned.{prunable}
use Rattle.wm_machine.specs.declared.record.Record.{Record}
use Rattle.wm_replay_commands.proofs.pruning.prunable_numbers.Goals as goal

pub returns-clause-count : goal.returns-clause-count
returns-clause-count c =
    let s = c.args.state.now in
    let test = prunable s c.args.force in
    let works = c.as_slice-works.result.now in
    let stored : works ≡ s.works = search rules in
    let whole = take_all c.loop-work.work-index works c.loop-work-test.false in
    ap length (c.loop-work.invariant ∙ ap (λ (ws : List Record). numbers_in (filter test ws)) whole) ∙ numbers-count test works ∙ ap (count_by test) stored
