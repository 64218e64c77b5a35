use Rattle.std.proofs.Common.{List, ap, ◌∙◌}
use Rattle.wm_machine.specs.Pruned.{prunable}
use Rattle.wm_machine.specs.declared.record.Record.{Record}
use Rattle.wm_replay_commands.proofs.Commands.{without_numbers}
use Rattle.wm_replay_commands.proofs.pruning.remove_prunable.Goals as goal

pub returns : goal.returns
returns c =
    let s = c.args.state.now in
    ap (λ (works : List Record). record s { works = works })
    (c.remove_works.ensures ∙ without_numbers (prunable s c.args.force) s.works c.args.numbers.now c.requires.in_order c.requires.numbers)
