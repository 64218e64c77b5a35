use Rattle.std.proofs.Common.{◌∙◌}
use Rattle.wm_machine.specs.Plan.{is_lost}
use Rattle.wm_unique.proofs.Numbered.{any_numbered}
use Rattle.wm_unique.proofs.members.any_lost.Goals as goal

pub returns : goal.returns
returns c = c.any_number_lost.ensures ∙ any_numbered (λ work. is_lost work.phase) c.args.works.now c.args.group.now c.requires.in_order c.requires.group
