use Rattle.std.proofs.Common.{◌∙◌}
use Rattle.wm_machine.specs.Plan.{is_unfinished}
use Rattle.wm_unique.proofs.Numbered.{find_numbered}
use Rattle.wm_unique.proofs.members.first_unfinished.Goals as goal

pub returns : goal.returns
returns c = c.first_number_unfinished.ensures ∙ find_numbered is_unfinished c.args.works.now c.args.group.now c.requires.in_order c.requires.group
