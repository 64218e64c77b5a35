use Rattle.std.proofs.Common.{ap, filter, ◌∙◌}
use Rattle.std.proofs.lemmas.List.{take_all}
use Rattle.wm_machine.specs.Plan.{is_unfinished}
use Rattle.wm_unique.proofs.Numbered.{filter_numbered}
use Rattle.wm_unique.specs.Plans.{numbered_passes}
use Rattle.wm_unique.proofs.members.unfinished.Goals as goal

pub returns : goal.returns
returns c =
    let works = c.args.works.now in
    let group = c.args.group.now in
    c.loop-number.invariant ∙ ap (filter (numbered_passes is_unfinished works)) (take_all c.loop-number.number-index group c.loop-number-test.false)
    ∙ filter_numbered is_unfinished works group c.requires.in_order c.requires.group
