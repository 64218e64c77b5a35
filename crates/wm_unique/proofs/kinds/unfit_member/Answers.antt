use Rattle.std.proofs.Common.{◌≡◌, Some, None, find, rules, ◌∙◌}
use Rattle.wm_machine.specs.Plan.{is_unfit}
use Rattle.wm_unique.proofs.Numbered.{find_numbered, none_found, numbered_found}
use Rattle.wm_unique.specs.Plans.{grouped, numbered_passes}
use Rattle.wm_unique.proofs.kinds.unfit_member.Goals as goal

pub returns-in-Some : goal.returns-in-Some
returns-in-Some c =
    let works = c.args.works.now in
    let group = c.args.group.now in
    let test = is_unfit c.args.policy in
    let ran : Some c.in-Some.number ≡ find (numbered_passes test works) group = search rules in
    c.work_numbered.ensures
    ∙ numbered_found test works group c.in-Some.number c.requires.in_order (ran ∙ find_numbered test works group c.requires.in_order c.requires.group)

pub returns-in-None : goal.returns-in-None
returns-in-None c =
    let works = c.args.works.now in
    let group = c.args.group.now in
    let test = is_unfit c.args.policy in
    let ran : None ≡ find (numbered_passes test works) group = search rules in
    none_found (find test (grouped works group)) (ran ∙ find_numbered test works group c.requires.in_order c.requires.group)
