use Rattle.std.proofs.Common.{◌≡◌, ap, not, sym, ◌∙◌}
use Rattle.std.specs.List.{list_any}
use Rattle.wm_machine.specs.Group.{is_prior_of, leaves_of, numbers_in}
use Rattle.wm_machine.specs.Plan.{is_lost}
use Rattle.wm_machine.specs.declared.record.Record.{Record}
use Rattle.wm_unique.proofs.Numbered.{grouped_part}
use Rattle.wm_unique.specs.Plans.{grouped}
use Rattle.wm_unique.proofs.plans.any_leaf_lost.Goals as goal

pub any_lost-requires-clause-group : goal.any_lost-requires-clause-group
any_lost-requires-clause-group c =
    let works = c.args.works.now in
    let members = grouped works c.args.group.now in
    let leaves = c.args.leaves.now in
    let part : grouped works leaves ≡ leaves_of members =
    ap (grouped works) c.requires.leaves ∙ grouped_part (λ work. not (is_prior_of members work)) works c.args.group.now c.requires.in_order in
    c.requires.leaves ∙ sym (ap numbers_in part)

pub returns : goal.returns
returns c =
    let works = c.args.works.now in
    let members = grouped works c.args.group.now in
    let leaves = c.args.leaves.now in
    let part : grouped works leaves ≡ leaves_of members =
    ap (grouped works) c.requires.leaves ∙ grouped_part (λ work. not (is_prior_of members work)) works c.args.group.now c.requires.in_order in
    c.any_lost.ensures ∙ ap (list_any (λ (work : Record). is_lost work.phase)) part
