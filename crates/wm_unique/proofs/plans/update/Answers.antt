use Rattle.std.proofs.Common.{◌≡◌, Some, find, option_map, rules, ◌∙◌}
use Rattle.wm_machine.specs.Plan.{is_unfinished}
use Rattle.wm_machine.specs.declared.record.Record.{Record}
use Rattle.wm_unique.proofs.Planned.{updates_found}
use Rattle.wm_unique.specs.Plans.{grouped}
use Rattle.wm_unique.proofs.plans.update.Goals as goal

pub returns-in-Some : goal.returns-in-Some
returns-in-Some c =
    let members = grouped c.args.works.now c.args.group.now in
    let found : Some c.in-Some.number ≡ option_map (λ (work : Record). work.seq) (find is_unfinished members) = search rules in
    c.updating.ensures ∙ updates_found (find is_unfinished members) members c.in-Some.number found
