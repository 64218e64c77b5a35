use Rattle.std.proofs.Common.{◌≡◌, ap}
use Rattle.wm_commands.proofs.NamedPlans.{after-there}
use Rattle.wm_machine.specs.Enqueued.{plan_in}
use Rattle.wm_unique.specs.Plans.{plan_fields}
use Rattle.wm_unique.specs.declared.plans.GroupPlan.{GroupPlan}
use Rattle.wm_commands.proofs.naming.carry_out.Goals as goal

pub check_and_place-requires-clause-after : goal.check_and_place-requires-clause-after
check_and_place-requires-clause-after c =
    let s = c.args.view.now in
    let unique = c.args.unique in
    let after : c.args.plan.after ≡ (plan_fields (plan_in s unique)).after = ap (λ (fields : GroupPlan). fields.after) c.requires.planned in
    rw after (after-there unique.policy s.works unique.name)
