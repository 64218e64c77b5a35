use Rattle.std.proofs.Common.{◌≡◌, subst, sym}
use Rattle.wm_commands.proofs.NamedPlans.{let_go-numbers}
use Rattle.wm_machine.specs.Enqueued.{plan_in}
use Rattle.wm_steps.proofs.Views.{reached-view}
use Rattle.wm_unique.specs.Plans.{plan_fields, AreNumbersOf}
use Rattle.wm_unique.specs.declared.plans.GroupPlan.{GroupPlan}
use Rattle.wm_commands.proofs.naming.planned_at_end.Goals as goal

pub returns-in-Ok-Some-clause-let_go : goal.returns-in-Ok-Some-clause-let_go
returns-in-Ok-Some-clause-let_go c =
    let s = c.args.view.now in
    let unique = c.args.unique.now in
    let valid = reached-view _ s _ c.view.view_is c.view.invariant in
    let is : c.in-Ok-Some.plan ≡ plan_fields (plan_in s unique) = rw c.in-Ok-Some.field-0-is at c.in-Ok-Some.ensures.ok in
    subst (λ (plan : GroupPlan). AreNumbersOf s.works plan.let_go) (sym is) (let_go-numbers unique.policy s.works unique.name valid.works.in_order)
