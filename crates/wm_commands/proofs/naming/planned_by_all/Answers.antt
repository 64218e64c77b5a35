use Rattle.std.proofs.Common.{◌≡◌, rules}
use Rattle.std.specs.Prelude.{IfOk}
use Rattle.std.proofs.lemmas.Result.{IfOk-weaker}
use Rattle.wm_commands.proofs.NamedPlans.{let_go-numbers}
use Rattle.wm_machine.specs.Enqueued.{plan_in}
use Rattle.wm_steps.proofs.Views.{reached-view}
use Rattle.wm_unique.specs.Plans.{plan_fields, AreNumbersOf}
use Rattle.wm_commands.proofs.naming.planned_by_all.Goals as goal

pub returns-clause-let_go : goal.returns-clause-let_go
returns-clause-let_go c =
    let s = c.args.view.now in
    let unique = c.args.unique.now in
    let valid = reached-view _ s _ c.view.view_is c.view.invariant in
    let ok : IfOk c.plan.result (λ plan. plan ≡ plan_fields (plan_in s unique)) = search rules in
    IfOk-weaker c.plan.result (λ plan. plan ≡ plan_fields (plan_in s unique)) (λ plan. AreNumbersOf s.works plan.let_go)
    (λ plan is. rw is (let_go-numbers unique.policy s.works unique.name valid.works.in_order)) ok
