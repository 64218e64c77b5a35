use Rattle.std.proofs.Common.{◌≡◌, None, rules, sym, ◌∙◌, ap, subst}
use Rattle.wm_commands.proofs.LastPlans.{last-planned, last-refused, planned-found}
use Rattle.wm_machine.specs.Enqueued.{plan_in}
use Rattle.wm_machine.specs.Plan.{plan_of}
use Rattle.wm_steps.proofs.Views.{reached-view}
use Rattle.wm_unique.specs.Plans.{grouped, kind_refused, plan_fields, IsPlanFault}
use Rattle.wm_commands.proofs.naming.planned_by_last.Goals as goal

pub returns-in-Ok-clause-ok : goal.returns-in-Ok-clause-ok
returns-in-Ok-clause-ok c =
    let s = c.args.view.now in
    let unique = c.args.unique.now in
    let last = c.last_of-last.result.now in
    let valid = reached-view _ s _ c.view.view_is c.view.invariant in
    let is : c.in-Ok.plan ≡ plan_fields (plan_of unique.policy (grouped s.works last)) = search rules in
    planned-found c.if_after.result c.in-Ok.plan (plan_fields (plan_of unique.policy (grouped s.works last))) (plan_fields (plan_in s unique)) c.if_after.ensures is
    (λ after. ap plan_fields (last-planned s unique.name last unique.policy valid c.requires.appends c.last_of-last.ensures.last after))

pub returns-in-Ok-clause-fits : goal.returns-in-Ok-clause-fits
returns-in-Ok-clause-fits c =
    let s = c.args.view.now in
    let unique = c.args.unique.now in
    let last = c.last_of-last.result.now in
    let valid = reached-view _ s _ c.view.view_is c.view.invariant in
    let none : kind_refused unique.policy (grouped s.works last) c.args.batch.now.works ≡ None = search rules in
    sym (last-refused s unique.name last unique.policy valid c.requires.appends c.last_of-last.ensures.last c.args.batch.now.works) ∙ none

pub returns-in-Err-clause-err : goal.returns-in-Err-clause-err
returns-in-Err-clause-err c =
    let s = c.args.view.now in
    let unique = c.args.unique.now in
    let last = c.last_of-last.result.now in
    let valid = reached-view _ s _ c.view.view_is c.view.invariant in
    let refused : IsPlanFault (kind_refused unique.policy (grouped s.works last) c.args.batch.now.works) c.in-Err.fault = search rules in
    subst (λ found. IsPlanFault found c.in-Err.fault)
    (last-refused s unique.name last unique.policy valid c.requires.appends c.last_of-last.ensures.last c.args.batch.now.works) refused
