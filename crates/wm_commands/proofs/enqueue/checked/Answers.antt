use Rattle.std.proofs.Common.{◌≡◌, filter, rules, ap, ◌∙◌}
use Rattle.wm_machine.specs.Group.{numbers_in}
use Rattle.wm_machine.specs.declared.record.Record.{Record}
use Rattle.wm_request.specs.Batches.{has_id}
use Rattle.wm_unique.proofs.NamedIds.{named-same}
use Rattle.wm_unique.specs.Plans.{ids_named}
use Rattle.wm_commands.proofs.enqueue.checked.Goals as goal

pub check-requires-clause-known : goal.check-requires-clause-known
check-requires-clause-known c =
    let works = c.args.view.now.works in
    let nodes = c.args.batch.now.works in
    let stored : c.as_slice-works.result.now ≡ works = search rules in
    let ids : c.as_slice-2.result.now ≡ ids_named nodes = search rules in
    let known : c.as_slice-3.result.now ≡ numbers_in (filter (λ work. has_id c.as_slice-2.result.now work.request.id) works) = search rules in
    rw stored (known ∙ ap (λ named. numbers_in (filter (λ (work : Record). has_id named work.request.id) works)) ids ∙ named-same nodes works)
