use Rattle.std.proofs.Common.{◌≡◌, ◌++◌, [], None, refl, rules}
use Rattle.wm_commands.specs.Cleared.{with_cleared}
use Rattle.wm_machine.specs.Enqueued.{first_finished_at, first_phase, prior_of}
use Rattle.wm_machine.specs.Updated.{next_moment}
use Rattle.wm_request.specs.Requests.{of_record}
use Rattle.wm_commands.proofs.placing.placed_record.Goals as goal

pub returns : goal.returns
returns c =
    let s = c.args.view.now in
    let works = with_cleared c.args.clearing.now s.works ++ c.args.placed.now in
    let stored : c.view.inside.state ≡ s = c.view.view_is in
    let prior : c.in_ok-prior.prior ≡ prior_of works c.args.after.now c.args.work.now.after = search rules in
    let phase : c.first_phase-phase.result ≡ first_phase works c.in_ok-prior.prior = search rules in
    let name : c.in_ok-replica.field-0 ≡ c.args.name.now = search rules in
    let asked = c.args.work.now.request in
    let request : c.in_ok-request_of.field-0 ≡ of_record asked.id asked.keep asked = search rules in
    let finished : c.first_finished_at.result ≡ first_finished_at c.first_phase-phase.result c.view.inside.state.now = search rules in
    let moment : c.next_moment.result ≡ next_moment asked.next None = search rules in
    let output : c.empty.result ≡ [] = search rules in
    let progress : c.empty-2.result ≡ [] = search rules in
    rw (finished, moment, stored, phase, prior, name, request, output, progress) refl
