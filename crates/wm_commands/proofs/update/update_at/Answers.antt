use Rattle.std.proofs.Common.{◌≡◌, true, slice_get, rules, Some, ◌∙◌}
use Rattle.std.proofs.lemmas.Result.{IfOk-weaker}
use Rattle.wm_commands.proofs.Updating.{updated-is, updating-executed}
use Rattle.wm_commands.specs.Builds.{IsUpdating}
use Rattle.wm_settings.specs.Builds.{IsExecuted}
use Rattle.wm_machine.specs.Closed.{is_open}
use Rattle.wm_machine.specs.Updated.{is_same_kind}
use Rattle.wm_machine.specs.Valid.{IsRecord}
use Rattle.wm_machine.specs.declared.command.Command.TheVariants as command
use Rattle.wm_steps.proofs.Lookups.{All-at}
use Rattle.wm_steps.proofs.Views.{reached-view}
use Rattle.wm_commands.proofs.update.update_at.Goals as goal

pub update_of-requires : goal.update_of-requires
update_of-requires c =
    let s = c.args.view.now in
    let reached = reached-view _ s _ c.view.view_is c.view.invariant in
    let at : slice_get s.works c.args.index ≡ Some c.work_at-work.result.now = search rules in
    (All-at IsRecord s.works c.args.index c.work_at-work.result.now reached.works.records at).fits

pub returns-in_ok-request : goal.returns-in_ok-request
returns-in_ok-request c =
    let s = c.args.view.now in
    let index = c.args.index in
    let work = c.work_at-work.result.now in
    let request = c.args.request in
    let asked = command.Update request in
    let reached = reached-view _ s _ c.view.view_is c.view.invariant in
    let at : slice_get s.works index ≡ Some work = search rules in
    let unfinished : is_open work.phase ≡ true = search rules in
    let kind : is_same_kind request.period work.request.period ≡ true = search rules in
    let logged : c.in_ok-request.asked ≡ request = search rules in
    let kept : c.in_ok-request.request ≡ request = search rules in
    let outcome-is = updated-is s request work (c.requires.found ∙ at) unfinished kind in
    IfOk-weaker c.update_of.result (IsUpdating c.args.line asked index work request) (IsExecuted s c.args.line asked) (λ change is.
    updating-executed s c.args.line asked index work request change reached at c.requires.asked kind c.requires.asked outcome-is is)
    (rw (logged, kept) at c.update_of.ensures)
