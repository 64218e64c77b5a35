use Rattle.std.proofs.Common.{◌≡◌, slice_get, Some, rules}
use Rattle.std.specs.Prelude.{IsSomeAnd}
use Rattle.std.proofs.lemmas.Result.{IfOk-weaker}
use Rattle.wm_commands.proofs.MemberUpdates.{member-executed}
use Rattle.wm_commands.specs.Builds.{IsUpdating}
use Rattle.wm_settings.specs.Builds.{IsExecuted}
use Rattle.wm_machine.specs.Plan.{first_of_batch}
use Rattle.wm_machine.specs.Valid.{IsRecord}
use Rattle.wm_machine.specs.declared.command.Command.TheVariants as command
use Rattle.wm_steps.proofs.Lookups.{All-at}
use Rattle.wm_steps.proofs.Views.{reached-view}
use Rattle.wm_commands.proofs.member.update_member.Goals as goal

pub update_of-requires : goal.update_of-requires
update_of-requires c =
    let s = c.args.view.now in
    let reached = reached-view _ s _ c.view.view_is c.view.invariant in
    let at : slice_get s.works c.member_index-index.result ≡ Some c.work_at-work.result.now = search rules in
    (All-at IsRecord s.works c.member_index-index.result c.work_at-work.result.now reached.works.records at).fits

pub returns : goal.returns
returns c =
    let s = c.args.view.now in
    let line = c.args.line in
    let unique = c.args.unique in
    let batch = c.args.batch in
    let asked = command.Enqueue (Some unique) batch in
    let index = c.member_index-index.result in
    let work = c.work_at-work.result.now in
    let request = c.in_ok-unique.request in
    let reached = reached-view _ s _ c.view.view_is c.view.invariant in
    let named : c.in_ok-unique.unique ≡ unique = search rules in
    let works : c.in_ok-unique.batch ≡ batch = search rules in
    let at : slice_get s.works index ≡ Some work = search rules in
    let first : IsSomeAnd (first_of_batch batch.works) (λ node. request ≡ node.request) = search rules in
    IfOk-weaker c.update_of.result (IsUpdating line asked index work request) (IsExecuted s line asked) (λ change is.
    member-executed s line unique batch c.args.number index work request change reached c.requires.asked c.requires.planned
    c.requires.fits at c.member_index-index.ensures.found is first) (rw (named, works) at c.update_of.ensures)
