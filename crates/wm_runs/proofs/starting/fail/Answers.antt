use Rattle.std.proofs.Common.{◌≡◌, Some, rules, refl, subst}
use Rattle.std.specs.List.{AllByRecursion}
use Rattle.wm_collections.proofs.Lists.{All-of_one}
use Rattle.wm_machine.proofs.Endings.{not_started_by, open-waiting, same_period}
use Rattle.wm_machine.proofs.Firsts.{first_of-stored, first_of-waiting}
use Rattle.wm_machine.proofs.StartFailures.{after_start_failed, not_started_in}
use Rattle.wm_machine.specs.Ends.{not_started, period_of}
use Rattle.wm_machine.specs.First.{first_of}
use Rattle.wm_machine.specs.Runs.{start_refusal}
use Rattle.wm_machine.specs.Step.{IsStartFailure}
use Rattle.wm_machine.specs.Valid.{Valid}
use Rattle.wm_machine.specs.declared.event.Cause.{Cause}
use Rattle.wm_machine.specs.declared.record.Record.{Record}
use Rattle.wm_machine.specs.declared.state.State.{State}
use Rattle.wm_machine.specs.declared.event.Event.TheVariants as event
use Rattle.wm_runs.proofs.Freeing.{no_start-freeing}
use Rattle.wm_runs.proofs.Reaching.{change-keeps, no_start-agree, not_started-same}
use Rattle.wm_runs.specs.Builds.{IsClaiming}
use Rattle.wm_runs.specs.Reached.{change_by, not_started_reach, replaced_by_no_start}
use Rattle.wm_runs.specs.declared.starting.Claimed.TheVariants as claimed
use Rattle.wm_steps.proofs.ManyRows.{after_change, replacing_all-step}
use Rattle.wm_steps.proofs.Nodes.{node-stored}
use Rattle.wm_steps.proofs.Views.{reached-view}
use Rattle.wm_changes.specs.Nodes.{nodes_of}
use Rattle.wm_changes.specs.StepChanges.{replacing_all}
use Rattle.wm_changes.specs.declared.change.RunChange.TheVariants.{Unchanged}
use Rattle.wm_runs.proofs.starting.fail.Goals as goal

-- the work can't start, for this cause
failure-claims : (s : State) (work : Record) (cause : Cause) → Valid s → first_of s ≡ Some work → start_refusal s work ≡ Some cause
    → IsClaiming s (record {
      change = replacing_all (replaced_by_no_start s work) Unchanged (event.StartFailed work.seq cause);
      claimed = claimed.Failed work.seq cause;
    })
failure-claims s work cause valid first refused =
    let legal : IsStartFailure s work.seq cause = record { work = work; is_first = first; refused = refused; seq_is = refl } in
    let stored = first_of-stored s work first in
    let itself = not_started s.now work in
    let to = not_started_reach work.request.period s.now work.seq (nodes_of s.works) in
    let touch = change_by itself to in
    let period : work.request.period ≡ period_of work.seq s.works = All-of_one _ s.works work (same_period work.seq s.works valid.works.in_order) stored refl in
    let unfinished = open-waiting work.phase (first_of-waiting s work first) in
    let same = not_started-same work.request.period s.now work in
    let agree = no_start-agree work.request.period s.now work s.works valid.works.in_order stored unfinished in
    let keeps = change-keeps itself work to s.works valid.works.in_order stored unfinished same in
    record {
      step =
          replacing_all-step s s touch (not_started_in s work) Unchanged (event.StartFailed work.seq cause) valid legal keeps
          (subst (λ kind. AllByRecursion (λ w. after_change touch w ≡ not_started_by s.now work.seq kind s.works w) s.works) period agree) refl
          (after_start_failed s work.seq cause legal) (no_start-freeing s work Unchanged (event.StartFailed work.seq cause) keeps);
      claimed = refl;
    }

pub replaced_by_no_start-requires : goal.replaced_by_no_start-requires
replaced_by_no_start-requires c =
    let s = c.args.view.now in
    let work = c.args.work.now in
    node-stored work s.works (first_of-stored s work c.requires.first)

pub returns : goal.returns
returns c =
    let s = c.args.view.now in
    let reached = reached-view _ s _ c.view.view_is c.view.invariant in
    let work = c.args.work.now in
    let cause = c.args.cause in
    let cause_is : c.in_ok-cause-2.cause ≡ cause = search rules in
    let change_is : c.replacing_all-change.result ≡ replacing_all (replaced_by_no_start s work) Unchanged (event.StartFailed work.seq cause) = search rules in
    rw (change_is, cause_is)
    (failure-claims s work cause reached c.requires.first c.requires.refused)
