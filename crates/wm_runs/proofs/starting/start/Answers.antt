use Rattle.std.proofs.Common.{◌≡◌, ℕ, List, Option, Some, Ok, rules, refl, sym, subst, inl}
use Rattle.std.proofs.lemmas.Bool.{false≢true}
use Rattle.std.specs.Prelude.{IsSomeAnd}
use Rattle.wm_data.specs.declared.data.DataEntry.{DataEntry}
use Rattle.wm_machine.specs.declared.event.Event.{Event}
use Rattle.wm_machine.specs.declared.record.Record.{Record}
use Rattle.wm_machine.specs.declared.state.Instance.{Instance}
use Rattle.wm_machine.specs.declared.state.Run.{Run}
use Rattle.wm_machine.specs.declared.state.State.{State}
use Rattle.wm_machine.proofs.Endings.{open-waiting}
use Rattle.wm_machine.proofs.Firsts.{first_of-waiting}
use Rattle.wm_collections.proofs.Lists.{All-weaker}
use Rattle.wm_machine.proofs.Records.{IsRecord-started}
use Rattle.wm_machine.proofs.Starts.{after_start}
use Rattle.wm_machine.specs.First.{idle_instance}
use Rattle.wm_machine.specs.Input.{input_of}
use Rattle.wm_machine.specs.Runs.{run_on, started, with_start}
use Rattle.wm_machine.specs.Step.{IsStart}
use Rattle.wm_machine.specs.Valid.{IsRecord, Valid}
use Rattle.wm_machine.specs.declared.event.Event.TheVariants as event
use Rattle.wm_runs.proofs.RunLookups.{run_numbered-push}
use Rattle.wm_runs.specs.Builds.{IsClaimOf, IsClaiming, IsFirstAt}
use Rattle.wm_runs.specs.declared.starting.Claimed.TheVariants as claimed
use Rattle.wm_steps.proofs.Lookups.{All-at}
use Rattle.wm_steps.proofs.Nodes.{open_not_succeeded}
use Rattle.wm_steps.proofs.StepFits.{replacing-step}
use Rattle.wm_steps.proofs.Views.{reached-view}
use Rattle.wm_changes.specs.Replacements.{MayReplace}
use Rattle.wm_changes.specs.StepChanges.{replacing}
use Rattle.wm_changes.specs.declared.change.RunChange.TheVariants.{Begin}
use Rattle.wm_runs.proofs.starting.start.Goals as goal

-- the event by which a run of a work begins on an instance, with this input
abbrev start_event : State → Record → Instance → List DataEntry → Event
start_event s work idle input = event.Start s.next_run work.seq idle.number input

-- the run that begins is in the state after it
begun : (s : State) (work : Record) (idle : Instance) (input : List DataEntry) → Valid s
    → IsClaimOf (with_start s work idle input) (start_event s work idle input) (claimed.Run s.next_run input)
begun s work idle input valid =
    let run = run_on s work idle input in
    let below = All-weaker s.runs (λ r is. is.number) valid.runs.each in
    subst (λ (o : Option Run). IsSomeAnd o (λ r. (input ≡ r.input) × (start_event s work idle input ≡ event.Start s.next_run r.seq r.instance input)))
    (sym (run_numbered-push s.next_run s.runs run below refl)) (refl, refl)

-- the work starts on an instance
start-claims : (s : State) (i : ℕ) (work : Record) (idle : Instance) (input : List DataEntry) → Valid s → IsFirstAt s i work
    → idle_instance s.instances work.request.class ≡ Some idle → input_of s work ≡ Ok input → IsClaiming s (record {
      change = replacing i (started work) (Begin (run_on s work idle input)) (start_event s work idle input);
      claimed = claimed.Run s.next_run input;
    })
start-claims s i work idle input valid first is_idle takes =
    let run = run_on s work idle input in
    let legal : IsStart s s.next_run work.seq idle.number input = record {
      work = work;
      idle = idle;
      is_first = first.is_first;
      is_idle = is_idle;
      run_is = refl;
      seq_is = refl;
      instance_is = refl;
      input_is = takes;
    } in
    let reached = after_start s s.next_run work.seq idle.number input legal in
    let fine = IsRecord-started work (first_of-waiting s work first.is_first) (All-at IsRecord s.works i work valid.works.records first.at) in
    let unfinished = open-waiting work.phase (first_of-waiting s work first.is_first) in
    let keeps : MayReplace work (started work) = record {
      seq = refl;
      id = refl;
      name = inl refl;
      prior = refl;
      succeeded = λ is. absurd (open_not_succeeded work.phase unfinished is);
    } in
    record {
      step =
          replacing-step s (with_start s work idle input) i work started (Begin run) (start_event s work idle input) valid first.at keeps
          (λ is. absurd (false≢true is)) fine legal refl reached;
      claimed = subst (λ (t : State). IsClaimOf t (start_event s work idle input) (claimed.Run s.next_run input)) (sym reached) (begun s work idle input valid);
    }

pub returns : goal.returns
returns c =
    let s = c.args.view.now in
    let reached = reached-view _ s _ c.view.view_is c.view.invariant in
    let work = c.args.work.now in
    let idle = c.args.idle.now in
    let input = c.args.input in
    let run = run_on s work idle input in
    let claimed_is : c.in_ok-claimed.claimed ≡ claimed.Run s.next_run input = search rules in
    let change_is : c.in_ok-claimed.change ≡ replacing c.args.index (started work) (Begin run) (start_event s work idle input) = search rules in
    rw (change_is, claimed_is)
    (start-claims s c.args.index work idle input reached c.requires.first c.requires.idle c.requires.input)
