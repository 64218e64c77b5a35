use Rattle.std.proofs.Common.{◌≡◌, ℕ, ◌<◌, true, ltb, List, Option, Some, None, rules, refl, sym, ◌∙◌, ap, subst}
use Rattle.std.specs.Prelude.{IsSomeAnd}
use Rattle.std.proofs.lemmas.Bool.{and_parts, ltb-true}
use Rattle.std.proofs.lemmas.Result.{IfOk-weaker}
use Rattle.wm_data.specs.declared.data.DataEntry.{DataEntry}
use Rattle.wm_machine.specs.declared.record.Record.{Record}
use Rattle.wm_machine.specs.declared.state.Run.{Run}
use Rattle.wm_machine.specs.declared.state.State.{State}
use Rattle.wm_machine.proofs.Turns.{after_turn}
use Rattle.wm_machine.specs.Rows.{row_of}
use Rattle.wm_machine.specs.Runs.{changed_work, run_numbered}
use Rattle.wm_machine.specs.Step.{IsTurn}
use Rattle.wm_machine.specs.Turns.{telling, turned, with_turned}
use Rattle.wm_machine.specs.declared.event.Event.TheVariants as event
use Rattle.wm_runs.proofs.Reporting.{counted, may-give}
use Rattle.wm_runs.proofs.RunLookups.{found-numbered, run_numbered-turned}
use Rattle.wm_runs.specs.Builds.{IsTurning}
use Rattle.wm_runs.specs.Reports.{goes_on, wants_more, CountsIn, IsFoundRun}
use Rattle.wm_steps.proofs.StepFits.{keeping_row-step}
use Rattle.wm_changes.specs.StepChanges.{keeping_row}
use Rattle.wm_changes.specs.declared.change.RunChange.TheVariants.{Turn}
use Rattle.wm_worker.specs.Answers.{given_of}
use Rattle.wm_worker.specs.Told.{IsAllowed, Report}
use Rattle.wm_worker.specs.declared.answer.Given.TheVariants.{More}
use Rattle.wm_runs.proofs.turning.next_turn.Goals as goal

-- progress isn't stored
row-telling : (progress : Option (List DataEntry)) (work : Record) → row_of (telling progress work) ≡ row_of work
row-telling None work = refl
row-telling (Some progress) work = refl

-- the run is found at its next turn
found-turned : (number : ℕ) (runs : List Run) (run : Run) → run_numbered number runs ≡ Some run
    → run_numbered number (with_turned run.run runs) ≡ Some (turned run)
found-turned number runs run found =
    ap (λ n. run_numbered number (with_turned n runs)) (found-numbered number runs run found) ∙ run_numbered-turned number runs run found

-- the run goes on
turn-step : (s : State) (number i : ℕ) (told : Report) (run : Run) (work : Record) (progress : Option (List DataEntry))
    → CountsIn s number told → IsAllowed told → goes_on told ≡ true → IsFoundRun s number i run work → given_of told.answer ≡ Some (More progress)
    → IsTurning s number told (keeping_row i (telling progress work) (Turn run.run) (event.Turn number progress))
turn-step s number i told run work progress counts allowed goes is told_is =
    let found = is.found in
    let counts_here = counted s number told run counts found in
    let left : told.k < 999 = ltb-true told.k 999 (and_parts (ltb told.k 999) (wants_more (given_of told.answer)) goes).0 in
    let legal : IsTurn s number progress = record {
      report = record {
        run = run;
        is_running = found;
        is_current = is.current;
        may_give = may-give run told (More progress) counts_here allowed told_is;
      };
      turns_left = subst (λ k. k < 999) counts_here.about.same_turn left;
    } in
    let gone : State = record s { runs = with_turned run.run s.runs } in
    let change = telling progress in
    let then = after_turn s number progress legal in
    record {
      progress = progress;
      told_is = told_is;
      event_is = refl;
      rows = refl;
      step =
          keeping_row-step s gone i work change (Turn run.run) (event.Turn number progress) is.valid is.at (row-telling progress work) legal refl
          (then ∙ ap (λ n. record gone { works = changed_work change n s.works }) (sym is.of.seq));
      input =
          subst (λ (found : Option Run). IsSomeAnd found (λ r. told.input ≡ r.input))
          (sym (ap (λ (t : State). run_numbered number t.runs) then ∙ found-turned number s.runs run found)) counts_here.about.same_input;
    }

pub returns : goal.returns
returns c =
    let s = c.args.view.now in
    let number = c.args.number in
    let told = c.args.told.now in
    let found = c.found_run-index.ensures in
    let run = c.found_run-index.result.run.now in
    let index = c.found_run-index.result.index in
    let work = c.found_run-index.result.work.now in
    let progress = c.progress_in.result.now in
    let allowed : IsAllowed told = c.answer.ensures.allowed in
    let told_is : given_of told.answer ≡ Some (More progress) = search rules in
    let built = keeping_row index c.in_ok-progress-2.changed (Turn run.run) (event.Turn number c.in_ok-progress-2.progress) in
    let built_is : built ≡ keeping_row index (telling progress work) (Turn run.run) (event.Turn number progress) = search rules in
    IfOk-weaker c.keeping_row.result (λ change. change ≡ built) (IsTurning s number told) (λ change same.
    subst (IsTurning s number told) (sym (same ∙ built_is))
    (turn-step s number index told run work progress c.requires.counts allowed c.requires.goes_on found told_is)) c.keeping_row.ensures
