use Rattle.std.proofs.Common.{◌≡◌, ℕ, false, Option, Some, refl, sym, ◌∙◌, ap, subst, arith, rules, inl}
use Rattle.std.specs.Prelude.{IsSomeAnd}
use Rattle.wm_machine.specs.Ends.{returned_of}
use Rattle.wm_machine.specs.Runs.{other_runs, run_numbered, with_out}
use Rattle.wm_machine.specs.Valid.{Valid}
use Rattle.wm_machine.specs.declared.event.Event.TheVariants as event
use Rattle.wm_machine.specs.declared.state.Run.{Run}
use Rattle.wm_machine.specs.declared.state.State.{State}
use Rattle.wm_runs.proofs.RunLookups.{found-numbered}
use Rattle.wm_steps.proofs.StepFits.{unplaced}
use Rattle.wm_steps.proofs.Views.{reached-view}
use Rattle.wm_changes.specs.StepChanges.{setting, IsStepOf}
use Rattle.wm_changes.specs.declared.change.RunChange.TheVariants.{End}
use Rattle.wm_changes.specs.declared.change.SettingChange.TheVariants as set
use Rattle.wm_changes.specs.declared.change.StepChange.{StepChange}
use Rattle.wm_runs.proofs.returning.returned.Goals as goal

-- the change by which such a run is away
abbrev returning : ℕ → Run → StepChange
returning number run = record (setting set.Unchanged (event.Late number)) { run = End number run.instance }

return-step : (s : State) (number : ℕ) (run : Run) → Valid s → run_numbered number s.runs ≡ Some run → run.current ≡ false
    → IsStepOf s (returning number run)
return-step s number run valid found stopped =
    let gone : State = record s { runs = other_runs number s.runs; instances = with_out false run.instance s.instances } in
    let named : run.run ≡ number = found-numbered number s.runs run found in
    record {
      fits = record {
        told = tt;
        replaced = tt;
        removed = tt;
        placed = tt;
        named = tt;
        numbers = omega (arith, valid.works.fits);
        replaced_rows = tt;
        placed_rows = tt;
        apart = tt;
        alone = inl refl;
      };
      legal = record { run = run; is_running = found; is_stopped = stopped };
      state =
          unplaced gone s.works s.works refl ∙ ap (λ n. record s { runs = other_runs n s.runs; instances = with_out false run.instance s.instances }) (sym named)
          ∙ sym (ap (returned_of s) found);
      freeing = tt;
    }

pub returns : goal.returns
returns c =
    let s = c.args.view.now in
    let number = c.args.number in
    let reached = reached-view _ s _ c.view.view_is c.view.invariant in
    let run = c.in-Some.run'.now in
    let found : run_numbered number s.runs ≡ Some run = search rules in
    let stopped = subst (λ (found : Option Run). IsSomeAnd found (λ run. run.current ≡ false)) found c.requires in
    let made : c.setting-change.result ≡ setting set.Unchanged (event.Late number) = search rules in
    let with_run = λ (change : StepChange). record change { run = End number run.instance } in
    record {
      run = run;
      found = found;
      change_is = ap with_run made;
      step = subst (λ change. IsStepOf s (with_run change)) (sym made) (return-step s number run reached found stopped);
    }
