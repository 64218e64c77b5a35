-- The return of a run that was stopped is one step of the machine, of which nobody is told, and of which the keeper learns nothing.
use Rattle.std.proofs.Common.{◌≡◌, ℕ, ◌+◌, List, [], ◌∷◌, ◌++◌, map, Option, refl, sym, ◌∙◌, ap, subst}
use Rattle.wm_collections.proofs.Lists.{All-any, filter-none, list_any-false}
use Rattle.wm_keeper.specs.Store.{Store}
use Rattle.wm_machine.specs.Ends.{returned_of}
use Rattle.wm_machine.specs.Rows.{rows_of}
use Rattle.wm_machine.specs.Step.{after, Legal}
use Rattle.wm_machine.specs.Valid.{Valid}
use Rattle.wm_machine.specs.declared.event.Event.{Event}
use Rattle.wm_machine.specs.declared.event.Event.TheVariants as event
use Rattle.wm_machine.specs.declared.record.Record.{Record}
use Rattle.wm_machine.specs.declared.state.Run.{Run}
use Rattle.wm_machine.specs.declared.state.State.{State}
use Rattle.wm_machine.specs.declared.state.WorkQuery.{WorkQuery}
use Rattle.wm_observe.proofs.ComparedPairs.{compared-told}
use Rattle.wm_observe.specs.Compared.{compared_pairs, may_differ, pair_at}
use Rattle.wm_changes.specs.Touched.{touches}
use Rattle.wm_observe.specs.Notes.{notes, notes_between, notes_from}
use Rattle.wm_runs.specs.Builds.{IsReturn}
use Rattle.wm_changes.specs.StepChanges.{changed_state, letting_go, setting, IsLettingGo}
use Rattle.wm_changes.specs.declared.change.RunChange.{RunChange}
use Rattle.wm_changes.specs.declared.change.RunChange.TheVariants as runs
use Rattle.wm_changes.specs.declared.change.SettingChange.TheVariants as set
use Rattle.wm_changes.specs.declared.change.StepChange.{StepChange}
use Rattle.wm_engine.specs.Returns.{IsReturnMade}
use Rattle.wm_engine.specs.Rows.{HoldsRowsOf}
use Rattle.wm_engine.specs.Calls.{IsOneStep}
use Rattle.wm_engine.specs.Engine.{beside}
use Rattle.wm_engine.specs.EngineState.{EngineState}
use Rattle.wm_engine.specs.TableState.{TableState}

-- ---- nobody is told

-- where nothing is told of any work, no observer has a note
told-none : (number : ℕ) (queries : List WorkQuery) → notes_from number queries [] ≡ []
told-none number [] = refl
told-none number (query ∷ queries) = told-none (number + 1) queries

-- where only runs change, nothing is told of a work
runs-compared : (s : State) (e : Event) (run : RunChange) → compared_pairs (record (setting set.Unchanged e) { run = run }) s ≡ []
runs-compared s e run =
    let change : StepChange = record (setting set.Unchanged e) { run = run } in
    let none = All-any s.works (λ work. list_any-false (touches change) work.prior (All-any work.prior (λ number. refl))) in
    ap (λ (works : List Record). map (pair_at change s.works (changed_state change s).works) works ++ []) (filter-none (may_differ change) s.works none)

-- of a return nobody is told
pub return-told : (number : ℕ) (s t : State) → Valid s → IsReturnMade number s t → [] ≡ notes_between s t
return-told number s t valid made =
    let pairs : compared_pairs made.change s ≡ [] =
    ap (λ (c : StepChange). compared_pairs c s) made.is.change_is ∙ runs-compared s (event.Late number) (runs.End number made.is.run.instance) in
    sym (told-none 1 s.observers) ∙ ap (notes s.observers) (sym pairs) ∙ compared-told s made.change valid made.is.step.fits
    ∙ ap (notes_between s) (sym made.state)

-- ---- one step

-- it only lets the run go
pub return-away : (s : State) (number : ℕ) (change : StepChange) → IsReturn s number change → IsLettingGo change
return-away s number change is = record {
  number = number;
  instance = is.run.instance;
  is = is.change_is ∙ ap (letting_go number is.run.instance) (sym (ap (λ (c : StepChange). c.event) is.change_is));
}

pub return-step : {K : Type 0} (store : K → Store) (number : ℕ) (old new : TableState K) → IsReturnMade number old.state new.state
    → new.first ≡ old.first → new.log ≡ old.log ++ event.Late number ∷ [] → new.keeper ≡ old.keeper → HoldsRowsOf old.state (store old.keeper)
    → IsOneStep store (event.Late number) old new
return-step store number old new made first_is log_is keeper_is rows =
    let e : made.change.event ≡ event.Late number = ap (λ (c : StepChange). c.event) made.is.change_is in
    let state_is : new.state ≡ after old.state (event.Late number) = made.state ∙ made.is.step.state ∙ ap (after old.state) e in
    let same : rows_of new.state ≡ rows_of old.state =
    ap rows_of state_is ∙ ap (λ (found : Option Run). rows_of (returned_of old.state found)) made.is.found in
    record {
      first = first_is;
      legal = subst (Legal old.state) e made.is.step.legal;
      state = state_is;
      appended = log_is;
      rows = rw (keeper_is, same) rows;
      images = λ only. rw (keeper_is, same) only;
    }

-- beside any first state
pub returned-made : {K : Type 0} (store : K → Store) (number : ℕ) (first : State) (old new : EngineState K) (before events : List Event)
    → IsReturnMade number old.state new.state → events ≡ before ++ event.Late number ∷ [] → new.keeper ≡ old.keeper → HoldsRowsOf old.state (store old.keeper)
    → IsOneStep store (event.Late number) (beside first old before) (beside first new events)
returned-made store number first old new before events made events_are keeper_is rows =
    return-step store number (beside first old before) (beside first new events) made refl events_are keeper_is rows
