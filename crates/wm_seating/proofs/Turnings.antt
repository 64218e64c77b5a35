-- What one event makes of the only run of a table: it begins, goes on or ends.
use Rattle.std.proofs.Common.{◌≡◌, ◌⊎◌, ℕ, ◌+◌, ◌<◌, ◌≤◌, true, false, true≢false, cond, eqb, not, List, [], ◌∷◌, ◌++◌, length, Option, Some, None, IsSomeAnd, refl, sym, ◌∙◌, ap, subst, arith}
use Rattle.std.proofs.lemmas.Bool.{cond_both, eq-eqb}
use Rattle.std.proofs.lemmas.List.{length-map}
use Rattle.wm_data.specs.declared.data.DataEntry.{DataEntry}
use Rattle.wm_keeper.specs.Store.{Store}
use Rattle.wm_machine.proofs.Logs.{Replay-push}
use Rattle.wm_machine.proofs.Starts.{after_start}
use Rattle.wm_machine.proofs.Turns.{after_turn}
use Rattle.wm_machine.specs.Frame.{Frame}
use Rattle.wm_machine.specs.Replay.{Replay}
use Rattle.wm_machine.specs.Role as role
use Rattle.wm_machine.specs.Role.{Reported}
use Rattle.wm_machine.specs.Runs.{other_runs, run_numbered, run_on}
use Rattle.wm_machine.specs.Step.{role_of}
use Rattle.wm_machine.specs.Turns.{turned, with_turned}
use Rattle.wm_machine.specs.declared.event.Event.TheVariants as event
use Rattle.wm_machine.specs.declared.event.Event.{Event}
use Rattle.wm_machine.specs.declared.state.Run.{Run}
use Rattle.wm_machine.specs.declared.state.State.{State}
use Rattle.wm_roll.specs.Parts.{without}
use Rattle.wm_roll.specs.declared.part.Part.{Part}
use Rattle.wm_runs.proofs.RunLookups.{found-numbered, run_numbered-turned}
use Rattle.wm_runs.specs.Reports.{IsOut}
use Rattle.wm_seating.proofs.Seats.{taken_again, without-new}
use Rattle.wm_engine.proofs.NoLines.{framed_end}
use Rattle.wm_engine.specs.Parts.{ticket_part}
use Rattle.wm_engine.specs.Rolls.{given_again}
use Rattle.wm_engine.specs.Calls.{HasGoneOn, IsOneStep, IsTicketIn}
use Rattle.wm_engine.specs.TableState.{ticket_of, TableState, TicketState}
use Rattle.wm_engine.specs.declared.engine.TurnAnswer.TheVariants as turn
use Rattle.wm_engine.specs.declared.engine.TurnAnswer.{TurnAnswer}
use Rattle.wm_worker.specs.Told.{Report}

-- the log replays with its new event
pub Replay-step : {K : Type 0} (store : K → Store) (e : Event) (old new : TableState K) → Replay old.first old.log old.state
    → IsOneStep store e old new → Replay new.first new.log new.state
Replay-step store e old new replays step =
    rw (step.first, step.appended, step.state) (Replay-push old.first old.log old.state e replays step.legal)

-- an answer of the table by which a run is over
abbrev pub IsOverAnswer : {M : Type 0} → TurnAnswer M → Type 0
IsOverAnswer answer = (answer ≡ turn.Finished) ⊎ ((answer ≡ turn.TimedOut) ⊎ (answer ≡ turn.Late))

-- ---- the run of a ticket

-- the run that a ticket is of is the one that is found
pub ticket-found : (ticket : TicketState) {found : Option Run} {run : Run} → IsSomeAnd found (λ run. ticket ≡ ticket_of run) → found ≡ Some run
    → ticket ≡ ticket_of run
ticket-found ticket of_run is = subst (λ found. IsSomeAnd found (λ run. ticket ≡ ticket_of run)) is of_run

not_both : (found : Option Run) → IsSomeAnd found (λ run. run.current ≡ true) → IsSomeAnd found (λ run. run.current ≡ false) → ⊥
not_both None current stopped = absurd current
not_both (Some run) current stopped = true≢false (sym current ∙ stopped)

-- a run that is current wasn't stopped
pub not_stopped : (s : State) (number : ℕ) → IsOut s number true → IsOut s number false → ⊥
not_stopped s number current stopped = not_both (run_numbered number s.runs) current stopped

-- ---- it begins

-- the run of a ticket is current, and the only one, and its part is the only one on the roll
pub record IsOnlyRun {K : Type 0} (ticket : TicketState) (table : TableState K) : Type 0 where
  pub current : IsOut table.state ticket.task.run true
  pub few : length table.state.runs ≤ 1
  pub alone : other_runs ticket.task.run table.state.runs ≡ []
  pub alone_out : without ticket.task.run table.roll ≡ []

pub only-begun : {K : Type 0} (store : K → Store) (ticket : TicketState) (old new : TableState K) → old.state.runs ≡ [] → old.roll ≡ []
    → IsOneStep store (event.Start ticket.task.run ticket.seq ticket.instance ticket.task.input) old new
    → new.roll ≡ old.roll ++ ticket_part ticket ∷ [] → IsOnlyRun ticket new
only-begun store ticket old new no_run none_out step roll =
    let s = old.state in
    let task = ticket.task in
    let on = step.legal in
    let its_run = run_on s on.work on.idle task.input in
    let runs : new.state.runs ≡ its_run ∷ [] =
    ap (λ (t : State). t.runs) (step.state ∙ after_start s task.run ticket.seq ticket.instance task.input on)
    ∙ ap (λ (runs : List Run). runs ++ its_run ∷ []) no_run in
    record {
      current = rw (runs, eq-eqb s.next_run task.run (sym on.run_is)) refl;
      few = subst (λ (runs : List Run). length runs ≤ 1) (sym runs) (omega arith);
      alone = rw (runs, eq-eqb s.next_run task.run (sym on.run_is)) refl;
      alone_out = ap (without task.run) (roll ∙ ap (λ (roll : List Part). roll ++ ticket_part ticket ∷ []) none_out)
          ∙ without-new task.run [] (ticket_part ticket) refl tt;
    }

-- ---- it goes on

-- the others stay
others-turned : (number : ℕ) (runs : List Run) → other_runs number (with_turned number runs) ≡ other_runs number runs
others-turned number [] = refl
others-turned number (run ∷ runs) =
    cond_both (eqb run.run number) (turned run) run
    (λ now. cond (not (eqb now.run number)) (now ∷ other_runs number (with_turned number runs)) (other_runs number (with_turned number runs))
    ≡ other_runs number (run ∷ runs))
    (λ e. rw e (others-turned number runs))
    (λ e. rw e (ap (λ rest. run ∷ rest) (others-turned number runs)))

turned_runs : {K : Type 0} (store : K → Store) (number : ℕ) (progress : Option (List DataEntry)) (old new : TableState K)
    → IsOneStep store (event.Turn number progress) old new → new.state.runs ≡ with_turned number old.state.runs
turned_runs store number progress old new step =
    let its = step.legal.report in
    ap (λ (t : State). t.runs) (step.state ∙ after_turn old.state number progress step.legal)
    ∙ ap (λ n. with_turned n old.state.runs) (found-numbered number old.state.runs its.run its.is_running)

-- they are as many
pub few-turned : {K : Type 0} (store : K → Store) (number : ℕ) (progress : Option (List DataEntry)) (old new : TableState K)
    → IsOneStep store (event.Turn number progress) old new → length old.state.runs ≤ 1 → length new.state.runs ≤ 1
few-turned store number progress old new step few =
    let runs = old.state.runs in
    subst (λ n. n ≤ 1) (sym (ap length (turned_runs store number progress old new step)
    ∙ length-map runs (λ (run : Run). cond (eqb run.run number) (turned run) run))) few

module _ {K : Type 0} (store : K → Store) (ticket next : TicketState) (told : Report) (old new : TableState K)
    (on : HasGoneOn store ticket told next old new) where
  -- the run is at its next turn
  pub turned_found : run_numbered next.task.run new.state.runs ≡ Some (turned on.step.legal.report.run)
  turned_found =
      let its = on.step.legal.report in
      ap (λ n. run_numbered n new.state.runs) on.same_run
      ∙ ap (run_numbered ticket.task.run) (turned_runs store ticket.task.run on.progress old new on.step)
      ∙ run_numbered-turned ticket.task.run old.state.runs its.run its.is_running

  -- it is current, and no other run or ticket came
  pub current-turned : IsOut new.state next.task.run true
  current-turned = subst (λ (o : Option Run). IsSomeAnd o (λ run. run.current ≡ true)) (sym turned_found) on.step.legal.report.is_current

  pub alone-turned : other_runs next.task.run new.state.runs ≡ other_runs ticket.task.run old.state.runs
  alone-turned =
      ap (λ n. other_runs n new.state.runs) on.same_run
      ∙ ap (other_runs ticket.task.run) (turned_runs store ticket.task.run on.progress old new on.step)
      ∙ others-turned ticket.task.run old.state.runs

  pub alone_out-turned : new.roll ≡ given_again (ticket_part ticket) old.roll → without next.task.run new.roll ≡ without ticket.task.run old.roll
  alone_out-turned roll =
      ap (λ n. without n new.roll) on.same_run ∙ ap (without ticket.task.run) roll ∙ taken_again ticket old.roll

  -- its ticket is that of the next turn, of at most 1,000
  pub next_turn : IsTicketIn old.state ticket → (next ≡ record ticket { k = ticket.k + 1 }) × (next.k < 1000)
  next_turn ticket_in =
      let its = on.step.legal.report in
      let of_run = ticket-found ticket ticket_in its.is_running in
      let of_next = ticket-found next on.ticket_in turned_found in
      let k_is : next.k ≡ its.run.turn + 1 = ap (λ (t : TicketState). t.k) of_next in
      let below : its.run.turn < 999 = on.step.legal.turns_left in
      (of_next ∙ ap (λ (t : TicketState). record t { k = t.k + 1 }) (sym of_run), omega (arith, k_is, below))

-- ---- it ends

-- the others are left
pub runs-ended : {K : Type 0} (store : K → Store) (number : ℕ) (reported : Reported) (ending : Event) (old new : TableState K)
    → role_of ending ≡ role.Ends number reported → IsOneStep store ending old new → new.state.runs ≡ other_runs number old.state.runs
runs-ended store number reported ending old new ends step =
    let s = old.state in
    let ended = framed_end s number reported ending ends step.legal in
    ap (λ (t : State). t.runs) step.state
    ∙ ap (λ (f : Frame). f.runs) ended.frame_is
    ∙ ap (λ n. other_runs n s.runs) (found-numbered number s.runs ended.run ended.is_running)
