-- What the calls of an engine answer, of what the ones below them made.
use Rattle.std.proofs.Common.{◌≡◌, ℕ, List, Option, Some, None, IsSomeAnd, sym, ◌∙◌, ap, subst}
use Rattle.wm_changes.specs.declared.change.StepChange.{StepChange}
use Rattle.wm_engine.proofs.Claims.{IsOneStep-roll}
use Rattle.wm_engine.proofs.NoLines.{silent_end}
use Rattle.wm_engine.proofs.Steps.{IsUntouched-as}
use Rattle.wm_engine.specs.Calls.{HasClaimed, HasGoneOn, IsTicketIn, IsFinished, IsOneStep, IsReturned, IsTurnAnswer, IsTurned, IsUntouched}
use Rattle.wm_engine.specs.Images.{IsNoLine}
use Rattle.wm_engine.specs.Rolls.{IsRollReturned, IsRollTurned}
use Rattle.wm_engine.specs.TableState.{TableState, TicketState}
use Rattle.wm_engine.specs.declared.engine.TurnAnswer.{TurnAnswer}
use Rattle.wm_engine.specs.declared.engine.TurnAnswer.TheVariants as turn
use Rattle.wm_keeper.specs.Store.{Store}
use Rattle.wm_machine.specs.Log.{command_in}
use Rattle.wm_machine.specs.Runs.{run_numbered}
use Rattle.wm_machine.specs.Step.{after}
use Rattle.wm_machine.specs.declared.event.Event.{Event}
use Rattle.wm_machine.specs.declared.event.Event.TheVariants as event
use Rattle.wm_machine.specs.declared.state.Run.{Run}
use Rattle.wm_machine.specs.declared.state.State.{State}
use Rattle.wm_roll.specs.Parts.{without}
use Rattle.wm_roll.specs.declared.part.Part.{Part}
use Rattle.wm_runs.specs.Builds.{IsClaiming, IsClaimOf, IsFinish, IsTurning}
use Rattle.wm_runs.specs.Reports.{CountsIn}
use Rattle.wm_runs.specs.declared.starting.Claimed.{Claimed}
use Rattle.wm_runs.specs.declared.starting.Claimed.TheVariants as claimed
use Rattle.wm_runs.specs.declared.starting.Claiming.{Claiming}
use Rattle.wm_worker.specs.Told.{Report}

-- ---- a claim

some_first : (found : Option Run) (A B : Run → Type 0) → IsSomeAnd found (λ run. A run × B run) → IsSomeAnd found A
some_first None A B is = absurd is
some_first (Some run) A B is = is.0

claimed_in : (t : State) (e : Event) (made : Claimed) → IsClaimOf t e made → HasClaimed t made
claimed_in t e (claimed.Run number input) is =
    some_first (run_numbered number t.runs) (λ run. input ≡ run.input) (λ run. e ≡ event.Start number run.seq run.instance input) is
claimed_in t e (claimed.Failed seq cause) is = tt

-- what is claimed is in the state that was made
pub has-claimed : (s t : State) (claiming : Claiming) → IsClaiming s claiming → t ≡ after s claiming.change.event → HasClaimed t claiming.claimed
has-claimed s t claiming is made =
    subst (λ (t : State). HasClaimed t claiming.claimed) (sym made) (claimed_in (after s claiming.change.event) claiming.change.event claiming.claimed is.claimed)

module _ {K : Type 0} (store : K → Store) (old new : TableState K) where
  -- ---- a run that goes on, or is over

  pub turned-made : (s : State) (number : ℕ) (told : Report) (change : StepChange) → old.state ≡ s → IsTurning s number told change
      → IsOneStep store change.event old new → new.keeper ≡ old.keeper → IsTurned store number told old new
  turned-made s number told change same is step keeper = record {
    progress = is.progress;
    told_is = is.told_is;
    step = subst (λ (e : Event). IsOneStep store e old new) is.event_is step;
    keeper = keeper;
    input = subst (λ (t : State). IsSomeAnd (run_numbered number t.runs) (λ run. told.input ≡ run.input))
        (sym (step.state ∙ ap (λ (t : State). after t change.event) same)) is.input;
  }

  pub finished-made : (s : State) (number : ℕ) (told : Report) (change : StepChange) → IsFinish s number told change
      → IsOneStep store change.event old new → IsFinished store number told old new
  finished-made s number told change is step = record {
    ending = change.event;
    reported = is.reported;
    gave = is.gave;
    told_is = is.told_is;
    has_given = is.has_given;
    ends = is.ends;
    step = step;
  }

  pub turned-refused : (s : State) (number : ℕ) (told : Report) (change : StepChange) → IsTurning s number told change
      → IsUntouched store (λ e. e ≡ change.event) old new → IsUntouched store IsNoLine old new
  turned-refused s number told change is same =
      let silent : IsNoLine change.event = ap command_in is.event_is in
      IsUntouched-as store (λ e. e ≡ change.event) IsNoLine old new (λ e its. subst IsNoLine (sym its) silent) same

  pub finished-refused : (s : State) (number : ℕ) (told : Report) (change : StepChange) → IsFinish s number told change
      → IsUntouched store (λ e. e ≡ change.event) old new → IsUntouched store IsNoLine old new
  finished-refused s number told change is same =
      let silent = silent_end s number is.reported change.event is.ends is.step.legal in
      IsUntouched-as store (λ e. e ≡ change.event) IsNoLine old new (λ e its. subst IsNoLine (sym its) silent) same

  -- the run goes on, with this on the roll
  pub gone-on : (parts : List Part) (ticket next : TicketState) (told : Report) → CountsIn old.state ticket.task.run told
      → IsTurned store ticket.task.run told old new → next.task.run ≡ ticket.task.run → IsTicketIn new.state next
      → HasGoneOn store ticket told next old (record new { roll = parts })
  gone-on parts ticket next told counts is same_run there = record {
    progress = is.progress;
    counts = counts;
    told_is = is.told_is;
    step = IsOneStep-roll store old new parts (event.Turn ticket.task.run is.progress) is.step;
    keeper = is.keeper;
    same_run = same_run;
    ticket_in = there;
  }

  -- ---- whatever stood on the roll before

  module _ (parts : List Part) where
    step_off : (e : Event) → IsOneStep store e (record old { roll = parts }) new → IsOneStep store e old new
    step_off e step = record {
      first = step.first;
      legal = step.legal;
      state = step.state;
      appended = step.appended;
      rows = step.rows;
      images = step.images;
    }

    untouched_off : (may : Event → Type 0) → IsUntouched store may (record old { roll = parts }) new → IsUntouched store may old new
    untouched_off may same = record { first = same.first; state = same.state; log = same.log; rows = same.rows; images = same.images }

    pub returned-off : (number : ℕ) → IsReturned store number (record old { roll = parts }) new → IsReturned store number old new
    returned-off number is = record { stopped = is.stopped; step = step_off (event.Late number) is.step; keeper = is.keeper }

    finished_off : (number : ℕ) (told : Report) → IsFinished store number told (record old { roll = parts }) new → IsFinished store number told old new
    finished_off number told is = record {
      ending = is.ending;
      reported = is.reported;
      gave = is.gave;
      told_is = is.told_is;
      has_given = is.has_given;
      ends = is.ends;
      step = step_off is.ending is.step;
    }

    pub turn-off : {M : Type 0} (ticket : TicketState) (told : Report) (answer : TurnAnswer M) → CountsIn old.state ticket.task.run told
        → IsTurnAnswer store ticket told answer (record old { roll = parts }) new → IsTurnAnswer store ticket told answer old new
    turn-off ticket told (turn.Go next) counts is = record {
      progress = is.progress;
      counts = is.counts;
      told_is = is.told_is;
      step = step_off (event.Turn ticket.task.run is.progress) is.step;
      keeper = is.keeper;
      same_run = is.same_run;
      ticket_in = is.ticket_in;
    }
    turn-off ticket told turn.Finished counts is =
        (record { counts = is.0.counts; finished = finished_off ticket.task.run told is.0.finished }, is.1)
    turn-off ticket told turn.TimedOut counts is =
        (record { counts = is.0.counts; finished = finished_off ticket.task.run told is.0.finished }, is.1)
    turn-off ticket told turn.Late counts is = returned-off ticket.task.run is
    turn-off ticket told (turn.Again back) counts is = absurd (is.counts_not counts)
    turn-off ticket told (turn.Refused back report why) counts is = record {
      counts = is.counts;
      same_ticket = is.same_ticket;
      same_report = is.same_report;
      untouched = untouched_off IsNoLine is.untouched;
    }

    -- and so a part that was taken is given again where the run goes on, or there was trouble
    pub roll-off : {M : Type 0} (ticket : TicketState) (told : Report) (answer : TurnAnswer M) → CountsIn old.state ticket.task.run told
        → IsTurnAnswer store ticket told answer (record old { roll = parts }) new → parts ≡ without ticket.task.run old.roll
        → IsRollReturned ticket answer parts new.roll → IsRollTurned ticket answer old.roll new.roll
    roll-off ticket told (turn.Go next) counts is taken roll = rw (← taken) roll
    roll-off ticket told turn.Finished counts is taken roll = roll ∙ taken
    roll-off ticket told turn.TimedOut counts is taken roll = roll ∙ taken
    roll-off ticket told turn.Late counts is taken roll = roll ∙ taken
    roll-off ticket told (turn.Again back) counts is taken roll = absurd (is.counts_not counts)
    roll-off ticket told (turn.Refused back report why) counts is taken roll = rw (← taken) roll
