-- What is built for an event of a run: the change of its step, and what is answered.
use Rattle.std.specs.Prelude.{◌≡◌, ℕ, Bool, true, List, [], Option, Some, None, IsSomeAnd, slice_get}
use Rattle.wm_data.specs.declared.data.DataEntry.{DataEntry}
use Rattle.wm_machine.specs.Ends.{given_by}
use Rattle.wm_machine.specs.First.{first_of}
use Rattle.wm_machine.specs.Role.{HasGiven, Reported}
use Rattle.wm_machine.specs.Role as role
use Rattle.wm_machine.specs.Runs.{run_numbered}
use Rattle.wm_machine.specs.Step.{after, role_of}
use Rattle.wm_machine.specs.declared.event.End.{End}
use Rattle.wm_machine.specs.declared.event.Event.{Event}
use Rattle.wm_machine.specs.declared.event.Event.TheVariants as event
use Rattle.wm_machine.specs.declared.record.Record.{Record}
use Rattle.wm_machine.specs.declared.state.Run.{Run}
use Rattle.wm_machine.specs.declared.state.State.{State}
use Rattle.wm_runs.specs.Reports.{wants_more}
use Rattle.wm_runs.specs.declared.starting.Claimed.{Claimed}
use Rattle.wm_runs.specs.declared.starting.Claimed.TheVariants as claimed
use Rattle.wm_runs.specs.declared.starting.Claiming.{Claiming}
use Rattle.wm_changes.specs.StepChanges.{row_changes, setting, IsStepOf}
use Rattle.wm_changes.specs.declared.change.RunChange.{RunChange}
use Rattle.wm_changes.specs.declared.change.RunChange.TheVariants as runs
use Rattle.wm_changes.specs.declared.change.SettingChange.TheVariants as set
use Rattle.wm_changes.specs.declared.change.StepChange.{StepChange}
use Rattle.wm_worker.specs.Answers.{given_of}
use Rattle.wm_worker.specs.Told.{Report}
use Rattle.wm_worker.specs.declared.answer.Answer.{Answer}
use Rattle.wm_worker.specs.declared.answer.Given.{Given}
use Rattle.wm_worker.specs.declared.answer.Given.TheVariants.{More}

-- ---- a claim

-- the work that is first stands at this index
pub record IsFirstAt (s : State) (index : ℕ) (work : Record) : Type 0 where
  pub at : slice_get s.works index ≡ Some work
  pub is_first : first_of s ≡ Some work

-- what is claimed by an event, with the state after it: a run that the state has, which took this input, or that the work can't start
abbrev pub IsClaimOf : State → Event → Claimed → Type 0
IsClaimOf s e (claimed.Run number input) =
    IsSomeAnd (run_numbered number s.runs) (λ run. (input ≡ run.input) × (e ≡ event.Start number run.seq run.instance input))
IsClaimOf s e (claimed.Failed seq cause) = e ≡ event.StartFailed seq cause

-- the step of a claim
pub record IsClaiming (s : State) (claiming : Claiming) : Type 0 where
  pub step : IsStepOf s claiming.change
  pub claimed : IsClaimOf (after s claiming.change.event) claiming.change.event claiming.claimed

-- ---- the report of a worker

-- what an answer says of a run's end; nothing where its worker wants one more turn
abbrev pub IsEndOf : Answer → Option End → Type 0
IsEndOf answer (Some end) = given_of answer ≡ Some (given_by end)
IsEndOf answer None = wants_more (given_of answer) ≡ true

-- what becomes of the runs and instances where a run is over
abbrev pub over : Run → RunChange
over ended = runs.End ended.run ended.instance

-- the step by which the run of this number is over, as was told, or for want of the turn that was wanted
pub record IsFinish (s : State) (number : ℕ) (told : Report) (change : StepChange) : Type 0 where
  pub reported : Reported
  pub gave : Given
  pub told_is : given_of told.answer ≡ Some gave
  pub has_given : HasGiven reported gave
  pub ends : role_of change.event ≡ role.Ends number reported
  pub step : IsStepOf s change

-- the step by which the run of this number goes on, as was told, which changes no row
pub record IsTurning (s : State) (number : ℕ) (told : Report) (change : StepChange) : Type 0 where
  pub progress : Option (List DataEntry)
  pub told_is : given_of told.answer ≡ Some (More progress)
  pub event_is : change.event ≡ event.Turn number progress
  pub rows : row_changes change ≡ []
  pub step : IsStepOf s change
  -- the run keeps what it took
  pub input : IsSomeAnd (run_numbered number (after s change.event).runs) (λ run. told.input ≡ run.input)

-- ---- the return of a run that was stopped

-- the step by which the run of this number, which was stopped, is away: nothing is stored, placed, removed or set by it
pub record IsReturn (s : State) (number : ℕ) (change : StepChange) : Type 0 where
  pub run : Run
  pub found : run_numbered number s.runs ≡ Some run
  pub change_is : change ≡ record (setting set.Unchanged (event.Late number)) { run = runs.End number run.instance }
  pub step : IsStepOf s change
