-- What an event finds of a run that is out.
use Rattle.std.specs.Prelude.{◌≡◌, ℕ, false, List, Option, Some}
use Rattle.wm_replay_runs.specs.declared.finishing.Ended.{Ended}
use Rattle.wm_data.specs.declared.data.DataEntry.{DataEntry}
use Rattle.wm_machine.specs.Ends.{period_of, works_after_end}
use Rattle.wm_machine.specs.Runs.{other_runs, run_numbered, with_out}
use Rattle.wm_machine.specs.Step.{IsEnd, IsTimeout, IsTurn}
use Rattle.wm_machine.specs.declared.event.End.{End}
use Rattle.wm_machine.specs.declared.state.Run.{Run}
use Rattle.wm_machine.specs.declared.state.State.{State}

-- the run of this number is unreturned and was stopped, and it is on this instance
pub record IsAwayFrom (s : State) (number instance : ℕ) : Type 0 where
  pub run : Run
  pub is_running : run_numbered number s.runs ≡ Some run
  pub is_stopped : run.current ≡ false
  pub is_on : run.instance ≡ instance

-- the run of this number may go on and tell this, and is of the work of this number
pub record IsTurnOf (s : State) (number : ℕ) (progress : Option (List DataEntry)) (seq : ℕ) : Type 0 where
  pub legal : IsTurn s number progress
  pub of : legal.report.run.seq ≡ seq

-- a run is of this work and on this instance, and renewed where this is
pub record IsOf (run : Run) (ended : Ended) : Type 0 where
  pub seq : run.seq ≡ ended.seq
  pub instance : run.instance ≡ ended.instance
  pub renewed : run.renewed ≡ ended.renewed

-- the run of this number may end so, and is of this work and on this instance
pub record IsEndOf (s : State) (number : ℕ) (end : End) (ended : Ended) : Type 0 where
  pub legal : IsEnd s number end
  pub of : IsOf legal.run ended

-- the run of this number has no turn left, and is of this work and on this instance
pub record IsTimeoutOf (s : State) (number : ℕ) (ended : Ended) : Type 0 where
  pub legal : IsTimeout s number
  pub of : IsOf legal.report.run ended

-- the state once the run of this number is over by this end
abbrev pub over : State → ℕ → Ended → End → State
over s number ended end = record s {
  works = works_after_end ended.renewed s.now ended.seq (period_of ended.seq s.works) end s.works;
  runs = other_runs number s.runs;
  instances = with_out false ended.instance s.instances;
}
