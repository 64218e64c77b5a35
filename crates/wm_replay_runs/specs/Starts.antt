-- The run that begins at the next start, where one does.
use Rattle.std.specs.Prelude.{◌≡◌, ℕ, ◌+◌, true, List, [], ◌∷◌, ◌++◌, Ok, Some}
use Rattle.wm_data.specs.declared.data.DataEntry.{DataEntry}
use Rattle.wm_machine.specs.First.{first_of, idle_instance}
use Rattle.wm_machine.specs.Input.{input_of}
use Rattle.wm_machine.specs.Runs.{changed_work, run_on, started, with_out}
use Rattle.wm_machine.specs.Step.{IsStart}
use Rattle.wm_machine.specs.declared.record.Record.{Record}
use Rattle.wm_machine.specs.declared.state.Instance.{Instance}
use Rattle.wm_machine.specs.declared.state.Run.{Run}
use Rattle.wm_machine.specs.declared.state.State.{State}

-- no start with this input is legal
abbrev pub StartsNone : State → List DataEntry → Type 0
StartsNone s input = (run seq instance : ℕ) → IsStart s run seq instance input → ⊥

-- the run begins with this input at the next start
pub record IsStartBy (s : State) (input : List DataEntry) (run : Run) : Type 0 where
  pub work : Record
  pub idle : Instance
  pub is_first : first_of s ≡ Some work
  pub is_idle : idle_instance s.instances work.request.class ≡ Some idle
  pub input_is : input_of s work ≡ Ok input
  pub run_is : run ≡ run_on s work idle input

-- a run has this number, and is of the work and on the instance of these numbers
pub record IsNamed (begun : Run) (run seq instance : ℕ) : Type 0 where
  pub run_is : begun.run ≡ run
  pub seq_is : begun.seq ≡ seq
  pub instance_is : begun.instance ≡ instance

-- the state once a run has begun
abbrev pub begun : State → Run → State
begun s run = record s {
  works = changed_work started run.seq s.works;
  runs = s.runs ++ run ∷ [];
  instances = with_out true run.instance s.instances;
  next_run = s.next_run + 1;
}
