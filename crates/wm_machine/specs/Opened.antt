-- The state that a store opens to. What becomes of running work is this project's own choice.
use Rattle.std.specs.Prelude.{◌≡◌, ℕ, ◌+◌, max, ◌≤◌, false, List, [], ◌∷◌, length, map}
use Rattle.std.specs.List.{AllByRecursion}
use Rattle.wm_conditions.specs.Defaults.{opening_conditions}
use Rattle.wm_keeper.specs.declared.row.Row.{Row}
use Rattle.wm_machine.specs.Replay.{Replay}
use Rattle.wm_machine.specs.Rows.{AreRowsOf}
use Rattle.wm_machine.specs.Valid.{AreNumberedInOrder, AreWorks}
use Rattle.wm_machine.specs.declared.event.Event.{Event}
use Rattle.wm_machine.specs.declared.record.Phase.{Phase}
use Rattle.wm_machine.specs.declared.record.Phase.TheVariants as phase
use Rattle.wm_machine.specs.declared.record.Record.{Record}
use Rattle.wm_machine.specs.declared.state.Instance.{Instance}
use Rattle.wm_machine.specs.declared.state.State.{State}

-- running work waits again
abbrev pub reopened_phase : Phase → Phase
reopened_phase phase.Running = phase.Waiting
reopened_phase phase.Waiting = phase.Waiting
reopened_phase (phase.Done how) = phase.Done how

abbrev pub reopened : Record → Record
reopened work = record work { phase = reopened_phase work.phase; progress = [] }

-- the greatest number plus one, 1 where there is no record
abbrev pub next_number : List Record → ℕ
next_number [] = 1
next_number (work ∷ works) = max (work.seq + 1) (next_number works)

-- the opening state of these records
abbrev pub opening_state : List Record → List Instance → State
opening_state works instances = record {
  works = works;
  conditions = opening_conditions;
  now = 0;
  runs = [];
  instances = instances;
  next = next_number works;
  next_run = 1;
  observers = [];
  hushed = false;
}

-- an instance that a run is given: neither out nor retired
pub record IsFresh (instance : Instance) : Type 0 where
  pub out : instance.out ≡ false
  pub retired : instance.retired ≡ false

-- the instances that a run is given: at most 10,000, numbered from 0
pub record AreFresh (instances : List Instance) : Type 0 where
  pub few : length instances ≤ 10000
  pub in_order : AreNumberedInOrder 0 instances
  pub all : AllByRecursion IsFresh instances

-- the state is the one that these rows open to, which are those of sound records, with these instances
pub record Opened (rows : List Row) (instances : List Instance) (first : State) : Type 0 where
  pub stored : List Record
  pub rows_are_theirs : AreRowsOf rows stored
  pub sound : AreWorks (next_number stored) stored
  pub fresh : AreFresh instances
  pub state : first ≡ opening_state (map reopened stored) instances

-- a state that a log comes to, which begins with an opened one
pub record IsOfLog (s : State) : Type 0 where
  pub rows : List Row
  pub instances : List Instance
  pub first : State
  pub log : List Event
  pub opened : Opened rows instances first
  pub replay : Replay first log s
