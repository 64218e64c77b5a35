-- What an event makes of all but the records, by what it is to the runs.
use Rattle.std.specs.Prelude.{◌≡◌, ℕ, ◌+◌, ◌==◌, true, false, List, [], ◌∷◌, ◌++◌, map, Some, if◌then◌else◌}
use Rattle.wm_machine.specs.Diaries.{event_lines, given_lines, DiaryLine, Began}
use Rattle.wm_machine.specs.Log.{command_in}
use Rattle.wm_machine.specs.Retired.{with_retired}
use Rattle.wm_machine.specs.Role as role
use Rattle.wm_machine.specs.Role.{Reported, Role, This}
use Rattle.wm_machine.specs.Runs.{other_runs, run_numbered, with_out}
use Rattle.wm_machine.specs.Step.{after}
use Rattle.wm_machine.specs.Turns.{with_turned}
use Rattle.wm_machine.specs.declared.command.Command.{Command}
use Rattle.wm_machine.specs.declared.command.Command.TheVariants as command
use Rattle.wm_machine.specs.declared.event.Event.{Event}
use Rattle.wm_machine.specs.declared.state.Instance.{Instance}
use Rattle.wm_machine.specs.declared.state.Run.{Run}
use Rattle.wm_machine.specs.declared.state.State.{State}
use Rattle.wm_worker.specs.declared.answer.Given.{Given}

-- the commands of an event, the runs and instances after it, the number of the next run, and what it tells of the diary of each instance's
-- worker
pub record Frame : Type 0 where
  pub commands : List Command
  pub runs : List Run
  pub instances : List Instance
  pub next_run : ℕ
  pub lines : ℕ → List DiaryLine

-- the frame that ends in this state
abbrev pub frame_to : State → List Command → (ℕ → List DiaryLine) → Frame
frame_to t commands lines =
    record { commands = commands; runs = t.runs; instances = t.instances; next_run = t.next_run; lines = lines }

abbrev pub frame_of : State → Event → Frame
frame_of s e = frame_to (after s e) (command_in e) (λ worker. event_lines worker s e)

-- a frame that leaves all as it is, but for these commands
abbrev pub untouched : State → List Command → Frame
untouched s commands = frame_to s commands (λ worker. [])

-- the instances after a line: those of a class that it retires are retired, which leaves them as they are where the class isn't live
abbrev pub instances_after : Command → List Instance → List Instance
instances_after (command.Retire class) instances = with_retired class instances
instances_after _ instances = instances

-- the frame of a line that makes this of each run
abbrev pub lined_frame : State → Command → (Run → Run) → Frame
lined_frame s asked change = record (untouched s (asked ∷ [])) { runs = map change s.runs; instances = instances_after asked s.instances }

-- the frame in which this run begins, under these numbers of a run and an instance: the instance is out, and its worker writes that it began
abbrev pub begun_frame : State → ℕ → ℕ → Run → Frame
begun_frame s number instance run = record {
  commands = [];
  runs = s.runs ++ run ∷ [];
  instances = with_out true instance s.instances;
  next_run = s.next_run + 1;
  lines = λ worker. if instance == worker then Began number ∷ [] else [];
}

-- the frame in which this run goes on: it is at its next turn, and its worker writes what it gave
abbrev pub turned_frame : State → Run → Given → Frame
turned_frame s run gave = record {
  commands = [];
  runs = with_turned run.run s.runs;
  instances = s.instances;
  next_run = s.next_run;
  lines = λ worker. given_lines worker (Some run) (This gave);
}

-- the frame in which this run is over: it is away, its instance isn't out, and its worker writes what it gave
abbrev pub ended_frame : State → Run → Reported → Frame
ended_frame s run gave = record {
  commands = [];
  runs = other_runs run.run s.runs;
  instances = with_out false run.instance s.instances;
  next_run = s.next_run;
  lines = λ worker. given_lines worker (Some run) gave;
}

-- the frame in which this run, which was stopped, is away: its instance isn't out, and its worker writes nothing
abbrev pub returned_frame : State → Run → Frame
returned_frame s run = record {
  commands = [];
  runs = other_runs run.run s.runs;
  instances = with_out false run.instance s.instances;
  next_run = s.next_run;
  lines = λ worker. [];
}

-- one run is the other later, with all that it took and at the same turn: if it is current then, it was before, and if it was renewed, it is
pub record IsSameRun (one other : Run) : Type 0 where
  pub run : other.run ≡ one.run
  pub seq : other.seq ≡ one.seq
  pub attempt : other.attempt ≡ one.attempt
  pub input : other.input ≡ one.input
  pub kind : other.kind ≡ one.kind
  pub instance : other.instance ≡ one.instance
  pub constraints : other.constraints ≡ one.constraints
  pub turn : other.turn ≡ one.turn
  pub current : other.current ≡ true → one.current ≡ true
  pub renewed : one.renewed ≡ true → other.renewed ≡ true

-- a line leaves each run, but that it may not be current any more, or may be renewed
pub record IsLinedIn (asked : Command) (s : State) (frame : Frame) : Type 0 where
  pub change : Run → Run
  pub keeps : (run : Run) → IsSameRun run (change run)
  pub frame_is : frame ≡ lined_frame s asked change

pub record IsBegunIn (number instance : ℕ) (s : State) (frame : Frame) : Type 0 where
  pub run : Run
  pub number_is : number ≡ run.run
  pub is_next : number ≡ s.next_run
  pub instance_is : instance ≡ run.instance
  pub frame_is : frame ≡ begun_frame s number instance run

pub record IsTurnedIn (number : ℕ) (gave : Given) (s : State) (frame : Frame) : Type 0 where
  pub run : Run
  pub is_running : run_numbered number s.runs ≡ Some run
  pub frame_is : frame ≡ turned_frame s run gave

pub record IsEndedIn (number : ℕ) (gave : Reported) (s : State) (frame : Frame) : Type 0 where
  pub run : Run
  pub is_running : run_numbered number s.runs ≡ Some run
  pub frame_is : frame ≡ ended_frame s run gave

pub record IsReturnedIn (number : ℕ) (s : State) (frame : Frame) : Type 0 where
  pub run : Run
  pub is_running : run_numbered number s.runs ≡ Some run
  pub is_stopped : run.current ≡ false
  pub frame_is : frame ≡ returned_frame s run

-- what an event of this role makes of a state
abbrev pub IsFramed : Role → State → Frame → Type 0
IsFramed (role.Line asked) s frame = IsLinedIn asked s frame
IsFramed (role.Begins run instance) s frame = IsBegunIn run instance s frame
IsFramed role.Refuses s frame = frame ≡ untouched s []
IsFramed (role.GoesOn run gave) s frame = IsTurnedIn run gave s frame
IsFramed (role.Ends run gave) s frame = IsEndedIn run gave s frame
IsFramed (role.Returns run) s frame = IsReturnedIn run s frame
