-- The steps of the machine: which events are legal in a state, the state after them, and what they are to the runs.
-- Each row is a rule of the machine, whose file says where it comes from.
use Rattle.std.specs.Prelude.{◌≡◌, ℕ, ◌<◌, true, false, List, Option, Some, None, Ok, IsSomeAnd}
use Rattle.wm_data.specs.declared.data.DataEntry.{DataEntry}
use Rattle.wm_machine.specs.Outcome.{IsAskable, outcome}
use Rattle.wm_machine.specs.Ends.{end_of, given_by, returned_of, with_start_failed}
use Rattle.wm_machine.specs.First.{first_of, idle_instance}
use Rattle.wm_machine.specs.Input.{input_of}
use Rattle.wm_machine.specs.Replied.{Outcome}
use Rattle.wm_machine.specs.Role as role
use Rattle.wm_machine.specs.Role.{Role, This, SomeMore}
use Rattle.wm_machine.specs.Runs.{run_numbered, start_on, start_refusal}
use Rattle.wm_machine.specs.Turns.{turn_of}
use Rattle.wm_machine.specs.declared.command.Command.{Command}
use Rattle.wm_machine.specs.declared.event.Cause.{Cause}
use Rattle.wm_machine.specs.declared.event.End.{End}
use Rattle.wm_machine.specs.declared.event.End.TheVariants.{Retry}
use Rattle.wm_machine.specs.declared.event.Event.{Event}
use Rattle.wm_machine.specs.declared.event.Event.TheVariants as event
use Rattle.wm_machine.specs.declared.record.Record.{Record}
use Rattle.wm_machine.specs.declared.reply.Reply.{Reply}
use Rattle.wm_machine.specs.declared.state.Instance.{Instance}
use Rattle.wm_machine.specs.declared.state.Run.{Run}
use Rattle.wm_machine.specs.declared.state.State.{State}
use Rattle.wm_worker.specs.Answers.{MayGive}
use Rattle.wm_worker.specs.declared.answer.Given.{Given}
use Rattle.wm_worker.specs.declared.answer.Given.TheVariants.{More}

-- ---- commands

-- the reply is the one to the command in this state
abbrev pub Answers : State → Command → Reply → Type 0
Answers s asked answer = IsSomeAnd (outcome s asked) (λ outcome. answer ≡ outcome.reply)

abbrev pub state_by : State → Option Outcome → State
state_by s None = s
state_by s (Some outcome) = outcome.state

-- the state after a command
abbrev pub after_command : State → Command → State
after_command s asked = state_by s (outcome s asked)

-- ---- runs

-- the next run, of the work that is first, with its input, on the idle instance of its class with the least number
pub record IsStart (s : State) (run seq instance : ℕ) (input : List DataEntry) : Type 0 where
  pub work : Record
  pub idle : Instance
  pub is_first : first_of s ≡ Some work
  pub is_idle : idle_instance s.instances work.request.class ≡ Some idle
  pub run_is : run ≡ s.next_run
  pub seq_is : seq ≡ work.seq
  pub instance_is : instance ≡ idle.number
  pub input_is : input_of s work ≡ Ok input

-- the work that is first can't start, for this cause
pub record IsStartFailure (s : State) (seq : ℕ) (cause : Cause) : Type 0 where
  pub work : Record
  pub is_first : first_of s ≡ Some work
  pub refused : start_refusal s work ≡ Some cause
  pub seq_is : seq ≡ work.seq

-- the run of this number is current, and a worker of its kind may give this, with its input in its attempt and turn
pub record IsReport (s : State) (number : ℕ) (gave : Given) : Type 0 where
  pub run : Run
  pub is_running : run_numbered number s.runs ≡ Some run
  pub is_current : run.current ≡ true
  pub may_give : MayGive run.kind run.input run.attempt run.turn gave

-- its worker wants one more turn, and it has one: a run has 1,000 turns
pub record IsTurn (s : State) (number : ℕ) (progress : Option (List DataEntry)) : Type 0 where
  pub report : IsReport s number (More progress)
  pub turns_left : report.run.turn < 999

-- its worker wants one more turn after the last
pub record IsTimeout (s : State) (number : ℕ) : Type 0 where
  pub progress : Option (List DataEntry)
  pub report : IsReport s number (More progress)
  pub none_left : report.run.turn ≡ 999

-- its worker ends it so
abbrev pub IsEnd : State → ℕ → End → Type 0
IsEnd s number end = IsReport s number (given_by end)

-- the run of this number is unreturned, and was stopped
pub record IsLate (s : State) (number : ℕ) : Type 0 where
  pub run : Run
  pub is_running : run_numbered number s.runs ≡ Some run
  pub is_stopped : run.current ≡ false

-- the work that is first starts on the idle instance of its class, with this input
abbrev pub start_of : State → Option Record → List DataEntry → State
start_of s None input = s
start_of s (Some work) input = start_on s work (idle_instance s.instances work.request.class) input

-- ---- events

-- the event may happen in this state
abbrev pub Legal : State → Event → Type 0
Legal s (event.Command line asked answer) = IsAskable asked × Answers s asked answer
Legal s (event.Start run seq instance input) = IsStart s run seq instance input
Legal s (event.StartFailed seq cause) = IsStartFailure s seq cause
Legal s (event.Turn run progress) = IsTurn s run progress
Legal s (event.Finish run end) = IsEnd s run end
Legal s (event.TimedOut run) = IsTimeout s run
Legal s (event.Late run) = IsLate s run

-- the state that it gives
abbrev pub after : State → Event → State
after s (event.Command line asked answer) = after_command s asked
after s (event.Start run seq instance input) = start_of s (first_of s) input
after s (event.StartFailed seq cause) = with_start_failed s seq
after s (event.Turn run progress) = turn_of s (run_numbered run s.runs) progress
after s (event.Finish run end) = end_of s (run_numbered run s.runs) end
after s (event.TimedOut run) = end_of s (run_numbered run s.runs) Retry
after s (event.Late run) = returned_of s (run_numbered run s.runs)

-- what it is to the runs
abbrev pub role_of : Event → Role
role_of (event.Command line asked answer) = role.Line asked
role_of (event.Start run seq instance input) = role.Begins run instance
role_of (event.StartFailed seq cause) = role.Refuses
role_of (event.Turn run progress) = role.GoesOn run (More progress)
role_of (event.Finish run end) = role.Ends run (This (given_by end))
role_of (event.TimedOut run) = role.Ends run SomeMore
role_of (event.Late run) = role.Returns run

-- one step of the machine
abbrev pub Step : State → Event → State → Type 0
Step s e t = Legal s e × (t ≡ after s e)
