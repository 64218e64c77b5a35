-- Records of works that wait, and commands, to be tested on.
use Rattle.std.specs.Prelude.{◌≡◌, ℕ, ◌≤◌, List, [], length, None, IfSome}
use Rattle.std.specs.Int.{to_be_bytes, w128}
use Rattle.std.specs.List.{AllByRecursion}
use Rattle.wm_collections.specs.Lists.{AllLater}
use Rattle.wm_machine.specs.Opened.{opening_state}
use Rattle.wm_machine.specs.Outcome.{IsLegalLine}
use Rattle.wm_machine.specs.Valid.{IsBefore, IsRecord}
use Rattle.wm_machine.specs.declared.command.Command.{Command}
use Rattle.wm_machine.specs.declared.record.Phase.{Phase}
use Rattle.wm_machine.specs.declared.record.Phase.TheVariants as phase
use Rattle.wm_machine.specs.declared.record.Record.{Record}
use Rattle.wm_machine.specs.declared.state.State.{State}
use Rattle.wm_request.specs.Requests.{IsRequest, IsShortText}
use Rattle.wm_request.specs.declared.request.NextRun.TheVariants.{Leave}

-- a record in its first attempt, in this phase and after these; of its number, its name and its request nothing is said
pub record IsPlain (own : Phase) (before : List ℕ) (work : Record) : Type 0 where
  pub phase_is : work.phase ≡ own
  pub prior : work.prior ≡ before
  pub attempt : work.attempt ≡ 1
  pub backoff_n : work.backoff_n ≡ 0
  pub runs : work.runs ≡ 0
  pub generation : work.generation ≡ 0
  pub enqueued_at : work.enqueued_at ≡ 0
  pub override_at : work.override_at ≡ None
  pub finished_at : work.finished_at ≡ 0
  pub output : work.output ≡ []
  pub progress : work.progress ≡ []

-- one that waits, after none: it has this number, which is its id too, and no name unless it is the first
pub record IsNumbered (seq : ℕ) (work : Record) : Type 0 where
  pub number : work.seq ≡ seq
  pub name : 2 ≤ seq → work.name ≡ None
  pub short : IfSome work.name IsShortText
  pub request : IsRequest work.request
  pub leaves : work.request.next ≡ Leave
  pub id : work.request.id ≡ to_be_bytes w128 seq
  pub plain : IsPlain phase.Waiting [] work

-- the record of a work that waits, after none, and has its number as its id
pub record IsWaiting (work : Record) : Type 0 where
  pub within : IsRecord work
  pub id : work.request.id ≡ to_be_bytes w128 work.seq
  pub waits : work.phase ≡ phase.Waiting
  pub after_none : work.prior ≡ []

-- such works, in order, none of a number above how many there are
pub record AreWaiting (works : List Record) : Type 0 where
  pub numbers : AllByRecursion (λ work. work.seq ≤ length works) works
  pub each : AllByRecursion IsWaiting works
  pub in_order : AllLater IsBefore works

-- a state of these works, as one opens to them, but with this as the number of the next new work
abbrev pub waiting_state : List Record → ℕ → State
waiting_state works number = record (opening_state works []) { next = number }

-- a command that is legal in every state
abbrev pub ComesAnywhere : Command → Type 0
ComesAnywhere asked = (s : State) → IsLegalLine s asked
