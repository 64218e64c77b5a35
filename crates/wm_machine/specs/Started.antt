-- What each start of a log had: its prerequisites had succeeded, and it took what they gave. After the guide's pages "Work states" and
-- "Chaining work".
use Rattle.std.specs.Prelude.{◌≡◌, ℕ, List, Ok}
use Rattle.std.specs.List.{AllByRecursion}
use Rattle.wm_data.specs.declared.data.DataEntry.{DataEntry}
use Rattle.wm_machine.specs.Input.{input_of}
use Rattle.wm_machine.specs.Replay.{Replay}
use Rattle.wm_collections.specs.Lists.{HasOne}
use Rattle.wm_machine.specs.Valid.{HasSucceeded}
use Rattle.wm_machine.specs.declared.event.Event.{Event}
use Rattle.wm_machine.specs.declared.record.Record.{Record}
use Rattle.wm_machine.specs.declared.state.State.{State}

-- A start after this front of a log: in the state that the front leads to, each prerequisite of its work has succeeded, and its input is what
-- the work takes there, one-time work what its merger makes of its own input and of their outputs in the order named.
pub record HadItsPrerequisites (first : State) (before : List Event) (seq : ℕ) (input : List DataEntry) : Type 0 where
  pub s : State
  pub work : Record
  pub replay : Replay first before s
  pub stored : HasOne (λ other. other ≡ work) s.works
  pub seq_is : seq ≡ work.seq
  pub succeeded : AllByRecursion (λ number. HasOne (HasSucceeded number) s.works) work.prior
  pub input_is : input_of s work ≡ Ok input
