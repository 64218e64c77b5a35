-- What a table keeps.
use Rattle.std.specs.Prelude.{◌≡◌, ◌+◌, ◌≤◌, List, length, Vec, vec_capacity}
use Rattle.std.specs.declared.alloc.Global.{Global}
use Rattle.wm_engine.specs.Inputs.{Inputs}
use Rattle.wm_machine.specs.Opened.{Opened}
use Rattle.wm_machine.specs.Replay.{Replay}
use Rattle.wm_machine.specs.declared.event.Event.{Event}
use Rattle.wm_machine.specs.declared.state.Run.{Run}
use Rattle.wm_machine.specs.declared.state.State.{State}
use Rattle.wm_observe.specs.Notes.{last_notes}
use Rattle.wm_observe.specs.declared.note.Note.{Note}

-- a log has room for an event more of each of these runs
abbrev pub HasRoom : Vec Event Global → List Run → Type 0
HasRoom log runs = length log.items + length runs ≤ vec_capacity log

-- of what the run was given: the first state is the one that its rows open to, the log replays from there to the state now, and the notes are those
-- of its last event; there is room in the log for the return of each run, so that it takes no memory
pub record TableInvariant (run : Inputs) (first state : State) (notes : List Note) (log : Vec Event Global) : Type 0 where
  pub opened : Opened run.rows run.instances first
  pub replay : Replay first log.items state
  pub notes_are : notes ≡ last_notes first log.items
  pub few_runs : state.next_run ≤ length log.items + 1
  pub room : HasRoom log state.runs
