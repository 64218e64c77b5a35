-- What a crash may leave in the store of a session.
use Rattle.std.specs.Prelude.{◌≡◌, ◌⊎◌, List, [], ◌∷◌, ◌++◌, Option, Some}
use Rattle.wm_keeper.specs.Store.{Store}
use Rattle.wm_keeper.specs.declared.row.Row.{Row}
use Rattle.wm_machine.specs.Log.{commands_of, AreNumberedFrom, HasPrefix}
use Rattle.wm_machine.specs.Rows.{rows_of}
use Rattle.wm_machine.specs.declared.command.Command.{Command}
use Rattle.wm_machine.specs.declared.event.Event.{Event}
use Rattle.wm_machine.specs.declared.state.State.{State}
use Rattle.wm_session.specs.declared.book.Stop.{Stop}
use Rattle.wm_session.specs.declared.book.Stop.TheVariants as stop
use Rattle.wm_ended.specs.declared.status.Status.{Status}
use Rattle.wm_ended.specs.declared.status.Status.TheVariants as status
use Rattle.wm_steps.specs.Stored.{LeavesOnly}
use Rattle.wm_engine.specs.Images.{WouldLeave}

-- an event that may come next over these lines, after this log: it is no line, or the next one
pub record MayComeNext (lines : List Command) (log : List Event) (e : Event) : Type 0 where
  pub front : HasPrefix lines (commands_of (log ++ e ∷ []))
  pub numbered : AreNumberedFrom 1 (log ++ e ∷ [])

-- a crash leaves the rows of the state, or those of the state after the event that was being committed
abbrev pub LeavesOneMore : List Command → State → List Event → Store → Type 0
LeavesOneMore lines s log store = (image : List Row) → store.images image → (image ≡ rows_of s) ⊎ WouldLeave (MayComeNext lines log) s image

-- what a crash leaves of a session that stopped for this: an event was being committed only where the keeper failed or memory was refused
abbrev pub StopImages : Option Stop → List Command → State → List Event → Store → Type 0
StopImages (Some stop.KeeperFault) lines s log store = LeavesOneMore lines s log store
StopImages (Some stop.Memory) lines s log store = LeavesOneMore lines s log store
StopImages _ lines s log store = LeavesOnly (rows_of s) store

-- and of one that ended so
abbrev pub EndImages : Status → List Command → State → List Event → Store → Type 0
EndImages status.KeeperFault lines s log store = LeavesOneMore lines s log store
EndImages status.Memory lines s log store = LeavesOneMore lines s log store
EndImages _ lines s log store = LeavesOnly (rows_of s) store
