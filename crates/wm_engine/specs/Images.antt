-- What a crash may leave in the store of a table.
use Rattle.std.specs.Prelude.{◌≡◌, ℕ, List, []}
use Rattle.wm_keeper.specs.declared.row.Row.{Row}
use Rattle.wm_machine.specs.Log.{command_in}
use Rattle.wm_machine.specs.Opened.{Opened}
use Rattle.wm_machine.specs.Rows.{rows_of}
use Rattle.wm_machine.specs.Step.{Legal, after}
use Rattle.wm_machine.specs.declared.command.Command.{Command}
use Rattle.wm_machine.specs.declared.event.Event.{Event}
use Rattle.wm_machine.specs.declared.event.Event.TheVariants as event
use Rattle.wm_machine.specs.declared.reply.Reply.{Reply}
use Rattle.wm_machine.specs.declared.state.Instance.{Instance}
use Rattle.wm_machine.specs.declared.state.State.{State}

-- the rows of the state after an event of these, which is a step from this state
pub record WouldLeave (may_be : Event → Type 0) (s : State) (image : List Row) : Type 0 where
  pub e : Event
  pub is : may_be e
  pub legal : Legal s e
  pub rows : image ≡ rows_of (after s e)

-- the rows of the state that these rows open to; they open to it themselves
pub record WouldOpen (rows : List Row) (instances : List Instance) (image : List Row) : Type 0 where
  pub first : State
  pub opened : Opened rows instances first
  pub left : image ≡ rows_of first
  pub again : Opened image instances first

-- an event that is no line
abbrev pub IsNoLine : Event → Type 0
IsNoLine e = command_in e ≡ []

-- the event of a line that asks this
pub record IsLine (line : ℕ) (asked : Command) (e : Event) : Type 0 where
  pub reply : Reply
  pub event_is : e ≡ event.Command line asked reply
