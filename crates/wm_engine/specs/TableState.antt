-- What a contract sees of a table and of a ticket.
use Rattle.std.specs.Prelude.{List}
use Rattle.wm_machine.specs.declared.event.Event.{Event}
use Rattle.wm_machine.specs.declared.state.Run.{Run}
use Rattle.wm_machine.specs.declared.state.State.{State}
use Rattle.wm_roll.specs.declared.part.Part.{Part}
use Rattle.wm_runs.specs.Reports.{task_in}
use Rattle.wm_engine.specs.declared.ticket.Held.{Held}

-- the first state, the state now, the log of the events between them, the keeper of the rows, and the parts that stand on the roll
pub record TableState (K : Type 0) : Type 0 where
  pub first : State
  pub state : State
  pub log : List Event
  pub keeper : K
  pub roll : List Part

-- the work, and what its run took and where it stands
abbrev pub TicketState : Type 0
TicketState = Held

-- the ticket of a run, which holds what the run keeps
abbrev pub ticket_of : Run → TicketState
ticket_of run = record { seq = run.seq; task = task_in run; kind = run.kind; instance = run.instance; k = run.turn }
