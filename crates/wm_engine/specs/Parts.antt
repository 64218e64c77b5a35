-- Which parts stand on the roll of a table: those of its runs that are out.
use Rattle.std.specs.Prelude.{◌≡◌, ◌≢◌, ◌⊎◌, ℕ, ◌+◌, List, length, IsSomeAnd}
use Rattle.std.specs.List.{AllByRecursion}
use Rattle.wm_collections.specs.Lists.{HasOne}
use Rattle.wm_machine.specs.Role as role
use Rattle.wm_machine.specs.Role.{Role}
use Rattle.wm_machine.specs.Runs.{run_numbered}
use Rattle.wm_machine.specs.declared.state.Run.{Run}
use Rattle.wm_machine.specs.declared.state.State.{State}
use Rattle.wm_roll.specs.Parts.{without, IsListed}
use Rattle.wm_roll.specs.declared.part.Part.{Part}
use Rattle.wm_engine.specs.TableState.{TicketState}

-- ---- parts

-- the part of a run
abbrev pub part_of : Run → Part
part_of run = record { run = run.run; instance = run.instance; kind = run.kind }

-- the part of a ticket's run
abbrev pub ticket_part : TicketState → Part
ticket_part ticket = record { run = ticket.task.run; instance = ticket.instance; kind = ticket.kind }

-- none of these is of the run of this number
abbrev pub NoneOf : ℕ → List Part → Type 0
NoneOf number parts = AllByRecursion (λ part. part.run ≢ number) parts

-- ---- the roll of a state

-- each part is that of one of these runs
abbrev pub AreOut : List Run → List Part → Type 0
AreOut runs parts = AllByRecursion (λ part. HasOne (λ run. part_of run ≡ part) runs) parts

-- the run of an event by which one is away isn't on the roll
abbrev pub IsOffRoll : Role → List Part → Type 0
IsOffRoll (role.Ends number reported) parts = NoneOf number parts
IsOffRoll (role.Returns number) parts = NoneOf number parts
IsOffRoll _ parts = Unit {0}

-- the ticket's run stands in the state, on the ticket's instance and of its kind
abbrev pub Stands : State → TicketState → Type 0
Stands s ticket = IsSomeAnd (run_numbered ticket.task.run s.runs) (λ run. (run.instance ≡ ticket.instance) × (run.kind ≡ ticket.kind))

-- a part is this one, or of another run, on another instance
abbrev pub IsItOrApart : Part → Part → Type 0
IsItOrApart it part = (part ≡ it) ⊎ ((part.run ≢ it.run) × (part.instance ≢ it.instance))

-- the ticket was out: its part stood on the roll, once, and alone of its run and its instance, and its run stands in the state
pub record WasOut (s : State) (roll : List Part) (ticket : TicketState) : Type 0 where
  pub listed : IsListed roll (ticket_part ticket)
  pub once : length (without ticket.task.run roll) + 1 ≡ length roll
  pub alone : AllByRecursion (IsItOrApart (ticket_part ticket)) roll
  pub stands : Stands s ticket
