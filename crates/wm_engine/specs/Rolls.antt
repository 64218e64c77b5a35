-- What the calls of a table do to its roll.
use Rattle.std.specs.Prelude.{◌≡◌, List, [], ◌∷◌, ◌++◌, Option, Some, Result, Ok}
use Rattle.wm_machine.specs.declared.state.State.{State}
use Rattle.wm_roll.specs.Parts.{without}
use Rattle.wm_roll.specs.declared.part.Part.{Part}
use Rattle.wm_runs.specs.declared.starting.Claimed.{Claimed}
use Rattle.wm_runs.specs.declared.starting.Claimed.TheVariants as claimed
use Rattle.wm_engine.specs.Parts.{ticket_part, NoneOf, WasOut}
use Rattle.wm_engine.specs.TableState.{TicketState}
use Rattle.wm_engine.specs.declared.engine.Claim.{Claim}
use Rattle.wm_engine.specs.declared.engine.Claim.TheVariants as claim
use Rattle.wm_engine.specs.declared.trouble.Trouble.{Trouble}
use Rattle.wm_engine.specs.declared.engine.TurnAnswer.{TurnAnswer}
use Rattle.wm_engine.specs.declared.engine.TurnAnswer.TheVariants as turn

-- a run that was claimed is new on it
abbrev pub IsNewOn : List Part → Claimed → Type 0
IsNewOn parts (claimed.Run number input) = NoneOf number parts
IsNewOn parts (claimed.Failed seq cause) = Unit {0}

-- the roll after a claim: the part of a run that began stands at its end
abbrev pub roll_after : {M : Type 0} → List Part → Claim M → List Part
roll_after parts (claim.Run ticket) = parts ++ ticket_part ticket ∷ []
roll_after parts (claim.Failed seq cause) = parts

-- a run that was claimed stands at its end, and otherwise it is as it was
abbrev pub IsRollClaimed : {M : Type 0} → Result (Option (Claim M)) Trouble → List Part → List Part → Type 0
IsRollClaimed (Ok (Some made)) old new = new ≡ roll_after old made
IsRollClaimed _ old new = new ≡ old

-- the roll once a part was taken off it and given to it again
abbrev pub given_again : Part → List Part → List Part
given_again part parts = without part.run parts ++ part ∷ []

-- the part of a run that is over, or was stopped, is off the roll; that of one that goes on, or whose report met trouble, was taken and given again; and a report
-- that doesn't count leaves it
abbrev pub IsRollTurned : {M : Type 0} → TicketState → TurnAnswer M → List Part → List Part → Type 0
IsRollTurned ticket (turn.Go next) old new = new ≡ given_again (ticket_part ticket) old
IsRollTurned ticket turn.Finished old new = new ≡ without ticket.task.run old
IsRollTurned ticket turn.TimedOut old new = new ≡ without ticket.task.run old
IsRollTurned ticket turn.Late old new = new ≡ without ticket.task.run old
IsRollTurned ticket (turn.Again back) old new = new ≡ old
IsRollTurned ticket (turn.Refused back report why) old new = new ≡ given_again (ticket_part ticket) old

-- the same once the part was taken off it: it is given again where the run goes on, or its report met trouble
abbrev pub IsRollReturned : {M : Type 0} → TicketState → TurnAnswer M → List Part → List Part → Type 0
IsRollReturned ticket (turn.Go next) old new = new ≡ old ++ ticket_part ticket ∷ []
IsRollReturned ticket (turn.Refused back report why) old new = new ≡ old ++ ticket_part ticket ∷ []
IsRollReturned ticket _ old new = new ≡ old

-- a ticket whose report counts was out
abbrev pub WasOutWhereTaken : {M : Type 0} → State → List Part → TicketState → TurnAnswer M → Type 0
WasOutWhereTaken s roll ticket (turn.Again back) = Unit {0}
WasOutWhereTaken s roll ticket _ = WasOut s roll ticket
