-- The log of a serial run: after each line all that is startable is started and driven to its end, until there is nothing left to do;
-- where there is no line, or the first one settles, that is done once before.
use Rattle.std.specs.Prelude.{◌≡◌, Bool, true, false, List, [], ◌∷◌, ◌++◌}
use Rattle.wm_machine.specs.Log.{commands_of}
use Rattle.wm_machine.specs.Quiet.{IsQuiet}
use Rattle.wm_machine.specs.Replay.{Replay}
use Rattle.wm_machine.specs.Role as role
use Rattle.wm_machine.specs.Role.{Role}
use Rattle.wm_machine.specs.Step.{after, role_of}
use Rattle.wm_machine.specs.declared.command.Command.{Command}
use Rattle.wm_machine.specs.declared.command.Command.TheVariants as command
use Rattle.wm_machine.specs.declared.event.Event.{Event}
use Rattle.wm_machine.specs.declared.event.Event.TheVariants as event
use Rattle.wm_machine.specs.declared.state.State.{State}

-- An event comes in its turn: a line only where there is nothing left to do, a start only where no run is unreturned. All else
-- goes on with the one run that there is.
abbrev pub IsTurnOf : Role → State → Type 0
IsTurnOf (role.Line asked) s = IsQuiet s
IsTurnOf (role.Begins run instance) s = s.runs ≡ []
IsTurnOf role.Refuses s = s.runs ≡ []
IsTurnOf _ s = Unit {0}

abbrev pub IsInTurn : State → Event → Type 0
IsInTurn s e = IsTurnOf (role_of e) s

abbrev pub AreInTurn : State → List Event → Type 0
AreInTurn s [] = Unit {0}
AreInTurn s (e ∷ log) = IsInTurn s e × AreInTurn (after s e) log

-- whether all that is startable is driven to its end before the first line: there is none, or it settles
abbrev pub drains_first : List Command → Bool
drains_first [] = true
drains_first (command.Settle ∷ lines) = true
drains_first (_ ∷ lines) = false

-- the first event is a line, which comes at once, whatever is startable, and every later one comes in its turn
abbrev pub BeginsByLine : State → List Event → Type 0
BeginsByLine first [] = Unit {0}
BeginsByLine first (event.Command line command reply ∷ log) = AreInTurn (after first (event.Command line command reply)) log
BeginsByLine first (_ ∷ log) = ⊥

-- the events come in their turn, from the first on or from the first line on
abbrev pub AreInOrderBy : Bool → State → List Event → Type 0
AreInOrderBy true first log = AreInTurn first log
AreInOrderBy false first log = BeginsByLine first log

abbrev pub AreInOrder : List Command → State → List Event → Type 0
AreInOrder lines first log = AreInOrderBy (drains_first lines) first log

-- runs may start: what is startable is driven first, or the first line was executed
abbrev pub MayGoOn : List Command → List Event → Type 0
MayGoOn lines [] = drains_first lines ≡ true
MayGoOn lines (e ∷ log) = Unit {0}

-- the log of a whole serial run over these lines
pub record IsSerial (lines : List Command) (first : State) (log : List Event) (last : State) : Type 0 where
  pub replay : Replay first log last
  pub commands : commands_of log ≡ lines
  pub in_order : AreInOrder lines first log
  pub quiet : IsQuiet last

-- a front of the log of a whole serial run
pub record BeginsSerial (lines : List Command) (first : State) (log : List Event) : Type 0 where
  pub rest : List Event
  pub last : State
  pub whole : IsSerial lines first (log ++ rest) last
