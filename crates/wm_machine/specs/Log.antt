-- What a log of events tells of the script.
use Rattle.std.specs.Prelude.{◌≡◌, ℕ, ◌+◌, List, [], ◌∷◌, ◌++◌}
use Rattle.wm_machine.specs.declared.command.Command.{Command}
use Rattle.wm_machine.specs.declared.event.Event.{Event}
use Rattle.wm_machine.specs.declared.event.Event.TheVariants as event

-- the command of an event, where it has one
abbrev pub command_in : Event → List Command
command_in (event.Command line asked reply) = asked ∷ []
command_in _ = []

-- the commands of a log, in order
abbrev pub commands_of : List Event → List Command
commands_of [] = []
commands_of (e ∷ log) = command_in e ++ commands_of log

-- the lines of the commands count up by one, the first of them is this one
abbrev pub AreNumberedFrom : ℕ → List Event → Type 0
AreNumberedFrom line [] = Unit {0}
AreNumberedFrom line (event.Command number asked reply ∷ log) = (number ≡ line) × AreNumberedFrom (line + 1) log
AreNumberedFrom line (_ ∷ log) = AreNumberedFrom line log

-- the whole begins with the front
abbrev pub HasPrefix : {T : Type 0} → List T → List T → Type 0
HasPrefix {T} whole front = (rest : List T) × (whole ≡ front ++ rest)
