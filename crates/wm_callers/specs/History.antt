-- Signed histories.
use Rattle.std.specs.Prelude.{◌≡◌, ℕ, List, [], ◌∷◌, ◌++◌, map}
use Rattle.std.specs.List.{AllByRecursion}
use Rattle.wm_machine.specs.declared.command.Command.{Command}
use Rattle.wm_machine.specs.declared.event.Event.{Event}
use Rattle.wm_machine.specs.declared.event.Event.TheVariants as event
use Rattle.wm_machine.specs.declared.reply.Reply.{Reply}
use Rattle.wm_callers.specs.ForDesk.{IsForDesk}
use Rattle.wm_callers.specs.declared.entry.Signed.{Signed}

-- a command with its line and its reply
pub record Asked : Type 0 where
  pub line : ℕ
  pub command : Command
  pub reply : Reply

abbrev pub asked_by : Signed → Asked
asked_by entry = record { line = entry.line; command = entry.command; reply = entry.reply }

abbrev pub asked_at : Event → List Asked
asked_at (event.Command line command reply) = record { line = line; command = command; reply = reply } ∷ []
asked_at _ = []

-- the commands of a log, in order
abbrev pub asked_in : List Event → List Asked
asked_in [] = []
asked_in (e ∷ log) = asked_at e ++ asked_in log

-- the event is one that a call of a desk makes
abbrev pub IsOfDesk : Event → Type 0
IsOfDesk (event.Command line command reply) = IsForDesk command
IsOfDesk _ = ⊥

-- the history stands for the log, which has no other events, and these are its callers
pub record Stands (callers : List ℕ) (log : List Event) (all : List Signed) : Type 0 where
  pub numbers : map (λ entry. entry.caller) all ≡ callers
  pub commands : map asked_by all ≡ asked_in log
  pub alone : AllByRecursion IsOfDesk log
