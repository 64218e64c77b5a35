-- What a desk may be asked.
use Rattle.wm_machine.specs.declared.command.Command.{Command}
use Rattle.wm_machine.specs.declared.command.Command.TheVariants as command

-- a command that every state answers, and that adds no observer
abbrev pub IsForDesk : Command → Type 0
IsForDesk command.Settle = ⊥
IsForDesk (command.Observe query) = ⊥
IsForDesk _ = Unit {0}
