-- A command for the desk may be asked in every state.
use Rattle.std.proofs.Common.{subst}
use Rattle.wm_machine.proofs.Owed.{MayBeAsked}
use Rattle.wm_machine.specs.declared.command.Command.{Command}
use Rattle.wm_machine.specs.declared.state.State.{State}
use Rattle.wm_callers.specs.ForDesk.{IsForDesk}

pub may_be : (s : State) (asked : Command) → IsForDesk asked → MayBeAsked s asked
may_be s asked fits = record { settled = λ is. absurd (subst IsForDesk is fits) }
