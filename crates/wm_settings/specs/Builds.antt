-- What is built for a command: the change of its step, whose event has the command and its reply.
use Rattle.std.specs.Prelude.{◌≡◌, ◌⊎◌, ℕ, [], Some}
use Rattle.wm_machine.specs.Outcome.{IsAskable, outcome}
use Rattle.wm_machine.specs.Replied.{Outcome}
use Rattle.wm_machine.specs.Rows.{rows_of}
use Rattle.wm_machine.specs.Step.{after_command}
use Rattle.wm_machine.specs.declared.command.Command.{Command}
use Rattle.wm_machine.specs.declared.event.Event.TheVariants as event
use Rattle.wm_machine.specs.declared.reply.Reply.{Reply}
use Rattle.wm_machine.specs.declared.state.State.{State}
use Rattle.wm_changes.specs.StepChanges.{row_changes, set_by, IsStepOf}
use Rattle.wm_changes.specs.declared.change.SettingChange.{SettingChange}
use Rattle.wm_changes.specs.declared.change.StepChange.{StepChange}

-- the rows after the command are those before it, as with a query, a faulty line or an enqueue that is refused
abbrev pub ChangesNoRow : State → Command → Type 0
ChangesNoRow s asked = rows_of (after_command s asked) ≡ rows_of s

-- and where they are others, as with an enqueue that isn't
abbrev pub ChangesRows : State → Command → Type 0
ChangesRows s asked = ChangesNoRow s asked → ⊥

-- an askable command, which has this outcome
pub record HasOutcome (s : State) (asked : Command) (out : Outcome) : Type 0 where
  pub askable : IsAskable asked
  pub is : outcome s asked ≡ Some out

-- the step of a command, whose event has its reply
pub record IsExecuted (s : State) (line : ℕ) (asked : Command) (change : StepChange) : Type 0 where
  pub reply : Reply
  pub event : change.event ≡ event.Command line asked reply
  pub step : IsStepOf s change
  pub rows : ChangesRows s asked ⊎ (row_changes change ≡ [])

-- a reply to a command by which something is set in the state, or nothing
abbrev pub setting_outcome : Reply → SettingChange → State → Outcome
setting_outcome answer to s = record { reply = answer; state = set_by to s }
