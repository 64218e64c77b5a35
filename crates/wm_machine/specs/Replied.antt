-- The form of a command's outcome.
use Rattle.wm_machine.specs.declared.reply.Reply.{Reply}
use Rattle.wm_machine.specs.declared.state.State.{State}

-- the reply, and the state after the command
pub record Outcome : Type 0 where
  pub reply : Reply
  pub state : State

-- a reply that changes nothing
abbrev pub unchanged : State → Reply → Outcome
unchanged s answer = record { reply = answer; state = s }
