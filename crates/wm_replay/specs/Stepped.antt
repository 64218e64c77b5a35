-- What the slow step makes of a command, and of an event of a run.
use Rattle.std.specs.Prelude.{◌≡◌, ◌↔◌, ◌+◌, ◌≤◌, ℕ, Bool, Option, Some, None, IsTrue}
use Rattle.wm_machine.specs.Outcome.{outcome}
use Rattle.wm_machine.specs.Step.{after, Legal, Step}
use Rattle.wm_machine.specs.Valid.{Valid}
use Rattle.wm_machine.specs.declared.command.Command.{Command}
use Rattle.wm_machine.specs.declared.event.Event.{Event}
use Rattle.wm_machine.specs.declared.event.Event.TheVariants as event
use Rattle.wm_machine.specs.declared.reply.Reply.{Reply}
use Rattle.wm_machine.specs.declared.state.State.{State}

-- ---- a command

-- this reply and this state are the outcome of a command, or there is neither reply nor outcome, and the state is as it was
abbrev pub IsExecuted : State → Command → Option Reply → State → Type 0
IsExecuted s asked None now = (outcome s asked ≡ None) × (now ≡ s)
IsExecuted s asked (Some answer) now = outcome s asked ≡ Some (record { reply = answer; state = now })

-- its event with this reply is a step to this state, or with any reply it isn't legal
abbrev pub IsCommandStep : State → ℕ → Command → Option Reply → State → Type 0
IsCommandStep s line asked None now = (answer : Reply) → Legal s (event.Command line asked answer) → ⊥
IsCommandStep s line asked (Some answer) now = Step s (event.Command line asked answer) now

-- ---- an event of a run

-- an event is one of a run
abbrev pub IsOfRun : Event → Type 0
IsOfRun (event.Command line asked answer) = ⊥
IsOfRun _ = Unit {0}

-- an event is legal just where this says so, and then the state is the one after it
pub record IsStepped (s : State) (e : Event) (legal : Bool) (now : State) : Type 0 where
  pub legal_is : IsTrue legal ↔ Legal s e
  pub state_is : IsTrue legal → now ≡ after s e

-- ---- the next step

-- a state from which further steps can be asked: it is valid, and at most one run has begun
pub record GoesOn (s now : State) : Type 0 where
  pub valid : Valid now
  pub runs : now.next_run ≤ s.next_run + 1
