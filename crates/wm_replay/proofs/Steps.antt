-- What the contracts of the single steps say together.
use Rattle.std.proofs.Common.{◌≡◌, ◌↔◌, ℕ, ◌+◌, ◌≤◌, Bool, true, false, cond, Option, Some, None, Result, Ok, Err, refl, sym, ap, subst, arith}
use Rattle.std.specs.Prelude.{IfOk, IsSomeAnd, IsTrue}
use Rattle.wm_machine.proofs.Steps.{framed, Valid-after}
use Rattle.wm_machine.specs.Frame.{Frame}
use Rattle.wm_machine.specs.Outcome.{outcome, IsAskable}
use Rattle.wm_machine.specs.Replied.{Outcome}
use Rattle.wm_machine.specs.Step.{after, state_by, Legal, Step}
use Rattle.wm_machine.specs.Valid.{Valid}
use Rattle.wm_machine.specs.declared.command.Command.{Command}
use Rattle.wm_machine.specs.declared.event.Event.{Event}
use Rattle.wm_machine.specs.declared.event.Event.TheVariants as event
use Rattle.wm_machine.specs.declared.reply.Reply.{Reply}
use Rattle.wm_machine.specs.declared.state.State.{State}
use Rattle.wm_replay.specs.Stepped.{GoesOn, IsCommandStep, IsExecuted, IsStepped}

-- ---- an event of a run

-- where it is legal the state is the one after it
pub then_after : (s now : State) (e : Event) (legal : Bool) → now ≡ cond legal (after s e) s → IsTrue legal → now ≡ after s e
then_after s now e true is so = is
then_after s now e false is so = absurd (cc)

-- of an event that leaves the state as it was where it isn't legal
pub stepped : {E : Type 0} (s now : State) (e : Event) (r : Result Bool E) → IfOk r (λ legal. IsTrue legal ↔ Legal s e)
    → IfOk r (λ legal. now ≡ cond legal (after s e) s) → IfOk r (λ legal. IsStepped s e legal now)
stepped s now e (Ok legal) legal_is state_is = record { legal_is = legal_is; state_is = then_after s now e legal state_is }
stepped s now e (Err refused) legal_is state_is = tt

-- ---- a command

-- its event with its reply is a step
executed-step : (s now : State) (line : ℕ) (asked : Command) (answer : Reply) → IsAskable asked
    → outcome s asked ≡ Some (record { reply = answer; state = now }) → Step s (event.Command line asked answer) now
executed-step s now line asked answer askable is =
    ((askable, subst (λ (o : Option Outcome). IsSomeAnd o (λ outcome. answer ≡ outcome.reply)) (sym is) refl), sym (ap (state_by s) is))

pub command-step : (s now : State) (line : ℕ) (asked : Command) (found : Option Reply) → IsAskable asked → IsExecuted s asked found now
    → IsCommandStep s line asked found now
command-step s now line asked None askable is = λ answer legal.
    subst (λ (o : Option Outcome). IsSomeAnd o (λ outcome. answer ≡ outcome.reply)) is.0 legal.1
command-step s now line asked (Some answer) askable is = executed-step s now line asked answer askable is

-- ---- what comes after a step

-- at most one run begins
next-legal : (s : State) (e : Event) → Legal s e → (after s e).next_run ≤ s.next_run + 1
next-legal s (event.Command line asked answer) legal =
    let next = ap (λ (f : Frame). f.next_run) (framed s (event.Command line asked answer) legal).frame_is in omega (arith, next)
next-legal s (event.Start run seq instance input) legal =
    let next = ap (λ (f : Frame). f.next_run) (framed s (event.Start run seq instance input) legal).frame_is in omega (arith, next)
next-legal s (event.StartFailed seq cause) legal = omega arith
next-legal s (event.Turn run progress) legal =
    let next = ap (λ (f : Frame). f.next_run) (framed s (event.Turn run progress) legal).frame_is in omega (arith, next)
next-legal s (event.Finish run end) legal =
    let next = ap (λ (f : Frame). f.next_run) (framed s (event.Finish run end) legal).frame_is in omega (arith, next)
next-legal s (event.TimedOut run) legal =
    let next = ap (λ (f : Frame). f.next_run) (framed s (event.TimedOut run) legal).frame_is in omega (arith, next)
next-legal s (event.Late run) legal =
    let next = ap (λ (f : Frame). f.next_run) (framed s (event.Late run) legal).frame_is in omega (arith, next)

-- a step that is made leaves a state for the next one
goes-after : (s now : State) (e : Event) → Valid s → Step s e now → GoesOn s now
goes-after s now e valid step =
    subst (λ (t : State). GoesOn s t) (sym step.1) (record { valid = Valid-after s e valid step.0; runs = next-legal s e step.0 })

pub goes-on : (s now : State) (e : Event) (legal : Bool) → Valid s → IsStepped s e legal now → IsTrue legal → GoesOn s now
goes-on s now e legal valid made so = goes-after s now e valid (made.legal_is.0 so, made.state_is so)

pub executed-goes-on : (s now : State) (asked : Command) (found : Option Reply) → Valid s → IsAskable asked → IsExecuted s asked found now → GoesOn s now
executed-goes-on s now asked None valid askable is =
    subst (λ (t : State). GoesOn s t) (sym is.1) (record { valid = valid; runs = omega arith })
executed-goes-on s now asked (Some answer) valid askable is =
    let step = executed-step s now 0 asked answer askable is in
    goes-after s now (event.Command 0 asked answer) valid step
