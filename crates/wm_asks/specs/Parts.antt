-- The part of a log that an ask makes, from one quiet state to the next: a command with its reply, where the ask comes to one, and then a drain.
use Rattle.std.specs.Prelude.{◌≡◌, ◌≤◌, ℕ, true, List, ◌∷◌, ◌++◌, IfSome, Result, Ok, Err}
use Rattle.wm_asks.specs.Drains.{IsDrain, IsStartOf}
use Rattle.wm_asks.specs.declared.ask.Ask.{Ask}
use Rattle.wm_asks.specs.declared.ask.Ask.TheVariants as ask
use Rattle.wm_asks.specs.declared.ask.LiveReply.{LiveReply}
use Rattle.wm_asks.specs.declared.ask.LiveReply.TheVariants as answer
use Rattle.wm_collections.specs.Lists.{HasOne}
use Rattle.wm_conditions.specs.Met.{met}
use Rattle.wm_machine.specs.Cancelled.{work_with_id}
use Rattle.wm_machine.specs.Due.{due_of}
use Rattle.wm_machine.specs.Step.{after, Legal}
use Rattle.wm_machine.specs.declared.command.Command.{Command}
use Rattle.wm_machine.specs.declared.event.Event.{Event}
use Rattle.wm_machine.specs.declared.event.Event.TheVariants as event
use Rattle.wm_machine.specs.declared.reply.Reply.{Reply}
use Rattle.wm_machine.specs.declared.state.State.{State}

-- the command of this line with its reply, and then a drain
pub record IsCommandPart (s : State) (line : ℕ) (asked : Command) (reply : Reply) (events : List Event) (last : State) : Type 0 where
  pub drain : List Event
  pub events_are : events ≡ event.Command line asked reply ∷ drain
  pub legal : Legal s (event.Command line asked reply)
  pub drained : IsDrain (after s (event.Command line asked reply)) drain last

-- the part of an ask of this line that comes to this, and its answer: Did with the command's reply, or what was answered without one
abbrev pub IsPart : State → ℕ → Result Command LiveReply → LiveReply → List Event → State → Type 0
IsPart s line (Ok asked) (answer.Did reply) events last = IsCommandPart s line asked reply events last
IsPart s line (Ok asked) _ events last = ⊥
IsPart s line (Err told) given events last = (given ≡ told) × IsDrain s events last

-- a front of such a part
pub record BeginsPart (s : State) (line : ℕ) (come : Result Command LiveReply) (events : List Event) : Type 0 where
  pub given : LiveReply
  pub rest : List Event
  pub last : State
  pub whole : IsPart s line come given (events ++ rest) last

-- ---- what was met starts

-- where the delay or the period of a work was met whose constraints are met, or the constraints of a work that is due, these events start it,
-- or show that it can't start
abbrev pub StartsWhatIsMet : State → Ask → LiveReply → List Event → Type 0
StartsWhatIsMet s (ask.DelayMet id) (answer.Did reply) events =
    IfSome (work_with_id s.works id) (λ work. met work.request.constraints s.conditions ≡ true → HasOne (IsStartOf work.seq) events)
StartsWhatIsMet s (ask.PeriodMet id) (answer.Did reply) events =
    IfSome (work_with_id s.works id) (λ work. met work.request.constraints s.conditions ≡ true → HasOne (IsStartOf work.seq) events)
StartsWhatIsMet s (ask.ConstraintsMet id) (answer.Did reply) events =
    IfSome (work_with_id s.works id) (λ work. due_of work ≤ s.now → HasOne (IsStartOf work.seq) events)
StartsWhatIsMet s asked given events = Unit {0}
