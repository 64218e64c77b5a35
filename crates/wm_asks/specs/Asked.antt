-- What an ask comes to in a state: a command, or an answer without one. After `androidx.work.testing.TestDriver`; that refusals name what is
-- wrong, in this order, is this project's own.
use Rattle.std.specs.Prelude.{◌≡◌, ℕ, Bool, List, [], ◌∷◌, max, min, nat_lt, if◌then◌else◌, Option, Some, None, is_some, is_none, Result, Ok, Err}
use Rattle.wm_asks.specs.Clocks.{last_moment}
use Rattle.wm_asks.specs.Meet.{meet}
use Rattle.wm_asks.specs.declared.ask.Ask.{Ask}
use Rattle.wm_asks.specs.declared.ask.Ask.TheVariants as ask
use Rattle.wm_asks.specs.declared.ask.LiveRefusal.{LiveRefusal}
use Rattle.wm_asks.specs.declared.ask.LiveRefusal.TheVariants.{NoSuchWork, KindMismatch, NotWaiting, NeverDue}
use Rattle.wm_asks.specs.declared.ask.LiveReply.{LiveReply}
use Rattle.wm_asks.specs.declared.ask.LiveReply.TheVariants as answer
use Rattle.wm_machine.specs.Cancelled.{work_with_id}
use Rattle.wm_machine.specs.Due.{due_of}
use Rattle.wm_machine.specs.Shown.{shown_of}
use Rattle.wm_machine.specs.declared.command.Command.{Command}
use Rattle.wm_machine.specs.declared.command.Command.TheVariants as command
use Rattle.wm_machine.specs.declared.record.Record.{Record}
use Rattle.wm_machine.specs.declared.record.Shown.{Shown}
use Rattle.wm_machine.specs.declared.record.Shown.TheVariants as shown
use Rattle.wm_machine.specs.declared.state.State.{State}
use Rattle.wm_steps.specs.Wakes.{IsWakeOf}

-- ---- that something of a work be met

-- this, where the work is of the kind that the ask is for
abbrev pub where_fits : List ℕ → Bool → Result Command LiveRefusal → Result Command LiveRefusal
where_fits id fits come = if fits then come else Err (KindMismatch id)

-- this, where the work shows that it is enqueued
abbrev pub where_enqueued : List ℕ → Shown → Result Command LiveRefusal → Result Command LiveRefusal
where_enqueued id shown.Enqueued come = come
where_enqueued id state come = Err (NotWaiting id state)

-- the moment at which a work is due, or the present one, where that is later
abbrev pub due_met : List ℕ → ℕ → ℕ → Result Command LiveRefusal
due_met id now due = if nat_lt last_moment due then Err (NeverDue id due) else Ok (command.Moment (max now due))

abbrev pub delay_met : State → List ℕ → Option Record → Result Command LiveRefusal
delay_met s id None = Err (NoSuchWork id)
delay_met s id (Some work) =
    where_fits id (is_none work.request.period) (where_enqueued id (shown_of s.works work) (due_met id s.now (due_of work)))

abbrev pub period_met : State → List ℕ → Option Record → Result Command LiveRefusal
period_met s id None = Err (NoSuchWork id)
period_met s id (Some work) =
    where_fits id (is_some work.request.period) (where_enqueued id (shown_of s.works work) (due_met id s.now (due_of work)))

abbrev pub constraints_met : State → List ℕ → Option Record → Result Command LiveRefusal
constraints_met s id None = Err (NoSuchWork id)
constraints_met s id (Some work) =
    where_enqueued id (shown_of s.works work) (Ok (command.Conditions (meet work.request.constraints s.conditions)))

-- ---- asks

abbrev pub or_refused : Result Command LiveRefusal → Result Command LiveReply
or_refused (Ok asked) = Ok asked
or_refused (Err refusal) = Err (answer.Refused refusal)

-- the moment that a clock tells, cut off at the greatest one, where it is above the present one
abbrev pub ticked : ℕ → ℕ → Result Command LiveReply
ticked now told = if nat_lt now (min told last_moment) then Ok (command.Moment (min told last_moment)) else Err answer.Ticked

-- an ask comes to this in a state, where the clock gave these answers to it
abbrev pub ComesTo : State → Ask → List ℕ → Result Command LiveReply → Type 0
ComesTo s (ask.Line asked) told come = (told ≡ []) × (come ≡ Ok asked)
ComesTo s (ask.DelayMet id) told come = (told ≡ []) × (come ≡ or_refused (delay_met s id (work_with_id s.works id)))
ComesTo s (ask.PeriodMet id) told come = (told ≡ []) × (come ≡ or_refused (period_met s id (work_with_id s.works id)))
ComesTo s (ask.ConstraintsMet id) told come = (told ≡ []) × (come ≡ or_refused (constraints_met s id (work_with_id s.works id)))
ComesTo s ask.Tick told come = (moment : ℕ) × ((told ≡ moment ∷ []) × (come ≡ ticked s.now moment))
ComesTo s ask.Wake told come = (told ≡ []) × ((wake : Option ℕ) × (IsWakeOf s wake × (come ≡ Err (answer.Wake wake))))
