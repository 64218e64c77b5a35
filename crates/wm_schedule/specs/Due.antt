-- When a work is due. After the guide's page "Define work requests" (delayed work, retry and backoff, periodic work with its flex
-- interval); the exact moments, and that a wait has an upper end, are this project's own choice.
use Rattle.std.specs.Prelude.{ℕ, ◌+◌, ◌-◌, ◌*◌, ◌^◌, ◌==◌, min, nat_lt, if◌then◌else◌, Option, Some, None, unwrap_or}
use Rattle.wm_schedule.specs.declared.schedule.Backoff.{Backoff}
use Rattle.wm_schedule.specs.declared.schedule.BackoffPolicy.{BackoffPolicy}
use Rattle.wm_schedule.specs.declared.schedule.BackoffPolicy.TheVariants.{Linear, Exponential}
use Rattle.wm_schedule.specs.declared.schedule.Period.{Period}
use Rattle.wm_schedule.specs.declared.schedule.Times.{Times}

abbrev pub grown : BackoffPolicy → ℕ → ℕ → ℕ
grown Linear delay attempt = delay * attempt
grown Exponential delay attempt = delay * 2 ^ (attempt - 1)

-- how long a work waits after an attempt that is to be retried
abbrev pub wait_after : Backoff → ℕ → ℕ
wait_after backoff attempt = min (grown backoff.policy backoff.delay attempt) 18000000

-- how long a work waits that isn't retried: its initial delay, and where it is periodic the rest of its first period before the flex
-- interval, and later a whole period
abbrev pub first_wait : Option Period → ℕ → ℕ → ℕ
first_wait None delay runs = delay
first_wait (Some period) delay runs = if runs == 0 then delay + (period.period - period.flex) else period.period

-- the moment from which on a work may start by its delays alone
abbrev pub due_after_delay : Times → ℕ
due_after_delay times =
    times.enqueued_at
    + (if nat_lt 0 times.backoff_n
    then wait_after times.backoff times.backoff_n
    else first_wait times.period times.initial_delay times.runs)

-- the moment from which on a work may start: the one that takes the place of its delays, where there is one
unfoldable pub due_at : Times → ℕ
due_at times = unwrap_or times.override_at (due_after_delay times)
