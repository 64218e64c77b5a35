-- The limits of moments and delays, in milliseconds.
use Rattle.std.specs.Prelude.{ℕ, ◌^◌, ◌<◌, ◌≤◌, IfSome}
use Rattle.wm_schedule.specs.Clamped.{IsBackoffDelay, IsPeriod}
use Rattle.wm_schedule.specs.declared.schedule.Times.{Times}

-- a delay or a period has at most ten years
abbrev pub IsDelay : ℕ → Type 0
IsDelay delay = delay ≤ 315360000000

-- the times of a work are within their limits
pub record AreTimes (times : Times) : Type 0 where
  pub enqueued_at : times.enqueued_at < 2 ^ 53
  pub initial_delay : IsDelay times.initial_delay
  pub backoff : IsBackoffDelay times.backoff.delay
  pub period : IfSome times.period (λ period. IsPeriod period × IsDelay period.period)
