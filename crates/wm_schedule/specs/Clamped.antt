-- The least and the greatest wait, and the least period and flex interval. After the guide's page "Define work requests" and the constants of
-- `androidx.work.WorkRequest` and `PeriodicWorkRequest`.
use Rattle.std.specs.Prelude.{ℕ, ◌≤◌, max, min, Option, Some, None}
use Rattle.wm_schedule.specs.declared.schedule.Period.{Period}

-- ---- a backoff

-- the delay of a backoff is within its least and its greatest, 10 s and 5 h, in milliseconds
pub record IsBackoffDelay (delay : ℕ) : Type 0 where
  pub least : 10000 ≤ delay
  pub most : delay ≤ 18000000

-- the delay, raised to the least or lowered to the greatest
abbrev pub clamped_delay : ℕ → ℕ
clamped_delay delay = min (max delay 10000) 18000000

-- ---- a period

-- a period and its flex interval, neither below its least, 15 and 5 minutes, in milliseconds
pub record IsPeriod (period : Period) : Type 0 where
  pub least : 900000 ≤ period.period
  pub least_flex : 300000 ≤ period.flex
  pub flex_within : period.flex ≤ period.period

-- the flex interval, raised to the least or lowered to the period; the period where there is none
abbrev pub clamped_flex : ℕ → Option ℕ → ℕ
clamped_flex period None = period
clamped_flex period (Some flex) = min (max flex 300000) period

-- a period of which both are raised to their least, and the flex interval lowered to the period
abbrev pub clamped_period : ℕ → Option ℕ → Period
clamped_period period flex = record { period = max period 900000; flex = clamped_flex (max period 900000) flex }
