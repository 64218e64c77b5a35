-- What is clamped is within its limits.
use Rattle.std.proofs.Common.{ℕ, Option, Some, None, arith}
use Rattle.wm_schedule.specs.Clamped.{clamped_delay, clamped_period, IsBackoffDelay, IsPeriod}

pub IsBackoffDelay-clamped : (delay : ℕ) → IsBackoffDelay (clamped_delay delay)
IsBackoffDelay-clamped delay = record { least = omega arith; most = omega arith }

pub IsPeriod-clamped : (period : ℕ) (flex : Option ℕ) → IsPeriod (clamped_period period flex)
IsPeriod-clamped period None = record { least = omega arith; least_flex = omega arith; flex_within = omega arith }
IsPeriod-clamped period (Some flex) = record { least = omega arith; least_flex = omega arith; flex_within = omega arith }
