-- What is built is within the limits of a request.
use Rattle.std.proofs.Common.{◌≡◌, ℕ, ◌≤◌, Bool, true, false, cond, not, List, length, Option, Some, None, IfSome, Result, Ok, Err, refl, arith}
use Rattle.std.specs.Prelude.{◌||◌, nat_le, nat_lt}
use Rattle.std.proofs.lemmas.Bool.{and_parts, leb-true, ltb-false, ltb-true, or_parts}
use Rattle.wm_request.specs.Building.{built_of, has_long_delay, has_long_period, is_long, is_short, IsBuilding}
use Rattle.wm_request.specs.Requests.{IsShortText, IsWithin, RequestFields}
use Rattle.wm_request.specs.declared.fault.RequestFault.{RequestFault}
use Rattle.wm_request.specs.declared.fault.RequestFault.TheVariants as fault
use Rattle.wm_request.specs.declared.request.NextRun.TheVariants.{Leave}
use Rattle.wm_schedule.specs.Clamped.{IsPeriod}
use Rattle.wm_schedule.specs.Moments.{IsDelay}
use Rattle.wm_schedule.specs.declared.schedule.Period.{Period}

pub IsShortText-is_short : (text : List ℕ) → is_short text ≡ true → IsShortText text
IsShortText-is_short text is =
    let parts = and_parts (nat_lt 0 (length text)) (nat_le (length text) 200) is in
    let more = ltb-true 0 (length text) parts.0 in
    record { not_empty = omega arith; short = leb-true (length text) 200 parts.1 }

-- a period within its least that isn't too long
period_is : (period : Option Period) → IfSome period IsPeriod → IfSome period (λ p. is_long p.period ≡ false)
    → IfSome period (λ p. IsPeriod p × IsDelay p.period)
period_is None clamped short = tt
period_is (Some period) clamped short = (clamped, ltb-false 315360000000 period.period short)

-- a period that isn't too long
short_period : (period : Option Period) → has_long_period period ≡ false → IfSome period (λ p. is_long p.period ≡ false)
short_period None short = tt
short_period (Some period) short = short

pub IsWithin-building : (asked : RequestFields) → IsBuilding asked.tags asked.backoff asked.period asked.next → is_short asked.class ≡ true
    → length asked.tags ≤ 32 → has_long_delay asked ≡ false
    → IsWithin asked.class asked.tags asked.backoff asked.initial_delay asked.period asked.keep asked.next
IsWithin-building asked building short few delays =
    let parts = or_parts (is_long asked.initial_delay || is_long asked.keep) (has_long_period asked.period) delays in
    let times = or_parts (is_long asked.initial_delay) (is_long asked.keep) parts.0 in
    record {
      class_is = IsShortText-is_short asked.class short;
      tags_are = record { few = few; sorted = building.tags_are };
      backoff_is = building.backoff_is;
      delay_is = ltb-false 315360000000 asked.initial_delay times.0;
      period_is = period_is asked.period building.period_is (short_period asked.period parts.1);
      keep_is = ltb-false 315360000000 asked.keep times.1;
      next_is = building.next_is;
    }

-- a request as the record of a work has it is within its limits
pub IsWithin-of_record : (request : RequestFields) (keep : ℕ) → IsDelay keep
    → IsWithin request.class request.tags request.backoff request.initial_delay request.period request.keep request.next
    → IsWithin request.class request.tags request.backoff request.initial_delay request.period keep Leave
IsWithin-of_record request keep short is = record {
  class_is = is.class_is;
  tags_are = is.tags_are;
  backoff_is = is.backoff_is;
  delay_is = is.delay_is;
  period_is = is.period_is;
  keep_is = short;
  next_is = tt;
}

-- ---- what a build answers

built_by : Bool → Bool → Bool → RequestFields → Result RequestFields RequestFault
built_by short many long asked = cond (not short) (Err fault.NoClass) (cond many (Err fault.TooManyTags) (cond long (Err fault.DelayTooLong) (Ok asked)))

module _ (P : Result RequestFields RequestFault → Type 0) (asked : RequestFields) (building : IsBuilding asked.tags asked.backoff asked.period asked.next)
    (no_class : P (Err fault.NoClass)) (many_tags : P (Err fault.TooManyTags)) (long_delay : P (Err fault.DelayTooLong))
    (built : IsWithin asked.class asked.tags asked.backoff asked.initial_delay asked.period asked.keep asked.next → P (Ok asked)) where
  cases_by : (short many long : Bool) → is_short asked.class ≡ short → nat_lt 32 (length asked.tags) ≡ many → has_long_delay asked ≡ long
      → P (built_by short many long asked)
  unfolding built_by
  cases_by false many long class_is tags_are delay_is = no_class
  cases_by true true long class_is tags_are delay_is = many_tags
  cases_by true false true class_is tags_are delay_is = long_delay
  cases_by true false false class_is tags_are delay_is =
      built (IsWithin-building asked building class_is (ltb-false 32 (length asked.tags) tags_are) delay_is)

  -- what holds of each fault, and of a request within its limits, holds of what a build answers
  pub built_of-cases : P (built_of asked)
  unfolding built_by
  built_of-cases = cases_by (is_short asked.class) (nat_lt 32 (length asked.tags)) (has_long_delay asked) refl refl refl
