-- What periodic work may ask of its next run.
use Rattle.std.proofs.Common.{◌≡◌, ℕ, ◌^◌, ◌<◌, true, Option, Some, None, is_some}
use Rattle.std.proofs.lemmas.Bool.{false≢true}
use Rattle.wm_request.specs.Requests.{IsNextRun}
use Rattle.wm_request.specs.declared.request.NextRun.TheVariants.{At, Clear}
use Rattle.wm_schedule.specs.declared.schedule.Period.{Period}

-- it may ask for a moment that a record may have
pub IsNextRun-at : (period : Option Period) (moment : ℕ) → is_some period ≡ true → moment < 2 ^ 53 → IsNextRun period (At moment)
IsNextRun-at None moment periodic below = absurd (false≢true periodic)
IsNextRun-at (Some period) moment periodic below = below

-- and for none
pub IsNextRun-clear : (period : Option Period) → is_some period ≡ true → IsNextRun period Clear
IsNextRun-clear None periodic = absurd (false≢true periodic)
IsNextRun-clear (Some period) periodic = tt
