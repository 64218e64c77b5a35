-- How a request is put together, and why one isn't built. After `androidx.work.WorkRequest.Builder` and the defaults of the guide's page
-- "Define work requests"; the refusals are this project's own choice.
use Rattle.std.specs.Prelude.{◌≡◌, ℕ, ◌&&◌, ◌||◌, Bool, false, not, List, [], ◌∷◌, length, nat_lt, nat_le, if◌then◌else◌, Option, Some, None, option_map, unwrap_or, IfSome, Result, Ok, Err}
use Rattle.std.specs.Cmp.Lexicographic.{slice_cmp}
use Rattle.std.specs.Ordering.{match_ordering, nat_cmp}
use Rattle.wm_conditions.specs.Defaults.{unconstrained}
use Rattle.wm_data.specs.declared.merger.Merger.TheVariants.{Overwriting}
use Rattle.wm_request.specs.Requests.{AreSortedTags, IsNextRun, RequestFields}
use Rattle.wm_request.specs.declared.fault.RequestFault.{RequestFault}
use Rattle.wm_request.specs.declared.fault.RequestFault.TheVariants as fault
use Rattle.wm_request.specs.declared.request.NextRun.{NextRun}
use Rattle.wm_request.specs.declared.request.NextRun.TheVariants.{Leave}
use Rattle.wm_schedule.specs.Clamped.{clamped_delay, clamped_period, IsBackoffDelay, IsPeriod}
use Rattle.wm_schedule.specs.Defaults.{default_backoff}
use Rattle.wm_schedule.specs.declared.schedule.Backoff.{Backoff}
use Rattle.wm_schedule.specs.declared.schedule.BackoffPolicy.{BackoffPolicy}
use Rattle.wm_schedule.specs.declared.schedule.Period.{Period}

-- ---- the fields

-- one-time work of this id and class: no input, tag, constraint, delay or keeping time, and exponential backoff from 30,000 ms
abbrev pub one_time_of : List ℕ → List ℕ → RequestFields
one_time_of id class = record {
  id = id;
  class = class;
  input = [];
  merger = Overwriting;
  tags = [];
  constraints = unconstrained;
  backoff = default_backoff;
  initial_delay = 0;
  period = None;
  keep = 0;
  next = Leave;
}

-- the same that repeats, with its period and flex interval clamped
abbrev pub periodic_of : List ℕ → List ℕ → ℕ → Option ℕ → RequestFields
periodic_of id class period flex = record (one_time_of id class) { period = Some (clamped_period period flex) }

-- a backoff of this policy, with its delay clamped
abbrev pub backoff_of : BackoffPolicy → ℕ → Backoff
backoff_of policy delay = record { policy = policy; delay = clamped_delay delay }

-- ascending tags with one more, in front of the first that comes after it; one that is there changes nothing
abbrev pub with_tag : List ℕ → List (List ℕ) → List (List ℕ)
with_tag tag [] = tag ∷ []
with_tag tag (other ∷ tags) =
    match_ordering (slice_cmp nat_cmp tag other) (tag ∷ other ∷ tags) (other ∷ tags) (other ∷ with_tag tag tags)

-- what a builder keeps of what it is given
pub record IsBuilding (tags : List (List ℕ)) (backoff : Backoff) (period : Option Period) (next : NextRun) : Type 0 where
  pub tags_are : AreSortedTags tags
  pub backoff_is : IsBackoffDelay backoff.delay
  pub period_is : IfSome period IsPeriod
  pub next_is : IsNextRun period next

-- ---- what a build answers

abbrev pub is_short : List ℕ → Bool
is_short text = nat_lt 0 (length text) && nat_le (length text) 200

abbrev pub is_long : ℕ → Bool
is_long delay = nat_lt 315360000000 delay

abbrev pub has_long_period : Option Period → Bool
has_long_period period = unwrap_or (option_map (λ period. is_long period.period) period) false

abbrev pub has_long_delay : RequestFields → Bool
has_long_delay asked = (is_long asked.initial_delay || is_long asked.keep) || has_long_period asked.period

-- the request, or why there is none: its class first, then its tags, then its delays and its keeping time
abbrev pub built_of : RequestFields → Result RequestFields RequestFault
built_of asked =
    if not (is_short asked.class) then Err fault.NoClass
    else if nat_lt 32 (length asked.tags) then Err fault.TooManyTags
    else if has_long_delay asked then Err fault.DelayTooLong
    else Ok asked

-- A fault in the place of what a call is to answer: it is that fault, or memory was refused.
abbrev pub IsFaultOf : {T : Type 0} → Result T RequestFault → RequestFault → Type 0
IsFaultOf answer fault.Memory = Unit {0}
IsFaultOf answer found = answer ≡ Err found
