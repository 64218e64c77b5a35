-- What a request asks for, and the limits that it keeps. After the guide's page "Define work requests"; the limits of texts, tags, delays and
-- periods are this project's own choice.
use Rattle.std.specs.Prelude.{◌≡◌, ℕ, ◌^◌, ◌<◌, ◌≤◌, List, length, Option, None, Some, IfSome}
use Rattle.std.specs.List.{AllByRecursion}
use Rattle.wm_collections.specs.Lists.{AscendByBytes}
use Rattle.wm_conditions.specs.declared.conditions.Constraints.{Constraints}
use Rattle.wm_data.specs.Size.{IsData}
use Rattle.wm_data.specs.declared.data.DataEntry.{DataEntry}
use Rattle.wm_data.specs.declared.merger.Merger.{Merger}
use Rattle.wm_request.specs.declared.request.NextRun.{NextRun}
use Rattle.wm_request.specs.declared.request.NextRun.TheVariants.{Leave, At, Clear}
use Rattle.wm_schedule.specs.Clamped.{IsBackoffDelay, IsPeriod}
use Rattle.wm_schedule.specs.Moments.{IsDelay}
use Rattle.wm_schedule.specs.declared.schedule.Backoff.{Backoff}
use Rattle.wm_schedule.specs.declared.schedule.Period.{Period}

-- what is asked for of a work
pub record RequestFields : Type 0 where
  pub id : List ℕ
  pub class : List ℕ
  pub input : List DataEntry
  pub merger : Merger
  pub tags : List (List ℕ)
  pub constraints : Constraints
  pub backoff : Backoff
  pub initial_delay : ℕ
  pub period : Option Period
  pub keep : ℕ
  pub next : NextRun

-- a request as the record of a work has it: of this id and this keeping time, with nothing to ask of the next run
abbrev pub of_record : List ℕ → ℕ → RequestFields → RequestFields
of_record id keep request = record request { id = id; keep = keep; next = Leave }

-- ---- limits

-- a class, a tag or a unique name: 1 to 200 bytes
pub record IsShortText (text : List ℕ) : Type 0 where
  pub not_empty : 1 ≤ length text
  pub short : length text ≤ 200

-- different tags, ascending
pub record AreSortedTags (tags : List (List ℕ)) : Type 0 where
  pub short : AllByRecursion IsShortText tags
  pub ascending : AscendByBytes tags

-- at most 32 of them
pub record AreTags (tags : List (List ℕ)) : Type 0 where
  pub few : length tags ≤ 32
  pub sorted : AreSortedTags tags

-- only periodic work asks anything of its next run, and for a moment that a record may have
abbrev pub IsNextRun : Option Period → NextRun → Type 0
IsNextRun period Leave = Unit {0}
IsNextRun None asked = ⊥
IsNextRun (Some period) (At moment) = moment < 2 ^ 53
IsNextRun (Some period) Clear = Unit {0}

-- the limits that the type of a request keeps
pub record IsWithin (class : List ℕ) (tags : List (List ℕ)) (backoff : Backoff) (initial_delay : ℕ) (period : Option Period) (keep : ℕ) (next : NextRun)
    : Type 0 where
  pub class_is : IsShortText class
  pub tags_are : AreTags tags
  pub backoff_is : IsBackoffDelay backoff.delay
  pub delay_is : IsDelay initial_delay
  pub period_is : IfSome period (λ period. IsPeriod period × IsDelay period.period)
  pub keep_is : IsDelay keep
  pub next_is : IsNextRun period next

-- a request within its limits, with an id of 16 bytes and Data as its input
pub record IsRequest (request : RequestFields) : Type 0 where
  pub id : length request.id ≡ 16
  pub input : IsData request.input
  pub within : IsWithin request.class request.tags request.backoff request.initial_delay request.period request.keep request.next
