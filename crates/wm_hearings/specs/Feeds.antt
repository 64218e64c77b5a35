-- What feeds tell.
use Rattle.std.specs.Prelude.{ℕ, zero, suc, List, [], ◌∷◌, ◌++◌, Option, Some, None, slice_get}
use Rattle.std.specs.Option.{option_map_or}
use Rattle.wm_collections.specs.Lists.{last_of}
use Rattle.wm_hearings.specs.declared.hearing.Heard.TheVariants.{End}
use Rattle.wm_hearings.specs.declared.hearing.Hearing.{Hearing}

-- a feed in memory: the hearings that it was given, and those that it has told
pub record ListState : Type 0 where
  pub given : List Hearing
  pub told : List Hearing

-- the moment of the last hearing that was given, 0 where none was
abbrev pub last_at : List Hearing → ℕ
last_at given = option_map_or (λ hearing. hearing.at) (last_of given) 0

-- the hearing of this index, and where there is none the end, at the moment of the last one
abbrev pub or_end : ℕ → Option Hearing → Hearing
or_end at (Some hearing) = hearing
or_end at None = record { at = at; heard = End }

abbrev pub hearing_at : List Hearing → ℕ → Hearing
hearing_at given index = or_end (last_at given) (slice_get given index)

-- so many hearings that such a feed tells
abbrev pub first_told : List Hearing → ℕ → List Hearing
first_told given zero = []
first_told given (suc count) = first_told given count ++ hearing_at given count ∷ []
