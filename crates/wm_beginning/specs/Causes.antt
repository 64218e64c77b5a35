-- When each status comes, of what was read and of the rows that were loaded.
use Rattle.std.specs.Prelude.{◌≡◌, ◌⊎◌, ℕ, ℤ, Bool, List, Option, Some, None, IfSome, IsSomeAnd, Err}
use Rattle.wm_ended.specs.declared.status.Status.{Status}
use Rattle.wm_ended.specs.declared.status.Status.TheVariants as status
use Rattle.wm_keeper.specs.declared.row.Row.{Row}
use Rattle.wm_rows.specs.Sound.{checked}
use Rattle.wm_script.specs.Limits.{first_limit}
use Rattle.wm_script.specs.declared.limits.Limit.{Limit}
use Rattle.wm_engine.specs.Begins.{row_fault}

-- the source tells what it has left, and this is the first limit that it passes
abbrev pub IsToldTooLong : Limit → Option (List ℕ) → Type 0
IsToldTooLong limit left = IsSomeAnd left (λ all. first_limit all ≡ Some limit)

-- the source tells what it has left, and it passes no limit
abbrev pub IsToldWithin : Option (List ℕ) → Type 0
IsToldWithin left = IsSomeAnd left (λ all. first_limit all ≡ None)

-- the source didn't fail, and where it tells what it has left, this is the first limit that it passes
pub record IsPastLimit (limit : Limit) (before now : ℕ) (left : Option (List ℕ)) : Type 0 where
  pub no_fault : now ≡ before
  pub too_long : IfSome left (λ all. first_limit all ≡ Some limit)

-- `ScriptTooLong` names the first limit that the script passes, and comes only where the source didn't fail
abbrev pub LimitCause : Status → ℕ → ℕ → Option (List ℕ) → Type 0
LimitCause (status.ScriptTooLong limit) before now left = IsPastLimit limit before now left
LimitCause _ before now left = Unit {0}

-- some rows, which are those that the keeper held where it told them, have this first fault
pub record IsBadStore (held : Option (List Row)) (seq : ℤ) (bad_row : Bool) : Type 0 where
  pub rows : List Row
  pub told : IfSome held (λ kept. rows ≡ kept)
  pub refused : checked rows ≡ Err (row_fault seq bad_row)

-- `BadStore` names the first row with a fault of those that the keeper held
abbrev pub StoreCause : Status → Option (List Row) → Type 0
StoreCause (status.BadStore seq bad_row) held = IsBadStore held seq bad_row
StoreCause _ held = Unit {0}

-- this status, or want of memory
abbrev pub IsUnlessMemory : Status → Status → Type 0
IsUnlessMemory ended expected = (ended ≡ expected) ⊎ (ended ≡ status.Memory)

-- how a run ends whose commands were read
abbrev pub IsOpeningStatus : Status → Type 0
IsOpeningStatus status.Usage = ⊥
IsOpeningStatus status.SourceFault = ⊥
IsOpeningStatus (status.ScriptTooLong limit) = ⊥
IsOpeningStatus _ = Unit {0}
