-- When each status comes of a program that reads words and a script, and then opens a store.
use Rattle.std.specs.Prelude.{◌≡◌, ◌↔◌, ◌+◌, ℕ, ℤ, Bool, List, Option, Some, None, IsSome, Err}
use Rattle.wm_beginning.specs.Causes.{IsToldTooLong, IsToldWithin, IsUnlessMemory, LimitCause, StoreCause, IsOpeningStatus}
use Rattle.wm_beginning.specs.NotBegun.{IsNotBegunStatus, IsUntouched}
use Rattle.wm_beginning.specs.Reading.{Reads}
use Rattle.wm_beginning.specs.Script.{IsTakenWithin}
use Rattle.wm_bench.specs.declared.hand.Hand.{Hand}
use Rattle.wm_ended.specs.Tells.{Tells}
use Rattle.wm_ended.specs.declared.not_begun.NotBegun.{NotBegun}
use Rattle.wm_ended.specs.declared.status.Status.{Status}
use Rattle.wm_ended.specs.declared.status.Status.TheVariants as status
use Rattle.wm_faults.specs.Faults.{Failed}
use Rattle.wm_keeper.specs.Store.{told_before, KeepsTelling}
use Rattle.wm_keeper.specs.declared.row.Row.{Row}
use Rattle.wm_rows.specs.Sound.{checked, AreSound}
use Rattle.wm_script.specs.Limits.{most_script_bytes}
use Rattle.wm_script.specs.declared.limits.Limit.{Limit}
use Rattle.wm_engine.specs.Begins.{row_fault}

-- the words were read to options, and the source tells a script that passes no limit, and doesn't fail
pub record HaveScript {O : Type 0} (options : Option O) (left : Option (List ℕ)) (before now : ℕ) : Type 0 where
  pub right : IsSome options
  pub within : IsToldWithin left
  pub no_fault : ¬ Failed before now

-- It ended so whose script was read, and whose keeper told these rows, where it tells rows to the end; it was given this keeper and this sink, of which
-- these are left. Each status has its cause.
pub record IsCausedOnceRead {K W B : Type 0} (tells : Tells K W B) (held : Option (List Row)) (keeper kept : K) (sink given : W) (ended : Status) : Type 0 where
  pub opened : IsOpeningStatus ended
  pub keeper_fault : ended ≡ status.KeeperFault → Failed (tells.store keeper).faults (tells.store kept).faults
  pub sink_fault : ended ≡ status.SinkFault → Failed (tells.sink_faults sink) (tells.sink_faults given)
  pub bad_store : StoreCause ended held
  pub unsound : (rows : List Row) (seq : ℤ) (bad_row : Bool) → held ≡ Some rows → checked rows ≡ Err (row_fault seq bad_row)
      → ¬ Failed (tells.store keeper).faults (tells.store kept).faults → IsUnlessMemory ended (status.BadStore seq bad_row)

-- A program ended so whose words were read to these options, where they are right, and either ask for a script or don't, whose lines are there or aren't,
-- and which was given this keeper and this sink, of which these are left, and a source that was and is as told. Memory alone is free.
pub record IsCausedFor {K W B S O : Type 0} (tells : Tells K W B) (source : Reads S) (options : Option O) (asks_script has_lines : Type 0) (before now : S)
    (keeper kept : K) (sink given : W) (ended : Status) : Type 0 where
  pub usage : (ended ≡ status.Usage) ↔ (options ≡ None)
  pub usage_reads_nothing : ended ≡ status.Usage → now ≡ before
  pub usage_keeps : ended ≡ status.Usage → (kept ≡ keeper) × (given ≡ sink)
  pub source_fault : ended ≡ status.SourceFault → Failed (source.faults before) (source.faults now)
  pub source_fault_keeps : ended ≡ status.SourceFault → (kept ≡ keeper) × (given ≡ sink)
  pub script_too_long : LimitCause ended (source.faults before) (source.faults now) (source.left before)
  pub script_too_long_keeps : (limit : Limit) → ended ≡ status.ScriptTooLong limit → (kept ≡ keeper) × (given ≡ sink)
  pub long_script : (limit : Limit) → asks_script
      → IsToldTooLong limit (source.left before)
      → ¬ Failed (source.faults before) (source.faults now)
      → IsUnlessMemory ended (status.ScriptTooLong limit)
  pub keeper_fault : ended ≡ status.KeeperFault → Failed (tells.store keeper).faults (tells.store kept).faults
  pub sink_fault : ended ≡ status.SinkFault → Failed (tells.sink_faults sink) (tells.sink_faults given)
  pub bad_store : StoreCause ended (told_before (tells.store keeper).rows (tells.store kept).rows)
  pub unsound_store : (rows : List Row) (seq : ℤ) (bad_row : Bool)
      → has_lines
      → told_before (tells.store keeper).rows (tells.store kept).rows ≡ Some rows
      → checked rows ≡ Err (row_fault seq bad_row)
      → ¬ Failed (tells.store keeper).faults (tells.store kept).faults
      → IsUnlessMemory ended (status.BadStore seq bad_row)
  -- Completeness: right words, their lines, a sound store and no fault.
  pub completes : (rows : List Row)
      → has_lines
      → told_before (tells.store keeper).rows (tells.store kept).rows ≡ Some rows
      → AreSound rows
      → ¬ Failed (tells.store keeper).faults (tells.store kept).faults
      → ¬ Failed (tells.sink_faults sink) (tells.sink_faults given)
      → IsUnlessMemory ended status.Done

-- the same where right words ask for a script, and the lines are its
abbrev pub IsCaused : {K W B S O : Type 0} → Tells K W B → Reads S → Option O → S → S → K → K → W → W → Status → Type 0
IsCaused tells source options before now keeper kept sink given ended =
    IsCausedFor tells source options (IsSome options) (HaveScript options (source.left before) (source.faults before) (source.faults now)) before now keeper
    kept sink given ended

-- ---- where no table was begun

-- A program whose words were read to these options, where they are right and ask for a script, began no table; its source was and is as told, it was
-- given these workers, this keeper and this sink, and this comes back.
pub record BeganNothing {K W B S O : Type 0} (tells : Tells K W B) (source : Reads S) (options : Option O) (workers : List (Hand B)) (before now : S)
    (keeper : K) (sink : W) (back : NotBegun K W B) : Type 0 where
  pub untouched : IsUntouched tells workers keeper sink back
  pub keeps_telling : KeepsTelling (tells.store keeper) (tells.store back.keeper)
  pub reads : IsTakenWithin (most_script_bytes + 1) (source.left before) (source.left now)
  pub causes : IsCaused tells source options before now keeper back.keeper sink back.sink back.status
  pub status_is : IsNotBegunStatus back.status
