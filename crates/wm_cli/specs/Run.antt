-- The promise of a run, fact by fact.
use Rattle.std.specs.Prelude.{◌≡◌, ◌↔◌, ◌+◌, ℕ, ℤ, Bool, true, false, List, Some, None, Err}
use Rattle.wm_beginning.specs.Causes.{IsToldTooLong, IsUnlessMemory, LimitCause, StoreCause}
use Rattle.wm_beginning.specs.NotBegun.{IsOpeningRefused}
use Rattle.wm_beginning.specs.Over.{AreHandsOf, AreReportedOnce, AreRowsKept, IsBegunBy, IsQuietOnDone, IsReplayed}
use Rattle.wm_beginning.specs.Reading.{ForScript, Reads}
use Rattle.wm_beginning.specs.Script.{IsTakenWithin}
use Rattle.wm_bench.specs.declared.hand.Hand.{Hand}
use Rattle.wm_cli.specs.Ended.{AreBoxesOf, HaveToldOnDone, IsRunOf, IsStoreOf}
use Rattle.wm_cli.specs.Lines.{HaveLines, lines_of}
use Rattle.wm_ended.specs.Ended.{IsTextWritten}
use Rattle.wm_ended.specs.Tells.{Tells}
use Rattle.wm_ended.specs.declared.ended.Ended.{Ended}
use Rattle.wm_ended.specs.declared.status.Status.TheVariants as status
use Rattle.wm_faults.specs.Faults.{Failed}
use Rattle.wm_keeper.specs.Store.{told_before, KeepsTelling}
use Rattle.wm_keeper.specs.declared.row.Row.{Row}
use Rattle.wm_rows.specs.Sound.{checked, AreSound}
use Rattle.wm_script.specs.Limits.{most_script_bytes}
use Rattle.wm_script.specs.declared.limits.Limit.{Limit}
use Rattle.wm_seating.specs.Hands.{instances_from}
use Rattle.wm_engine.specs.Begins.{row_fault}
use Rattle.wm_words.specs.Run.{options_of, origin_of, AskForNoThreads, AskForScript}
use Rattle.wm_words.specs.declared.run.Origin.TheVariants as origin

-- The promise of a run with these words and workers, whose source was and is as told, which was given this keeper and this sink, and ended so.
pub record IsRun {K W B S : Type 0} (tells : Tells K W B) (source : Reads S) (words : List (List ℕ)) (workers : List (Hand B)) (before now : S)
    (keeper : K) (sink : W) (ended : Ended K W B) : Type 0 where
  -- The log replays, from the state that the rows held opened to, as the state machine. The rows
  -- held are those that the keeper told, where it tells rows to the end.
  pub replay : IsReplayed (told_before (tells.store keeper).rows (tells.store ended.keeper).rows) (instances_from tells.kind_of 0 workers) ended.began ended.first ended.log ended.last
  -- And they are those, told to the end or not, where it is told in the end that a crash may leave any.
  pub replay_left : (image : List Row) → (tells.store ended.keeper).images image
      → IsReplayed (tells.store keeper).rows (instances_from tells.kind_of 0 workers) ended.began ended.first ended.log ended.last
  -- Rows that the keeper told are told in the end, unless it is lost then.
  pub keeps_telling : KeepsTelling (tells.store keeper) (tells.store ended.keeper)
  pub begun : IsBegunBy ended.status ended.began
  -- That the commit of the opening was refused is said where it was, of rows that are sound and change by
  -- it; and where it isn't said, and no table was begun, nothing was committed.
  pub at_opening : IsOpeningRefused ended.began ended.at_opening ended.status (told_before (tells.store keeper).rows (tells.store ended.keeper).rows)
      (instances_from tells.kind_of 0 workers) (tells.store keeper) (tells.store ended.keeper)
  -- Where no store was opened, the sink is as it was.
  pub not_begun_keeps : ended.began ≡ false → ended.sink ≡ sink
  -- The rows kept are the last state's, and those of before where no store was opened.
  pub rows : AreRowsKept ended.began ended.last (tells.store keeper) (tells.store ended.keeper)
  -- They stand in the store that the words name.
  pub store : ended.began ≡ true → IsStoreOf words (tells.store ended.keeper).name
  -- It is a run of the seed's lines, where the words give one, and else of the script's, those of the
  -- bytes that the source had left, where it tells them, and else of some bytes. The log has these
  -- lines as its commands, a front of them, and on `Done` all. Without threads it is that of a serial
  -- run over them, or a front of one. Where nothing was pending in the store, a crash leaves the last
  -- state's rows, or those of the state after the event that was being committed; and where no store
  -- was opened the rows of before, or those of the opening that was being committed.
  pub script : ForScript (source.left before) (λ bytes.
      IsRunOf tells words workers keeper (lines_of (origin_of words) bytes) ended)
  -- The bytes written are the log's text, a front of it, and on `Done` all.
  pub bytes : IsTextWritten (tells.given sink) (tells.given ended.sink) ended.status ended.first ended.log
  -- On `Done` nothing is startable and no run is unreturned.
  pub end : IsQuietOnDone ended.status ended.last
  -- Each run is reported once: at most, and just once where nothing is left to do in the end.
  pub reports : AreReportedOnce ended.first ended.log ended.last
  -- The workers whose class wasn't retired come back.
  pub hands : AreHandsOf tells.kind_of ended.began ended.last workers ended.hands.items
  -- Without threads each of them is the one that was given, with what it wrote down.
  pub boxes : AskForNoThreads words → AreBoxesOf tells.diary_of ended.began workers ended.log ended.last ended.hands.items
  pub diaries : AskForNoThreads words → HaveToldOnDone tells.diary_of ended.status workers ended.first ended.log ended.last ended.hands.items
  -- At most one byte more than a script may have is read, and nothing where a seed gives the lines.
  pub reads : IsTakenWithin (most_script_bytes + 1) (source.left before) (source.left now)
  pub generated_reads_nothing : (seed : ℕ) → origin_of words ≡ origin.Seed seed → now ≡ before
  -- The causes: when each status comes. Memory alone is free.
  pub done : ended.status ≡ status.Done → ended.began ≡ true
  pub usage : (ended.status ≡ status.Usage) ↔ (options_of words ≡ None)
  pub usage_reads_nothing : ended.status ≡ status.Usage → now ≡ before
  pub usage_keeps : ended.status ≡ status.Usage → (ended.keeper ≡ keeper) × (ended.sink ≡ sink)
  pub source_fault : ended.status ≡ status.SourceFault → Failed (source.faults before) (source.faults now)
  pub source_fault_keeps : ended.status ≡ status.SourceFault → (ended.keeper ≡ keeper) × (ended.sink ≡ sink)
  pub script_too_long : LimitCause ended.status (source.faults before) (source.faults now) (source.left before)
  pub script_too_long_of_script : (limit : Limit) → ended.status ≡ status.ScriptTooLong limit → AskForScript words
  pub script_too_long_keeps : (limit : Limit) → ended.status ≡ status.ScriptTooLong limit → (ended.keeper ≡ keeper) × (ended.sink ≡ sink)
  pub long_script : (limit : Limit) → AskForScript words
      → IsToldTooLong limit (source.left before)
      → ¬ Failed (source.faults before) (source.faults now)
      → IsUnlessMemory ended.status (status.ScriptTooLong limit)
  pub keeper_fault : ended.status ≡ status.KeeperFault → Failed (tells.store keeper).faults (tells.store ended.keeper).faults
  pub sink_fault : ended.status ≡ status.SinkFault → Failed (tells.sink_faults sink) (tells.sink_faults ended.sink)
  pub bad_store : StoreCause ended.status (told_before (tells.store keeper).rows (tells.store ended.keeper).rows)
  pub unsound_store : (rows : List Row) (seq : ℤ) (bad_row : Bool)
      → HaveLines words (source.left before) (source.faults before) (source.faults now)
      → told_before (tells.store keeper).rows (tells.store ended.keeper).rows ≡ Some rows
      → checked rows ≡ Err (row_fault seq bad_row)
      → ¬ Failed (tells.store keeper).faults (tells.store ended.keeper).faults
      → IsUnlessMemory ended.status (status.BadStore seq bad_row)
  -- Completeness: right words, with a seed or a script within its limits, a sound store and no fault.
  pub completes : (rows : List Row)
      → HaveLines words (source.left before) (source.faults before) (source.faults now)
      → told_before (tells.store keeper).rows (tells.store ended.keeper).rows ≡ Some rows
      → AreSound rows
      → ¬ Failed (tells.store keeper).faults (tells.store ended.keeper).faults
      → ¬ Failed (tells.sink_faults sink) (tells.sink_faults ended.sink)
      → IsUnlessMemory ended.status status.Done
