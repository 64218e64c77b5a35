-- The promise of callers that call the lines of a script, fact by fact.
use Rattle.std.specs.Option.{option_map_or}
use Rattle.std.specs.Prelude.{◌≡◌, ◌+◌, ℕ, true, false, List, Option, option_map}
use Rattle.wm_beginning.specs.Caused.{IsCaused}
use Rattle.wm_beginning.specs.NotBegun.{IsOpeningRefused}
use Rattle.wm_beginning.specs.Over.{AreHandsOf, AreReportedOnce, AreRowsKept, IsBegunBy, IsQuietOnDone, IsReplayed}
use Rattle.wm_beginning.specs.Reading.{ForScript, Reads}
use Rattle.wm_beginning.specs.Script.{IsTakenWithin}
use Rattle.wm_bench.specs.declared.hand.Hand.{Hand}
use Rattle.wm_callers_program.specs.Ended.{AreCallsOf, CallsComeFirst}
use Rattle.wm_callers_program.specs.Lines.{lines_of}
use Rattle.wm_ended.specs.Ended.{IsTextWritten}
use Rattle.wm_ended.specs.Tells.{Tells}
use Rattle.wm_ended.specs.declared.ended.Ended.{Ended}
use Rattle.wm_ended.specs.declared.status.Status.TheVariants as status
use Rattle.wm_keeper.specs.Store.{told_before, IsAtMost, KeepsTelling}
use Rattle.wm_keeper.specs.declared.row.Row.{Row}
use Rattle.wm_script.specs.Limits.{most_script_bytes}
use Rattle.wm_script.specs.Lines.{commands_in}
use Rattle.wm_seating.specs.Hands.{instances_from}
use Rattle.wm_words.specs.Callers.{callers_options_of}

-- where the keeper tells the name that it was loaded with, it is the one that the words name
abbrev pub IsStoreOfCallers : List (List ℕ) → Option (List ℕ) → Type 0
IsStoreOfCallers words name = IsAtMost (option_map (λ options. options.store) (callers_options_of words)) name

-- how many callers the words ask for, where they are right
abbrev pub callers_of : List (List ℕ) → ℕ
callers_of words = option_map_or (λ options. options.callers) (callers_options_of words) 0

-- The promise of callers with these words and workers, whose source was and is as told, which were given this keeper and this sink, and ended so, with
-- these callers of the log's commands.
pub record IsCallersRun {K W B S : Type 0} (tells : Tells K W B) (source : Reads S) (words : List (List ℕ)) (workers : List (Hand B)) (before now : S)
    (keeper : K) (sink : W) (numbers : List ℕ) (ended : Ended K W B) : Type 0 where
  -- The log replays, from the state that the rows held opened to, as the state machine. The rows held
  -- are those that the keeper told, where it tells rows to the end.
  pub replay : IsReplayed (told_before (tells.store keeper).rows (tells.store ended.keeper).rows) (instances_from tells.kind_of 0 workers) ended.began ended.first ended.log ended.last
  -- And they are those, told to the end or not, where it is told in the end that a crash may leave any.
  pub replay_left : (image : List Row) → (tells.store ended.keeper).images image
      → IsReplayed (tells.store keeper).rows (instances_from tells.kind_of 0 workers) ended.began ended.first ended.log ended.last
  -- Rows that the keeper told are told in the end, unless it is lost then.
  pub keeps_telling : KeepsTelling (tells.store keeper) (tells.store ended.keeper)
  pub begun : IsBegunBy ended.status ended.began
  -- That the commit of the opening was refused is said where it was, of rows that are sound and change by
  -- it; and where it isn't said, and no table was begun, nothing was committed.
  pub at_opening : IsOpeningRefused ended.began ended.at_opening ended.status (told_before (tells.store keeper).rows (tells.store ended.keeper).rows)
      (instances_from tells.kind_of 0 workers) (tells.store keeper) (tells.store ended.keeper)
  -- Where no store was opened, the sink is as it was.
  pub not_begun_keeps : ended.began ≡ false → ended.sink ≡ sink
  -- The rows kept are the last state's, and those of before where no store was opened. They stand in the
  -- store that the words name.
  pub rows : AreRowsKept ended.began ended.last (tells.store keeper) (tells.store ended.keeper)
  pub store : ended.began ≡ true → IsStoreOfCallers words (tells.store ended.keeper).name
  -- The lines are those of the bytes that the source had left, where it tells them, and else of some
  -- bytes. The log has a front of each caller's lines, in order and each once, and on `Done` all. Each
  -- command of the log has its caller.
  pub script : ForScript (source.left before) (λ bytes.
      AreCallsOf (callers_of words) (lines_of (commands_in bytes)) ended.status ended.log numbers)
  -- All of them come before the first work starts, or can't start.
  pub calls_first : CallsComeFirst ended.log
  -- The bytes written are the log's text, a front of it, and on `Done` all: replies in the order of the log.
  pub bytes : IsTextWritten (tells.given sink) (tells.given ended.sink) ended.status ended.first ended.log
  -- On `Done` nothing is startable and no run is unreturned.
  pub end : IsQuietOnDone ended.status ended.last
  -- Each run is reported once: at most, and just once where nothing is left to do in the end.
  pub reports : AreReportedOnce ended.first ended.log ended.last
  -- The workers whose class wasn't retired come back.
  pub hands : AreHandsOf tells.kind_of ended.began ended.last workers ended.hands.items
  -- At most one byte more than a script may have is read.
  pub reads : IsTakenWithin (most_script_bytes + 1) (source.left before) (source.left now)
  -- The causes: when each status comes. Memory alone is free.
  pub causes : IsCaused tells source (callers_options_of words) before now keeper ended.keeper sink ended.sink ended.status
  pub done : ended.status ≡ status.Done → ended.began ≡ true
