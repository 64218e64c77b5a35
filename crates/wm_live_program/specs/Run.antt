-- The promise of a test driver that is asked the lines of a script, fact by fact.
use Rattle.std.specs.Prelude.{◌≡◌, ◌+◌, ℕ, List, Option, None, IfSome, option_map, Result, IfOk, IfErr}
use Rattle.wm_beginning.specs.Caused.{IsCaused}
use Rattle.wm_beginning.specs.NotBegun.{IsUntouched}
use Rattle.wm_beginning.specs.Over.{IsOpenedFrom}
use Rattle.wm_beginning.specs.Reading.{ForScript, Reads}
use Rattle.wm_beginning.specs.Script.{IsTakenWithin}
use Rattle.wm_bench.specs.declared.hand.Hand.{Hand}
use Rattle.wm_ended.specs.Tells.{Tells}
use Rattle.wm_ended.specs.declared.not_begun.NotBegun.{NotBegun}
use Rattle.wm_ended.specs.declared.status.Status.TheVariants as status
use Rattle.wm_keeper.specs.Store.{told_before, IsAtMost, KeepsTelling}
use Rattle.wm_live_program.specs.Asks.{asks_in}
use Rattle.wm_live_program.specs.Driven.{IsDriven}
use Rattle.wm_live_program.specs.Ended.{keeper_of, sink_of, status_of, IsEndStatus, IsWritten}
use Rattle.wm_live_program.specs.declared.ended.LiveEnded.{LiveEnded}
use Rattle.wm_script.specs.Limits.{most_script_bytes}
use Rattle.wm_seating.specs.Hands.{instances_from}
use Rattle.wm_engine.specs.Rows.{HoldsRowsOf}
use Rattle.wm_words.specs.Live.{live_options_of}

-- what a driver that was begun did, which has these words, workers and this sink, and a source that had this left
pub record HasLived {K W B : Type 0} (tells : Tells K W B) (left : Option (List ℕ)) (words : List (List ℕ)) (workers : List (Hand B)) (keeper : K) (sink : W)
    (ended : LiveEnded K W B) : Type 0 where
  -- The first state is the one that the rows held open to, where the keeper told them and tells rows to the end.
  pub opened : IsOpenedFrom (told_before (tells.store keeper).rows (tells.store ended.end.table.keeper).rows) (instances_from tells.kind_of 0 workers)
      ended.end.table.first
  -- The asks are those of the script's lines, of the bytes that the source had left, where it tells them, and else of some bytes: a front of them,
  -- each with its line's number, and all where there was no trouble, as on `Done`. The log replays, and its parts are those of the asks, each followed by a drain;
  -- the text has the texts of its events, and the answers that are no replies at their places. The clock has the words' step.
  pub asks : ForScript left (λ bytes. IfSome (live_options_of words) (λ options. IsDriven tells.store options.step (asks_in bytes) ended.end))
  pub all_asked : ended.status ≡ status.Done → ended.end.trouble ≡ None
  -- The rows kept are the last state's. They stand in the store that the words name.
  pub rows : HoldsRowsOf ended.end.table.last (tells.store ended.end.table.keeper)
  pub store : IsAtMost (option_map (λ options. options.store) (live_options_of words)) (tells.store ended.end.table.keeper).name
  -- The bytes written are a front of the text, and on `Done` all of it.
  pub bytes : IsWritten (tells.given sink) (tells.given ended.sink) ended.status ended.end.text.items

-- The promise of a test driver with these words and workers, whose source was and is as told, which was given this keeper and this sink, and came to
-- this.
pub record IsLiveRun {K W B S : Type 0} (tells : Tells K W B) (source : Reads S) (words : List (List ℕ)) (workers : List (Hand B)) (before now : S)
    (keeper : K) (sink : W) (came : Result (LiveEnded K W B) (NotBegun K W B)) : Type 0 where
  pub begun : IfOk came (HasLived tells (source.left before) words workers keeper sink)
  -- Where no table was begun, the rows held are those of before, nothing is written, and the workers come back. That the commit of the opening was refused
  -- is said where it was, of rows that are sound and change by it; where it isn't said, nothing was committed.
  pub not_begun : IfErr came (IsUntouched tells workers keeper sink)
  -- Rows that the keeper told are told in the end, unless it is lost then.
  pub keeps_telling : KeepsTelling (tells.store keeper) (tells.store (keeper_of came))
  -- At most one byte more than a script may have is read.
  pub reads : IsTakenWithin (most_script_bytes + 1) (source.left before) (source.left now)
  -- The causes: when each status comes. Memory alone is free.
  pub causes : IsCaused tells source (live_options_of words) before now keeper (keeper_of came) sink (sink_of came) (status_of came)
  -- A driver that was begun ends with `Done`, `SinkFault`, `KeeperFault` or `Memory`; the first two come only then.
  pub statuses : IsEndStatus came
