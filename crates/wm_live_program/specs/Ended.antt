-- How a test driver ends whose asks were read, and what comes back where none was opened.
use Rattle.std.specs.Prelude.{◌≡◌, ℕ, List, Option, None, Result, Ok, Err}
use Rattle.wm_asks.specs.declared.ask.Ask.{Ask}
use Rattle.wm_beginning.specs.Caused.{IsCausedOnceRead}
use Rattle.wm_beginning.specs.NotBegun.{IsNotBegunStatus}
use Rattle.wm_beginning.specs.Over.{IsOpenedFrom}
use Rattle.wm_bench.specs.declared.hand.Hand.{Hand}
use Rattle.wm_ended.specs.Ended.{IsPartAppended, IsSessionStatus}
use Rattle.wm_ended.specs.Tells.{Tells}
use Rattle.wm_ended.specs.declared.not_begun.NotBegun.{NotBegun}
use Rattle.wm_ended.specs.declared.status.Status.{Status}
use Rattle.wm_ended.specs.declared.status.Status.TheVariants as status
use Rattle.wm_io.specs.Writing.{IsAppended}
use Rattle.wm_keeper.specs.Store.{GoesOn, IsAtMost}
use Rattle.wm_keeper.specs.declared.row.Row.{Row}
use Rattle.wm_live_program.specs.Driven.{IsDriven}
use Rattle.wm_live_program.specs.declared.ended.LiveEnded.{LiveEnded}
use Rattle.wm_seating.specs.Hands.{instances_from}
use Rattle.wm_engine.specs.Rows.{HoldsRowsOf}

-- ---- what comes back

-- the status, the keeper and the sink, whether a table was begun or wasn't
abbrev pub status_of : {K W B : Type 0} → Result (LiveEnded K W B) (NotBegun K W B) → Status
status_of (Ok ended) = ended.status
status_of (Err back) = back.status

abbrev pub keeper_of : {K W B : Type 0} → Result (LiveEnded K W B) (NotBegun K W B) → K
keeper_of (Ok ended) = ended.end.table.keeper
keeper_of (Err back) = back.keeper

abbrev pub sink_of : {K W B : Type 0} → Result (LiveEnded K W B) (NotBegun K W B) → W
sink_of (Ok ended) = ended.sink
sink_of (Err back) = back.sink

-- ---- where a table was begun

-- a front of this text came to the end of what the sink was given, and all of it on `Done`
pub record IsWritten (before now : Option (List ℕ)) (ended : Status) (text : List ℕ) : Type 0 where
  pub front : IsPartAppended before now text
  pub all : ended ≡ status.Done → IsAppended before now text

-- A driver that was asked these with a clock of this step, over a table that was opened from these rows, where they are told, with these workers,
-- and which was given this keeper, ended so: its log replays from there, on `Done` it answered all, the rows kept are those of its last state, in the store
-- of this name, where it is told; and its text was written to this sink. Each status has its cause.
pub record HasEnded {K W B : Type 0} (tells : Tells K W B) (step : ℕ) (asks : List Ask) (hands : List (Hand B)) (name : Option (List ℕ))
    (held : Option (List Row)) (keeper : K) (sink : W) (ended : LiveEnded K W B) : Type 0 where
  pub opened : IsOpenedFrom held (instances_from tells.kind_of 0 hands) ended.end.table.first
  pub driven : IsDriven tells.store step asks ended.end
  pub all_asked : ended.status ≡ status.Done → ended.end.trouble ≡ None
  pub rows : HoldsRowsOf ended.end.table.last (tells.store ended.end.table.keeper)
  pub store_is : IsAtMost name (tells.store ended.end.table.keeper).name
  pub bytes : IsWritten (tells.given sink) (tells.given ended.sink) ended.status ended.end.text.items
  pub status_is : IsSessionStatus ended.status
  pub causes : IsCausedOnceRead tells held keeper ended.end.table.keeper sink ended.sink ended.status
  pub goes_on : GoesOn (tells.store keeper) (tells.store ended.end.table.keeper)

-- ---- statuses

-- with which statuses a driver ends whose table was begun, and with which nothing is begun
abbrev pub IsEndStatus : {K W B : Type 0} → Result (LiveEnded K W B) (NotBegun K W B) → Type 0
IsEndStatus (Ok ended) = IsSessionStatus ended.status
IsEndStatus (Err back) = IsNotBegunStatus back.status
