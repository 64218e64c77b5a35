-- A book between the runs of a session, and when its log is in serial order.
use Rattle.std.specs.Prelude.{◌≡◌, ◌⊎◌, ℕ, ◌≤◌, List, [], length, map, Option, None}
use Rattle.wm_bench.specs.Places.{idle_hands, place_of}
use Rattle.wm_bench.specs.declared.hand.Hand.{Hand}
use Rattle.wm_machine.specs.Quiet.{IsQuiet}
use Rattle.wm_machine.specs.Replay.{Replay}
use Rattle.wm_machine.specs.Serial.{AreInOrder, MayGoOn}
use Rattle.wm_machine.specs.declared.command.Command.{Command}
use Rattle.wm_seating.specs.Bench.{NoneAway}
use Rattle.wm_session.specs.BookState.{BookState}
use Rattle.wm_session.specs.Boxes.{EachAtPlace, HasTold, IsBoxAfter}
use Rattle.wm_worker.specs.declared.answer.Entry.{Entry}

-- a session that begins: nothing has happened, no ticket is out, every worker is at its place, and all of these lines are left
pub record IsAtBegin {K W B : Type 0} (lines : List Command) (book : BookState K W B) : Type 0 where
  pub log : book.table.log ≡ []
  pub no_run : book.table.state.runs ≡ []
  pub none_out : book.table.roll ≡ []
  pub all_idle : book.places ≡ map place_of (idle_hands book.places)
  pub begun : book.table.state ≡ book.table.first
  pub lines_are : lines ≡ book.left

-- the log replays, no ticket is out and no worker away, and while the session goes on no run is unreturned
pub record IsBetweenRuns {K W B : Type 0} (book : BookState K W B) : Type 0 where
  pub replay : Replay book.table.first book.table.log book.table.state
  pub no_run : book.status ≡ None → book.table.state.runs ≡ []
  pub none_out : book.table.roll ≡ []
  pub none_away : NoneAway book.places

-- ---- the workers

-- a worker is what the log leaves of the one that was given under this number, and while the session goes on it has written down its part of
-- the log
pub record IsOfGiven {K W B : Type 0} (diary_of : B → Option (List Entry)) (book : BookState K W B) (number : ℕ) (given now : B) : Type 0 where
  pub box : IsBoxAfter diary_of book.table.log number given now
  pub told : book.status ≡ None → HasTold diary_of book.table.first book.table.log number given now

-- so is each worker that is at its place, of these hands
abbrev pub KeepBoxes : {K W B : Type 0} → (B → Option (List Entry)) → List (Hand B) → BookState K W B → Type 0
KeepBoxes diary_of given book = EachAtPlace (IsOfGiven diary_of book) given book.places

-- ---- the serial order

-- the log is in serial order over these lines, from a state without runs, and at most one run is unreturned
pub record IsInOrder {K W B : Type 0} (lines : List Command) (book : BookState K W B) : Type 0 where
  pub in_order : AreInOrder lines book.table.first book.table.log
  pub few_runs : length book.table.state.runs ≤ 1
  pub from_rest : book.table.first.runs ≡ []

-- the log is in order, and while the session goes on runs may start
pub record GoesInOrder {K W B : Type 0} (lines : List Command) (book : BookState K W B) : Type 0 where
  pub order : IsInOrder lines book
  pub may_go_on : book.status ≡ None → MayGoOn lines book.table.log

-- the log is in order, and while the session goes on a line may come, and runs may start where none is left: nothing is left to do, or
-- nothing has happened and all of these lines are left
pub record IsReady {K W B : Type 0} (lines : List Command) (book : BookState K W B) : Type 0 where
  pub order : IsInOrder lines book
  pub next : book.status ≡ None → (IsQuiet book.table.state × MayGoOn lines book.table.log) ⊎ ((book.table.log ≡ []) × (lines ≡ book.left))
