-- What driving a run to its end does.
use Rattle.std.specs.Prelude.{◌≡◌, ℕ, ◌+◌, ◌<◌, ◌≤◌, true, List, [], slice_get, Option, Some, None, IsSomeAnd}
use Rattle.wm_bench.specs.Places.{changed_at, made_back, IsAwayAt}
use Rattle.wm_bench.specs.Seat.{Seat}
use Rattle.wm_bench.specs.declared.hand.Hand.{Hand}
use Rattle.wm_collections.specs.Lists.{HasOne}
use Rattle.wm_machine.specs.Diaries.{log_lines, IsDiaryWith}
use Rattle.wm_machine.specs.Replay.{Replay}
use Rattle.wm_machine.specs.Runs.{other_runs}
use Rattle.wm_machine.specs.Waiting.{left_to_drain}
use Rattle.wm_machine.specs.declared.command.Command.{Command}
use Rattle.wm_seating.specs.Bench.{NoneAway}
use Rattle.wm_session.specs.BookState.{BookState}
use Rattle.wm_session.specs.Boxes.{IsDiaryLater, IsStartOn}
use Rattle.wm_session.specs.BetweenRuns.{GoesInOrder, IsBetweenRuns, KeepBoxes}
use Rattle.wm_roll.specs.Parts.{without}
use Rattle.wm_runs.specs.Reports.{IsOut}
use Rattle.wm_engine.specs.Calls.{IsTicketIn}
use Rattle.wm_engine.specs.TableState.{TicketState}
use Rattle.wm_worker.specs.declared.answer.Entry.{Entry}
use Rattle.wm_worker.specs.declared.kind.Kind.{Kind}

-- ---- a run under way

-- The run of a ticket is under way: the log replays, the run is current, no other run is unreturned and no other ticket out, the worker of its instance is away, and
-- once it is back none is.
pub record IsUnderWay {K W B : Type 0} (kind_of : B → Kind) (ticket : TicketState) (book : BookState K W B) : Type 0 where
  pub replay : Replay book.table.first book.table.log book.table.state
  pub ticket_in : IsTicketIn book.table.state ticket
  pub current : IsOut book.table.state ticket.task.run true
  pub alone : other_runs ticket.task.run book.table.state.runs ≡ []
  pub alone_out : without ticket.task.run book.table.roll ≡ []
  pub away : IsAwayAt ticket.instance ticket.kind book.places
  pub others : (back : B) → NoneAway (changed_at (made_back kind_of back) ticket.instance book.places)

-- a worker that is away was given under this number, a run started on it, its diary begins with what it was, and while the session goes on it
-- is to have written down its part of the log
pub record IsOutOfGiven {K W B : Type 0} (diary_of : B → Option (List Entry)) (has owes : Option (List Entry)) (book : BookState K W B) (number : ℕ)
    (given : B) : Type 0 where
  pub started : HasOne (IsStartOn number) book.table.log
  pub diary : IsDiaryLater (diary_of given) has
  pub told : book.status ≡ None → IsDiaryWith (log_lines number book.table.first book.table.log) (diary_of given) owes

-- each worker is what the log leaves of the one that was given, of these hands; the one that is away from this place has the first of these
-- diaries, and is to have the second
pub record KeepBoxesOut {K W B : Type 0} (diary_of : B → Option (List Entry)) (number : ℕ) (has owes : Option (List Entry)) (given : List (Hand B))
    (book : BookState K W B) : Type 0 where
  pub others : KeepBoxes diary_of given book
  pub own : IsSomeAnd (slice_get given number) (λ hand. IsOutOfGiven diary_of has owes book number hand.worker)

-- ---- all turns

-- A run was driven to its end, whose worker was away from this place, had the first of these diaries, and was to have the second: the book is
-- at rest with the lines that were left, no more works are left to drain, and order and workers are kept.
pub record IsDriven {K W B : Type 0} (diary_of : B → Option (List Entry)) (number : ℕ) (has owes : Option (List Entry)) (old new : BookState K W B)
    : Type 0 where
  pub rest : IsBetweenRuns new
  pub left : new.left ≡ old.left
  pub no_more : left_to_drain new.table.state ≤ left_to_drain old.table.state
  pub order : (lines : List Command) → GoesInOrder lines old → GoesInOrder lines new
  pub boxes : (given : List (Hand B)) → KeepBoxesOut diary_of number has owes given old → KeepBoxes diary_of given new

-- ---- one turn

-- The run goes on with this ticket, which is at the next turn of at most 1,000, and this seat: it is under way still, and what drives it to its
-- end from there has driven it from here.
pub record GoesOnWith {K W B : Type 0} (kind_of : B → Kind) (diary_of : B → Option (List Entry)) (ticket : TicketState) (worker : B)
    (next : TicketState) (seat : Seat B) (old new : BookState K W B) : Type 0 where
  pub next_is : next ≡ record ticket { k = ticket.k + 1 }
  pub turns_left : next.k < 1000
  pub under_way : IsUnderWay kind_of next new
  pub number : seat.number ≡ ticket.instance
  pub kind : kind_of seat.worker ≡ ticket.kind
  pub further : (last : BookState K W B) → IsDriven diary_of next.instance (diary_of seat.worker) (diary_of seat.worker) new last
      → IsDriven diary_of ticket.instance (diary_of worker) (diary_of worker) old last

-- the worker of a run took a turn: the run was driven to its end, or goes on
abbrev pub IsTurned : {K W B : Type 0} → (B → Kind) → (B → Option (List Entry)) → TicketState → B → Option (TicketState × Seat B)
    → BookState K W B → BookState K W B → Type 0
IsTurned kind_of diary_of ticket worker None old new = IsDriven diary_of ticket.instance (diary_of worker) (diary_of worker) old new
IsTurned kind_of diary_of ticket worker (Some run) old new = GoesOnWith kind_of diary_of ticket worker run.0 run.1 old new
