use Rattle.std.proofs.Common.{◌≡◌, List}
use Rattle.wm_session.proofs.Words.{Command, GoesInOrder, Hand, IsBetweenRuns, KeepBoxes, left_to_drain}
use Rattle.wm_session.proofs.serial.drain.Given as goal

-- the book is at rest again after each start
abbrev pub invariant-starts : goal.invariant-starts
invariant-starts g l = record {
  rest : IsBetweenRuns l.book;
  left : l.book.left ≡ l.fn.book.left;
  order : (lines : List Command) → GoesInOrder lines l.fn.book → GoesInOrder lines l.book;
  boxes : (given : List (Hand g.row.B.Denot)) → KeepBoxes g.B.Worker.diary_of given l.fn.book → KeepBoxes g.B.Worker.diary_of given l.book;
}

abbrev pub decreases-starts : goal.decreases-starts
decreases-starts g l = left_to_drain l.book.table.state
