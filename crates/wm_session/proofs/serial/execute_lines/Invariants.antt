use Rattle.std.proofs.Common.{◌≡◌, true, List, None, length}
use Rattle.wm_session.proofs.Words.{Command, Hand, IsBetweenRuns, IsQuiet, IsReady, KeepBoxes, drains_first}
use Rattle.wm_session.proofs.serial.execute_lines.Given as goal

-- the book is at rest before each line, which may come where the log was in order, and nothing is left to do where no line is left, or
-- the next one settles
abbrev pub invariant-lines : goal.invariant-lines
invariant-lines g l = record {
  rest : IsBetweenRuns l.book;
  quiet : l.book.status ≡ None → drains_first l.book.left ≡ true → IsQuiet l.book.table.state;
  order : (lines : List Command) → IsReady lines l.fn.book → IsReady lines l.book;
  boxes : (given : List (Hand g.row.B.Denot)) → KeepBoxes g.B.Worker.diary_of given l.fn.book → KeepBoxes g.B.Worker.diary_of given l.book;
}

abbrev pub decreases-lines : goal.decreases-lines
decreases-lines g l = length l.book.left
