use Rattle.std.proofs.Common.{sym}
use Rattle.wm_session.proofs.BookStops.{IsReported-before}
use Rattle.wm_session.proofs.book.Book.report.Goals as goal

pub returns-then-is_some : goal.returns-then-is_some
returns-then-is_some g c =
    rw (c.put_back.ensures.book, ← c.self.view_is)
    (IsReported-before g.row.M.Denot g.K.Keeper.store g.B.Worker.kind_of c.args.ticket c.args.seat c.args.told _ (sym c.if-is_some.ensures)
    (rw (← c.self.view_is) at c.put_back.ensures.out))
