use Rattle.wm_session.proofs.BookSteps.{IsBetweenRuns-rests}
use Rattle.wm_ended.specs.Tells.{tells_of}
use Rattle.wm_session.proofs.book.Book.drains_first.Goals as goal

-- no ticket is out
pub returns-then-is_empty-clause-rest : goal.returns-then-is_empty-clause-rest
returns-then-is_empty-clause-rest g c none =
    let i = c.self.inside in
    let tells = tells_of g.K.Keeper.store g.W.Sink.given g.W.Sink.faults g.B.Worker.kind_of g.B.Worker.diary_of in
    rw (← c.self.view_is)
    (IsBetweenRuns-rests g.M.Mark.inputs tells
    (record { table = i.table; places = i.bench; left = i.left.items; line = i.line; pending = i.pending; sink = i.sink; status = i.status })
    c.self.invariant (rw (← c.self.view_is) at none))

pub returns-else-is_empty-clause-rest : goal.returns-else-is_empty-clause-rest
returns-else-is_empty-clause-rest g c none =
    let i = c.self.inside in
    let tells = tells_of g.K.Keeper.store g.W.Sink.given g.W.Sink.faults g.B.Worker.kind_of g.B.Worker.diary_of in
    rw (← c.self.view_is)
    (IsBetweenRuns-rests g.M.Mark.inputs tells
    (record { table = i.table; places = i.bench; left = i.left.items; line = i.line; pending = i.pending; sink = i.sink; status = i.status })
    c.self.invariant (rw (← c.self.view_is) at none))

-- the lines that are left may be asked
pub returns-then-is_empty-clause-askable : goal.returns-then-is_empty-clause-askable
returns-then-is_empty-clause-askable g c = rw (← c.self.view_is) c.self.invariant.askable

pub returns-else-is_empty-clause-askable : goal.returns-else-is_empty-clause-askable
returns-else-is_empty-clause-askable g c = rw (← c.self.view_is) c.self.invariant.askable
