use Rattle.wm_seating.proofs.Seats.{away-out}
use Rattle.wm_session.proofs.BookStops.{BookInvariant-put_back}
use Rattle.wm_session.proofs.book.Book.put_back.Goals as goal

pub give_back-requires : goal.give_back-requires
give_back-requires g c =
    let i = c.self.inside in
    let kept = c.self.invariant in
    record {
      away = λ out.
          away-out g.B.Worker.kind_of i.table.state i.table.roll c.args.ticket c.args.seat.number c.args.seat.worker i.bench kept.valid kept.workers kept.away.away
          c.requires.number c.requires.kind out;
    }

pub invariant_of-self : goal.invariant_of-self
invariant_of-self g c =
    let back = c.give_back in
    BookInvariant-put_back back.new.table back.new.bench c.args.ticket c.args.seat c.self.invariant (rw (← c.self.view_is) at c.requires.stopped)
    c.requires.number c.requires.kind back.ensures.out back.ensures.table back.ensures.places
