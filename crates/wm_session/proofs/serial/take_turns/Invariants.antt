use Rattle.std.proofs.Common.{◌≡◌, ◌-◌, true}
use Rattle.wm_session.proofs.Words.{BookState, IsDriven, IsUnderWay}
use Rattle.wm_session.proofs.serial.take_turns.Given as goal

-- the run is under way, and what drives it to its end from here has driven it from the first turn on
abbrev pub invariant-turns : goal.invariant-turns
invariant-turns g l = record {
  under_way : IsUnderWay g.B.Worker.kind_of l.ticket l.book;
  number : l.seat.number ≡ l.ticket.instance;
  kind : g.B.Worker.kind_of l.seat.worker ≡ l.ticket.kind;
  signal_is : l.signal ≡ record { run = l.ticket.task.run; never = true };
  driven : (new : BookState g.row.K.Denot g.row.W.Denot g.row.B.Denot)
      → IsDriven g.B.Worker.diary_of l.ticket.instance (g.B.Worker.diary_of l.seat.worker) (g.B.Worker.diary_of l.seat.worker) l.book new
      → IsDriven g.B.Worker.diary_of l.fn.ticket.instance (g.B.Worker.diary_of l.fn.seat.worker) (g.B.Worker.diary_of l.fn.seat.worker) l.fn.book new;
}

-- the turns left
abbrev pub decreases-turns : goal.decreases-turns
decreases-turns g l = 1000 - l.ticket.k
