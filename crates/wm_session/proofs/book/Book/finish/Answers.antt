use Rattle.std.proofs.Common.{◌≡◌, [], None, refl, sym, subst}
use Rattle.wm_session.proofs.Words.{StopCause, pending_text}
use Rattle.wm_session.proofs.BookEnds.{HasCommands-kept, IsSessionStatus-ends, IsTextWritten-kept, keeper_fault-ends, sink_fault-ends}
use Rattle.wm_session.proofs.BookImages.{images-ended}
use Rattle.wm_session.proofs.book.Book.finish.Goals as goal

pub returns-clause-session : goal.returns-clause-session
returns-clause-session g c =
    let run = g.M.Mark.inputs in
    let stop = c.self.inside.status in
    let kept = c.self.invariant in
    let last = c.end-first in
    let ended = c.status_after-status.result in
    let ends = c.status_after-status.ensures in
    let wrote = c.tell_rest-written in
    let before = g.W.Sink.faults c.self.inside.sink in
    let keeper_now = (g.K.Keeper.store last.result.keeper).faults in
    let cause = subst (λ keeper. StopCause stop run.store.faults (g.K.Keeper.store keeper).faults run.sink_faults before) (sym last.ensures.keeper)
    kept.cause in
    record {
      status_is = IsSessionStatus-ends stop wrote.result ended ends;
      began = refl;
      at_opening = refl;
      opened = last.ensures.opened;
      replay = last.ensures.replay;
      commands = HasCommands-kept ended last.result.log kept last.ensures.log ends.stopped
          (subst (λ book. book.status ≡ None → book.left ≡ []) (sym c.self.view_is) c.requires.lines);
      bytes = IsTextWritten-kept ended last.result.first last.result.log (g.W.Sink.given wrote.new.sink) (pending_text c.self.inside.table wrote.new.pending)
          wrote.result kept
          last.ensures.first last.ensures.log wrote.ensures.told wrote.ensures.all ends;
      rows = last.ensures.rows;
      tells_on = last.ensures.tells_on;
      keeper_fault = keeper_fault-ends stop wrote.result ended run.store.faults keeper_now run.sink_faults before ends cause;
      sink_fault = sink_fault-ends stop wrote.result ended run.store.faults keeper_now run.sink_faults before (g.W.Sink.faults wrote.new.sink) ends
          cause wrote.ensures.cause kept.sink_later;
      images = λ settled.
          rw (last.ensures.last, last.ensures.log, last.ensures.keeper)
          (images-ended run.lines c.self.inside.table.state c.self.inside.table.log stop wrote.result ended
          (g.K.Keeper.store c.self.inside.table.keeper) ends (kept.images settled));
    }

pub returns-clause-written : goal.returns-clause-written
returns-clause-written g c =
    let wrote = c.tell_rest-written in
    rw (← c.self.view_is) (record {
      answer = wrote.result;
      left = pending_text c.self.inside.table wrote.new.pending;
      given = wrote.ensures.told;
      all = wrote.ensures.all;
      cause = wrote.ensures.cause;
      ends = c.status_after-status.ensures;
    })
