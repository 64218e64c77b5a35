use Rattle.std.proofs.Common.{◌≡◌, None, ap, refl, subst, sym}
use Rattle.wm_session.proofs.Words.{IsNoLine, IsReturned, IsUntouched-same, TableState, TicketState, WasOut, away-out, without}
use Rattle.wm_session.proofs.BookReports.{HasLeft-late, IsEvent-over}
use Rattle.wm_session.proofs.BookSteps.{BookInvariant-made, exact_now}
use Rattle.wm_session.proofs.BookStops.{BookInvariant-refused, HasStopped-before, IsGivenBack-stopped, IsReported-late, stays_going}
use Rattle.wm_session.proofs.book.Book.end_refused.Goals as goal
use Rattle.wm_engine.specs.declared.trouble.Trouble.TheVariants as trouble
use Rattle.wm_session.specs.declared.book.Stop.TheVariants as why

-- ---- the run was stopped

pub give-requires : goal.give-requires
give-requires g c =
    let i = c.self.inside in
    let kept = c.self.invariant in
    away-out g.B.Worker.kind_of i.table.state i.table.roll c.args.ticket c.args.seat.number c.args.seat.worker i.bench kept.valid kept.workers kept.away.away
    c.requires.number c.requires.kind c.in-Ok.ensures.out

pub invariant_of-self : goal.invariant_of-self
invariant_of-self g c =
    let i = c.self.inside in
    let store = g.K.Keeper.store in
    let late = c.in-Ok.ensures in
    let left =
    HasLeft-late store c.args.ticket (IsReturned store c.args.ticket.task.run) i.table c.late.new.self c.self.invariant.valid late.returned late.returned
    late.out late.roll in
    BookInvariant-made left.ending c.self.invariant
    (IsEvent-over c.args.ticket c.args.seat c.self.invariant (subst (λ book. book.status ≡ None) (sym c.self.view_is) c.requires.going) left
    c.requires.number c.requires.kind c.give.ensures refl refl) c.tell_last-self-inside.ensures

pub returns-in-Ok : goal.returns-in-Ok
returns-in-Ok g c =
    let i = c.self.inside in
    let store = g.K.Keeper.store in
    let late = c.in-Ok.ensures in
    let left =
    HasLeft-late store c.args.ticket (IsReturned store c.args.ticket.task.run) i.table c.late.new.self c.self.invariant.valid late.returned late.returned
    late.out late.roll in
    rw (← c.self.view_is, c.over_told.ensures)
    (IsReported-late g.B.Worker.kind_of c.args.seat late.out late.roll c.give.ensures g.row.M.Denot _ c.tell_last-self-inside.result refl
    (record {
      before = subst (λ book. book.status ≡ None) (sym c.self.view_is) c.requires.going;
      made = left.made;
      left = refl;
      no_more = left.no_more;
    }) c.tell_last-self-inside.ensures.all)

-- ---- it wasn't

-- the ticket was out before it came back
was_out : {K : Type 0} (before now : TableState K) (ticket back : TicketState) → now ≡ before → back ≡ ticket → WasOut now.state now.roll back
    → WasOut before.state before.roll ticket
was_out before now ticket back table_is ticket_is out =
    subst (WasOut before.state before.roll) ticket_is (subst (λ (t : TableState _). WasOut t.state t.roll back) table_is out)

pub invariant_of-self-in-Err : goal.invariant_of-self-in-Err
invariant_of-self-in-Err g c =
    let store = g.K.Keeper.store in
    let same = c.in-Err.ensures.same in
    let going = subst (λ book. book.status ≡ None) (sym c.self.view_is) c.requires.going in
    BookInvariant-refused c.late.new.self trouble.Memory why.Memory c.self.invariant going (IsUntouched-same store IsNoLine _ _ same)
    (ap (λ (t : TableState _). (store t.keeper).faults) same) refl (rw same (exact_now _ going c.self.invariant.away))

pub returns-in-Err : goal.returns-in-Err
returns-in-Err g c =
    let same = c.in-Err.ensures in
    let going = subst (λ book. book.status ≡ None) (sym c.self.view_is) c.requires.going in
    rw (← c.self.view_is, c.put_back.ensures.book)
    (IsGivenBack-stopped _ _ c.args.ticket c.in-Err.ticket c.args.seat _ _
    (HasStopped-before _ _ _ same.same refl refl (stays_going _ _ going)) (λ before stopped. same.goes_on stopped)
    (ap (λ (t : TicketState). t.task.run) same.same_ticket) (ap (λ (t : TableState _). without c.args.ticket.task.run t.roll) same.same) refl
    (was_out c.self.inside.table c.late.new.self c.args.ticket c.in-Err.ticket same.same same.same_ticket c.put_back.ensures.out))
