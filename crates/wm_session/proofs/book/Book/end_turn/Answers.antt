use Rattle.std.proofs.Common.{◌≡◌, None, ap, refl, subst, sym, ◌∙◌, inr}
use Rattle.wm_session.proofs.Words.{HasGoneOn-roll, TicketState, away-out, exact-given_again, taken_again, without}
use Rattle.wm_session.proofs.BookReports.{HasLeft-by, IsEvent-over, IsEvent-turned, next_alike, no_more-turned}
use Rattle.wm_session.proofs.BookSteps.{BookInvariant-made, HasCause-turn, exact_now}
use Rattle.wm_session.proofs.BookStops.{BookInvariant-refused, IsGivenBack-stopped, IsReported-over, is_going, never_late, stays_going}
use Rattle.wm_machine.specs.declared.event.Event.TheVariants as event
use Rattle.wm_session.proofs.book.Book.end_turn.Goals as goal

-- ---- the run goes on

pub invariant_of-self : goal.invariant_of-self
invariant_of-self g c =
    let on = c.in-Go.ensures in
    BookInvariant-made (event.Turn c.args.ticket.task.run on.answer.progress) c.self.invariant
    (IsEvent-turned c.args.ticket c.in-Go.next c.args.told c.self.invariant (subst (λ book. book.status ≡ None) (sym c.self.view_is) c.requires.going)
    on.answer on.out.stands on.roll refl refl refl on.cause) c.tell_last-self-inside.ensures

pub invariant_of-self-else-is_some : goal.invariant_of-self-else-is_some
invariant_of-self-else-is_some g c =
    let on = c.in-Go.ensures in
    BookInvariant-made (event.Turn c.args.ticket.task.run on.answer.progress) c.self.invariant
    (IsEvent-turned c.args.ticket c.in-Go.next c.args.told c.self.invariant (subst (λ book. book.status ≡ None) (sym c.self.view_is) c.requires.going)
    on.answer on.out.stands on.roll refl refl refl on.cause) c.tell_last-self-inside.ensures

pub put_back-requires : goal.put_back-requires
put_back-requires g c =
    let on = c.in-Go.ensures in
    let alike = next_alike g.K.Keeper.store c.self.inside.table c.turn.new.self c.args.ticket c.in-Go.next c.args.told on.out.stands on.answer in
    record { stopped = sym c.if-is_some.ensures; number = c.requires.number ∙ sym alike.0; kind = c.requires.kind ∙ sym alike.1 }

pub returns-else-is_some : goal.returns-else-is_some
returns-else-is_some g c =
    let i = c.self.inside in
    let on = c.in-Go.ensures in
    let ticket = c.args.ticket in
    let goes = is_going c.tell_last-self-inside.result c.if-is_some.ensures in
    let alike = next_alike g.K.Keeper.store i.table c.turn.new.self ticket c.in-Go.next c.args.told on.out.stands on.answer in
    rw (← c.self.view_is) (record {
      goes_on = record {
        before = subst (λ book. book.status ≡ None) (sym c.self.view_is) c.requires.going;
        now = goes;
        written = c.tell_last-self-inside.ensures.all goes;
      };
      turn = on.answer;
      instance = alike.0;
      kind = alike.1;
      seat_is = refl;
      out = on.out;
      roll = on.roll;
      places = refl;
      left = refl;
      no_more = no_more-turned g.K.Keeper.store ticket c.in-Go.next c.args.told i.table c.turn.new.self c.self.invariant.valid on.answer;
    })

pub returns-then-is_some : goal.returns-then-is_some
returns-then-is_some g c =
    let i = c.self.inside in
    let on = c.in-Go.ensures in
    let ticket = c.args.ticket in
    let next = c.in-Go.next in
    let now = c.turn.new.self in
    let store = g.K.Keeper.store in
    rw (← c.self.view_is, c.put_back.ensures.book) (record {
      how = inr (
        sym c.if-is_some.ensures,
        record {
          before = subst (λ book. book.status ≡ None) (sym c.self.view_is) c.requires.going;
          made = inr (next, HasGoneOn-roll store ticket next c.args.told i.table now (without next.task.run now.roll) on.answer);
          left = refl;
          no_more = no_more-turned store ticket next c.args.told i.table now c.self.invariant.valid on.answer;
        },
      );
      out = on.out;
      roll = (λ j. without (on.answer.same_run j) (on.roll j)) ∙ taken_again ticket i.table.roll;
      places = refl;
    })

-- ---- the run is over

pub give-requires : goal.give-requires
give-requires g c =
    let i = c.self.inside in
    let kept = c.self.invariant in
    let left = HasLeft-by g.K.Keeper.store c.args.ticket c.args.told i.table c.turn.new.self kept.valid c.turn.result c.in-Finished.is (record {
      answer_is = c.turn.ensures.answer;
      out = c.turn.ensures.out;
      roll = c.turn.ensures.roll;
      cause = c.turn.ensures.cause;
    }) in
    away-out g.B.Worker.kind_of i.table.state i.table.roll c.args.ticket c.args.seat.number c.args.seat.worker i.bench kept.valid kept.workers kept.away.away
    c.requires.number c.requires.kind left.out

pub invariant_of-self-in-Finished : goal.invariant_of-self-in-Finished
invariant_of-self-in-Finished g c =
    let left = HasLeft-by g.K.Keeper.store c.args.ticket c.args.told c.self.inside.table c.turn.new.self c.self.invariant.valid c.turn.result c.in-Finished.is
    (record { answer_is = c.turn.ensures.answer; out = c.turn.ensures.out; roll = c.turn.ensures.roll; cause = c.turn.ensures.cause }) in
    BookInvariant-made left.ending c.self.invariant
    (IsEvent-over c.args.ticket c.args.seat c.self.invariant (subst (λ book. book.status ≡ None) (sym c.self.view_is) c.requires.going) left
    c.requires.number c.requires.kind c.give.ensures refl refl) c.tell_last-self-inside-in-Finished.ensures

pub returns-in-Finished : goal.returns-in-Finished
returns-in-Finished g c =
    let left = HasLeft-by g.K.Keeper.store c.args.ticket c.args.told c.self.inside.table c.turn.new.self c.self.invariant.valid c.turn.result c.in-Finished.is
    (record { answer_is = c.turn.ensures.answer; out = c.turn.ensures.out; roll = c.turn.ensures.roll; cause = c.turn.ensures.cause }) in
    rw (← c.self.view_is, c.over_told.ensures)
    (IsReported-over g.B.Worker.kind_of c.args.seat left.out left.roll c.give.ensures g.row.M.Denot c.args.told c.tell_last-self-inside-in-Finished.result refl
    (record {
      before = subst (λ book. book.status ≡ None) (sym c.self.view_is) c.requires.going;
      made = left.made;
      left = refl;
      no_more = left.no_more;
    }) c.tell_last-self-inside-in-Finished.ensures.all)

-- ---- the table had trouble

pub invariant_of-self-in-Refused : goal.invariant_of-self-in-Refused
invariant_of-self-in-Refused g c =
    let i = c.self.inside in
    let kept = c.self.invariant in
    let refused = c.in-Refused in
    let going = subst (λ book. book.status ≡ None) (sym c.self.view_is) c.requires.going in
    BookInvariant-refused c.turn.new.self refused.trouble c.from.result kept going refused.ensures.answer.untouched
    (HasCause-turn g.row.M.Denot refused.ticket refused.told refused.trouble _ _ refused.ensures.cause) c.from.ensures
    (rw refused.ensures.roll (exact-given_again i.table.state i.table.roll c.args.ticket kept.valid refused.ensures.out.stands (exact_now _ going kept.away)))

pub put_back-requires-in-Refused : goal.put_back-requires-in-Refused
put_back-requires-in-Refused g c =
    let same = c.in-Refused.ensures.answer.same_ticket in
    record {
      stopped = refl;
      number = c.requires.number ∙ ap (λ (t : TicketState). t.instance) (sym same);
      kind = c.requires.kind ∙ ap (λ (t : TicketState). t.kind) (sym same);
    }

pub returns-in-Refused : goal.returns-in-Refused
returns-in-Refused g c =
    let i = c.self.inside in
    let ticket = c.args.ticket in
    let refused = c.in-Refused in
    let answer = refused.ensures.answer in
    let going = subst (λ book. book.status ≡ None) (sym c.self.view_is) c.requires.going in
    rw (← c.self.view_is, c.put_back-in-Refused.ensures.book)
    (IsGivenBack-stopped _ _ ticket refused.ticket c.args.seat _ _
    (record { status = refl; stays = stays_going _ _ going; table = answer.untouched; left = refl }) (λ before. never_late ticket c.args.told i.table.state answer.counts)
    (ap (λ (t : TicketState). t.task.run) answer.same_ticket) (ap (without ticket.task.run) refused.ensures.roll ∙ taken_again ticket i.table.roll) refl
    refused.ensures.out)
