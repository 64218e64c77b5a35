-- A book after the end of a run, and after a turn by which it goes on.
use Rattle.std.proofs.Common.{◌≡◌, ◌≤◌, [], Option, None, IsSomeAnd, refl, sym, ◌∙◌, ap, subst, inl, inr}
use Rattle.wm_session.proofs.Words.{BookInvariant, BookState, Event, HasGoneOn, Inputs, IsAwayAt, IsEndOf, IsOneStep, IsOverAnswer, IsReturned, IsTurnAnswer, IsTurnOver, LeavesOf, Part, Report, Run, Seat, Stands, Store, TableState, Tells, TicketState, TurnCause, Valid, WasOut, after, away-out, changed_at, command_in, frame_of, kept_by, left_to_drain, made_back, part_of, part_standing, placed-end, role_of, rolled-end, run_numbered, silent_end, ticket-found, ticket_part, turned_found, without}
use Rattle.wm_session.proofs.BookSteps.{IsEvent, IsEvent-silent}
use Rattle.wm_session.proofs.BoxLemmas.{IsSomeAnd-weaker}
use Rattle.wm_engine.specs.Rolls.{IsRollTurned, WasOutWhereTaken, given_again}
use Rattle.wm_engine.specs.declared.engine.TurnAnswer.{TurnAnswer}
use Rattle.wm_machine.specs.declared.event.Event.TheVariants as event
use Rattle.wm_session.specs.Book as book

-- ---- a run that is over

-- the run of a ticket is over by an event, which is this to the table
pub record HasLeft {K : Type 0} (store : K → Store) (ticket : TicketState) (event : TableState K → TableState K → Type 0) (old new : TableState K)
    : Type 0 where
  pub ending : Event
  pub step : IsOneStep store ending old new
  pub silent : command_in ending ≡ []
  pub ends : IsEndOf ticket.task.run (role_of ending)
  pub made : event old new
  pub out : WasOut old.state old.roll ticket
  pub roll : new.roll ≡ without ticket.task.run old.roll
  pub no_fault : (store new.keeper).faults ≡ (store old.keeper).faults
  pub no_more : left_to_drain new.state ≤ left_to_drain old.state

-- it was stopped
pub HasLeft-late : {K : Type 0} (store : K → Store) (ticket : TicketState) (event : TableState K → TableState K → Type 0) (old new : TableState K)
    → Valid old.state → IsReturned store ticket.task.run old new → event old new → WasOut old.state old.roll ticket
    → new.roll ≡ without ticket.task.run old.roll → HasLeft store ticket event old new
HasLeft-late store ticket event_is old new valid returned made out roll = record {
  ending = event.Late ticket.task.run;
  step = returned.step;
  silent = refl;
  ends = refl;
  made = made;
  out = out;
  roll = roll;
  no_fault = ap (λ keeper. (store keeper).faults) returned.keeper;
  no_more = rw returned.step.state ((kept_by old.state (event.Late ticket.task.run) valid returned.step.legal).left);
}

-- all that the table tells with its answer
pub record IsAnswered {K M : Type 0} (store : K → Store) (ticket : TicketState) (told : Report) (old new : TableState K) (answer : TurnAnswer M)
    : Type 0 where
  pub answer_is : IsTurnAnswer store ticket told answer old new
  pub out : WasOutWhereTaken old.state old.roll ticket answer
  pub roll : IsRollTurned ticket answer old.roll new.roll
  pub cause : TurnCause answer (store old.keeper).faults (store new.keeper).faults

module _ {K : Type 0} (store : K → Store) (ticket : TicketState) (told : Report) (old new : TableState K) (valid : Valid old.state) where
  -- its report ended it
  left_by_end : IsTurnOver store ticket told old new → WasOut old.state old.roll ticket
      → new.roll ≡ without ticket.task.run old.roll → (store new.keeper).faults ≡ (store old.keeper).faults
      → HasLeft store ticket (book.IsLast store ticket told) old new
  left_by_end over out roll no_fault =
      let ended = over.finished in
      record {
        ending = ended.ending;
        step = ended.step;
        silent = silent_end old.state ticket.task.run ended.reported ended.ending ended.ends ended.step.legal;
        ends = subst (IsEndOf ticket.task.run) (sym ended.ends) refl;
        made = inr over;
        out = out;
        roll = roll;
        no_fault = no_fault;
        no_more = rw ended.step.state
            (subst (λ r. LeavesOf r (left_to_drain old.state) (left_to_drain (after old.state ended.ending))) ended.ends
            (kept_by old.state ended.ending valid ended.step.legal).left);
      }

  pub HasLeft-by : {M : Type 0} (answer : TurnAnswer M) → IsOverAnswer answer → IsAnswered store ticket told old new answer
      → HasLeft store ticket (book.IsLast store ticket told) old new
  HasLeft-by answer (inl is) answered =
      let it = subst (IsAnswered store ticket told old new) is answered in left_by_end it.answer_is.0 it.out it.roll it.cause
  HasLeft-by answer (inr (inl is)) answered =
      let it = subst (IsAnswered store ticket told old new) is answered in left_by_end it.answer_is.0 it.out it.roll it.cause
  HasLeft-by answer (inr (inr is)) answered =
      let it = subst (IsAnswered store ticket told old new) is answered in
      HasLeft-late store ticket (book.IsLast store ticket told) old new valid it.answer_is (inl it.answer_is) it.out it.roll

-- ---- a run that goes on

-- the ticket of the next turn is on the instance of the one before, and of its kind
pub next_alike : {K : Type 0} (store : K → Store) (old new : TableState K) (ticket next : TicketState) (told : Report) → Stands old.state ticket
    → HasGoneOn store ticket told next old new → (next.instance ≡ ticket.instance) × (next.kind ≡ ticket.kind)
next_alike store old new ticket next told stands on =
    let its = on.step.legal.report in
    let alike = subst (λ found. IsSomeAnd found (λ run. (run.instance ≡ ticket.instance) × (run.kind ≡ ticket.kind))) its.is_running stands in
    let of_next = ticket-found next on.ticket_in (turned_found store ticket next told old new on) in
    (ap (λ (t : TicketState). t.instance) of_next ∙ alike.0, ap (λ (t : TicketState). t.kind) of_next ∙ alike.1)

-- it leaves no more to drain
pub no_more-turned : {K : Type 0} (store : K → Store) (ticket next : TicketState) (told : Report) (old new : TableState K) → Valid old.state
    → HasGoneOn store ticket told next old new → left_to_drain new.state ≤ left_to_drain old.state
no_more-turned store ticket next told old new valid on =
    rw on.step.state (kept_by old.state (event.Turn ticket.task.run on.progress) valid on.step.legal).left

module _ {K W B : Type 0} {run : Inputs} {tells : Tells K W B} where
  pub IsEvent-over : {old new : BookState K W B} {event : TableState K → TableState K → Type 0} (ticket : TicketState) (seat : Seat B)
      → BookInvariant run tells old → old.status ≡ None → (left : HasLeft tells.store ticket event old.table new.table)
      → seat.number ≡ ticket.instance → tells.kind_of seat.worker ≡ ticket.kind
      → new.places ≡ changed_at (made_back tells.kind_of seat.worker) seat.number old.places → new.left ≡ old.left → new.line ≡ old.line
      → IsEvent tells left.ending old new
  IsEvent-over {old = old} {new = new} ticket seat kept going has_left number kind are left line =
      let s = old.table.state in
      let worker = seat.worker in
      let e = has_left.ending in
      let away =
      away-out tells.kind_of s old.table.roll ticket seat.number worker old.places kept.valid kept.workers kept.away.away number kind has_left.out in
      IsEvent-silent e kept going has_left.step has_left.silent left line has_left.no_fault
      (placed-end tells.kind_of ticket.task.run (role_of e) s old.places new.places has_left.ends
      (IsSomeAnd-weaker (run_numbered ticket.task.run s.runs)
      (λ run its. (
        worker,
        subst (λ n. IsAwayAt n (tells.kind_of worker) old.places) (number ∙ sym its.0) away,
        are ∙ ap (λ n. changed_at (made_back tells.kind_of worker) n old.places) (number ∙ sym its.0),
      )) has_left.out.stands))
      (rolled-end ticket.task.run (role_of e) s (frame_of s e) old.table.roll new.table.roll has_left.ends has_left.roll)

  pub IsEvent-turned : {old new : BookState K W B} (ticket next : TicketState) (told : Report) → BookInvariant run tells old → old.status ≡ None
      → (on : HasGoneOn tells.store ticket told next old.table new.table) → Stands old.table.state ticket
      → new.table.roll ≡ given_again (ticket_part ticket) old.table.roll → new.places ≡ old.places → new.left ≡ old.left → new.line ≡ old.line
      → (tells.store new.table.keeper).faults ≡ (tells.store old.table.keeper).faults
      → IsEvent tells (event.Turn ticket.task.run on.progress) old new
  IsEvent-turned {old = old} {new = new} ticket next told kept going on stands roll places left line no_fault =
      let s = old.table.state in
      let its = on.step.legal.report in
      IsEvent-silent (event.Turn ticket.task.run on.progress) kept going on.step refl left line no_fault places
      (subst (λ (o : Option Run). IsSomeAnd o (λ run. new.table.roll ≡ given_again (part_of run) old.table.roll)) (sym its.is_running)
      (roll ∙ ap (λ (part : Part). given_again part old.table.roll) (sym (part_standing s ticket its.run its.is_running stands))))
