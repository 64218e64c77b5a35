use Rattle.std.proofs.Common.{◌≡◌, ℕ, Option, None, refl, sym, ap, subst, ◌∙◌, ◌++◌, ◌∷◌, []}
use Rattle.wm_session.proofs.Words.{BookState, Claim, IsTaken-at, IsTicketIn, State, TicketState, after, run_numbered, tells_of, ticket_part}
use Rattle.wm_session.proofs.BookClaims.{IsClaimStopped-back, IsClaimed-failed, IsStarted, claimed_idle, fewer_after, start_of, started_kind}
use Rattle.wm_session.proofs.BookSteps.{BookInvariant-made, HasCause-trouble, IsEvent-silent, exact_now}
use Rattle.wm_session.proofs.BookStops.{BookInvariant-refused, is_going}
use Rattle.wm_session.proofs.BoxLemmas.{IsSomeAnd-weaker}
use Rattle.wm_session.proofs.book.Book.start_first.Goals.{After-tell_last-self-inside}
use Rattle.wm_machine.specs.declared.event.Event.TheVariants as event
use Rattle.wm_session.proofs.book.Book.start_first.Goals as goal

pub unreachable-requires : goal.unreachable-requires
unreachable-requires g c =
    let ticket = c.in-Run.ticket in
    let run = rw (c.in-Ok-Some.field-0-is, c.in-Run.is) at c.in-Ok-Some.ensures.ok in
    claimed_idle c.claim.new.self ticket.task.run ticket.seq ticket.instance c.instance.result ticket.task.input c.self.invariant
    (subst (λ book. book.status ≡ None) (sym c.self.view_is) c.requires.going) run.step c.instance.ensures c.in_default.ensures.seat

-- ---- a run began

-- what that makes of the book, told or not
begun : (g : _) (c : After-tell_last-self-inside g) →
    let i = c.self.inside in
    let old : BookState g.row.K.Denot g.row.W.Denot g.row.B.Denot =
    record { table = i.table; places = i.bench; left = i.left.items; line = i.line; pending = i.pending; sink = i.sink; status = i.status } in
    let told = c.tell_last-self-inside in
    IsStarted (tells_of g.K.Keeper.store g.W.Sink.given g.W.Sink.faults g.B.Worker.kind_of g.B.Worker.diary_of) c.in-Run.ticket c.in-Some.seat old
    (record old { table = c.claim.new.self; places = c.take.new.self; pending = told.new.pending; sink = told.new.sink; status = told.result })
begun g c =
    let ticket = c.in-Run.ticket in
    let start = start_of ticket in
    let s = c.self.inside.table.state in
    let run = rw (c.in-Ok-Some.field-0-is, c.in-Run.is) at c.in-Ok-Some.ensures.ok in
    let roll = rw (c.in-Ok-Some.field-0-is, c.in-Run.is) at c.in-Ok-Some.ensures.roll in
    let taken = IsTaken-at ticket c.instance.result c.in-Some.seat c.instance.ensures c.in-Some.ensures.seat c.in-Some.ensures.taken in
    let there : IsTicketIn (after s start) ticket = subst (λ (t : State). IsTicketIn t ticket) run.step.state run.ticket_in in
    record {
      made = IsEvent-silent start c.self.invariant (subst (λ book. book.status ≡ None) (sym c.self.view_is) c.requires.going) run.step refl refl refl
          c.in-Ok-Some.ensures.cause (c.in-Some.seat.worker, taken.worker, taken.places_are)
          (IsSomeAnd-weaker (run_numbered ticket.task.run (after s start).runs)
          (λ run is. roll ∙ ap (λ (t : TicketState). c.self.inside.table.roll ++ ticket_part t ∷ []) is) there);
      ticket_in = run.ticket_in;
      roll = roll;
      taken = taken;
      left = refl;
    }

pub invariant_of-self-then-is_some : goal.invariant_of-self-then-is_some
invariant_of-self-then-is_some g c =
    let ticket = c.in-Run.ticket in
    let started = begun g (goal.at.invariant_of-self-then-is_some g c).After-tell_last-self-inside in
    BookInvariant-made (start_of ticket) c.self.invariant started.made c.tell_last-self-inside.ensures

pub invariant_of-self-else-is_some : goal.invariant_of-self-else-is_some
invariant_of-self-else-is_some g c =
    let ticket = c.in-Run.ticket in
    let started = begun g (goal.at.invariant_of-self-else-is_some g c).After-tell_last-self-inside in
    BookInvariant-made (start_of ticket) c.self.invariant started.made c.tell_last-self-inside.ensures

pub put_back-requires : goal.put_back-requires
put_back-requires g c =
    let ticket = c.in-Run.ticket in
    let started = begun g (goal.at.put_back-requires g c).After-tell_last-self-inside in
    record { stopped = sym c.if-is_some.ensures; number = started.taken.number; kind = started_kind ticket c.in-Some.seat c.self.invariant started }

pub returns-then-is_some : goal.returns-then-is_some
returns-then-is_some g c =
    let ticket = c.in-Run.ticket in
    let started = begun g (goal.at.returns-then-is_some g c).After-tell_last-self-inside in
    rw (← c.self.view_is, c.put_back.ensures.book)
    (IsClaimStopped-back g.row.M.Denot ticket c.in-Some.seat c.self.invariant started (sym c.if-is_some.ensures))

pub returns-else-is_some : goal.returns-else-is_some
returns-else-is_some g c =
    let ticket = c.in-Run.ticket in
    let started = begun g (goal.at.returns-else-is_some g c).After-tell_last-self-inside in
    let next : c.args.self.now.table.state.next_run ≡ ticket.task.run =
    ap (λ book. book.table.state.next_run) (sym c.self.view_is) ∙ sym started.made.step.legal.run_is in
    let signal_is = ap (λ (n : ℕ). record { run = n; never = c.args.signal.never }) (c.requires.signal ∙ next) in
    let goes = is_going c.tell_last-self-inside.result c.if-is_some.ensures in
    rw (← c.self.view_is) (record {
      goes_on = record { before = started.made.going; now = goes; written = c.tell_last-self-inside.ensures.all goes };
      step = started.made.step;
      ticket_in = started.ticket_in;
      roll = started.roll;
      number = started.taken.number;
      kind = started_kind ticket c.in-Some.seat c.self.invariant started;
      worker = started.taken.worker;
      places = started.taken.places_are;
      signal_is = signal_is;
      left = refl;
      fewer = fewer_after ticket c.in-Some.seat c.self.invariant started;
    })

-- ---- a work couldn't start

pub invariant_of-self-in-Failed : goal.invariant_of-self-in-Failed
invariant_of-self-in-Failed g c =
    let failed = c.in-Failed in
    let step = rw (c.in-Ok-Some.field-0-is, failed.is) at c.in-Ok-Some.ensures.ok in
    let roll = rw (c.in-Ok-Some.field-0-is, failed.is) at c.in-Ok-Some.ensures.roll in
    BookInvariant-made (event.StartFailed failed.seq failed.cause) c.self.invariant
    (IsEvent-silent (event.StartFailed failed.seq failed.cause) c.self.invariant
    (subst (λ book. book.status ≡ None) (sym c.self.view_is) c.requires.going) step refl refl refl c.in-Ok-Some.ensures.cause refl roll) c.tell_last-self-inside-in-Failed.ensures

pub returns-in-Failed : goal.returns-in-Failed
returns-in-Failed g c =
    let failed = c.in-Failed in
    let step = rw (c.in-Ok-Some.field-0-is, failed.is) at c.in-Ok-Some.ensures.ok in
    let roll = rw (c.in-Ok-Some.field-0-is, failed.is) at c.in-Ok-Some.ensures.roll in
    rw (← c.self.view_is, c.failed_told.ensures)
    (IsClaimed-failed g.row.M.Denot c.args.signal.never failed.seq failed.cause c.tell_last-self-inside-in-Failed.result refl c.self.invariant
    (IsEvent-silent (event.StartFailed failed.seq failed.cause) c.self.invariant
    (subst (λ book. book.status ≡ None) (sym c.self.view_is) c.requires.going) step refl refl refl c.in-Ok-Some.ensures.cause refl roll) refl c.tell_last-self-inside-in-Failed.ensures.all)

-- ---- the table had trouble

pub invariant_of-self-in-Err : goal.invariant_of-self-in-Err
invariant_of-self-in-Err g c =
    let refused = c.in-Err.ensures in
    let going = subst (λ book. book.status ≡ None) (sym c.self.view_is) c.requires.going in
    BookInvariant-refused c.claim.new.self c.in-Err.trouble c.from.result c.self.invariant going refused.err
    (HasCause-trouble (Option (Claim g.row.M.Denot)) c.in-Err.trouble _ _ refused.cause) c.from.ensures
    (rw refused.roll (exact_now _ going c.self.invariant.away))
