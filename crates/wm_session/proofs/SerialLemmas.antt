-- What the steps of a serial session make of its book.
use Rattle.std.proofs.Common.{◌≡◌, ◌⊎◌, ℕ, ◌+◌, ◌≤◌, Bool, true, List, [], ◌∷◌, ◌++◌, length, map, Option, Some, None, IsSome, Result, Ok, Err, refl, sym, ◌∙◌, ap, subst, inl, inr, arith}
use Rattle.wm_session.proofs.Words.{AllByRecursion, AllocError, AreInOrder, BookState, Cause, Claim, Command, DataEntry, Entry, Event, Frame, Gave, GoesInOrder, GoesOnWith, Hand, HasClaimed, HasCommands, HasOne, HasOne-front, HasWritten, IsAskable, IsAtBegin, IsAwayAt-taken, IsBegun, IsBetweenRuns, IsClaimAnswer, IsClaimStopped, IsDiaryLater, IsDriven, IsFrontStopped, IsGivenBack, IsInOrder, IsInTurn, IsLast, IsLineDone, IsOneStep, IsQuiet, IsReady, IsReported, IsReturned, IsSerialRun, IsStartOn, IsTurnOf, IsUnderWay, IsUntouched, KeepBoxes, Kind, Legal, MayGoOn, More, NoneAway-back, Replay, Replay-step, Report, Seat, SignalState, State, Status, StopsAfter, Store, TableState, TicketState, Valid, alone-turned, alone_out-turned, changed_at, commands_of, current-turned, diary_with, drains_first, few-turned, framed, idle_at, left_to_drain, made_back, next_turn, not_stopped, only-begun, option_to_list, runs-ended, turn_entries, without}
use Rattle.wm_machine.proofs.Serials.{AreInOrder-first, AreInOrder-nothing, AreInOrder-push, BeginsSerial-goes-on}
use Rattle.wm_seating.proofs.RetiredPlaces.{NoneAway-after, idle_at-after}
use Rattle.wm_session.proofs.BookClaims.{claimed_step}
use Rattle.wm_session.proofs.BookSteps.{Replay-same, askable_left}
use Rattle.wm_session.proofs.BoxLemmas.{KeepBoxes-given_up, KeepBoxes-last, KeepBoxes-stopped, KeepBoxes-turned, no_longer}
use Rattle.wm_session.proofs.DiaryLemmas.{IsDiaryLater-same}
use Rattle.wm_session.specs.declared.book.After.{After}
use Rattle.wm_worker.specs.Answers.{given_of}
use Rattle.wm_worker.specs.declared.answer.Answer.{Answer}
use Rattle.wm_worker.specs.declared.answer.Given.{Given}
use Rattle.wm_machine.specs.declared.event.Event.TheVariants as event
use Rattle.wm_engine.specs.declared.engine.Claim.TheVariants as claim
use Rattle.wm_session.specs.declared.book.After.TheVariants as report
use Rattle.wm_ended.specs.declared.status.Status.TheVariants as status

-- ---- the order

-- once there is an event runs may start
MayGoOn-push : (lines : List Command) (log : List Event) (e : Event) → MayGoOn lines (log ++ e ∷ [])
MayGoOn-push lines [] e = tt
MayGoOn-push lines (d ∷ log) e = tt

module _ {K W B : Type 0} (store : K → Store) (lines : List Command) (e : Event) (old new : BookState K W B)
    (step : IsOneStep store e old.table new.table) (few : length new.table.state.runs ≤ 1) where
  -- an event that keeps the order
  GoesInOrder-event : old.table.first.runs ≡ [] → AreInOrder lines old.table.first (old.table.log ++ e ∷ []) → GoesInOrder lines new
  GoesInOrder-event from_rest in_order = record {
    order = record { in_order = rw (step.first, step.appended) in_order; few_runs = few; from_rest = rw step.first from_rest };
    may_go_on = λ going. rw step.appended (MayGoOn-push lines old.table.log e);
  }

  -- an event in its turn
  GoesInOrder-step : Replay old.table.first old.table.log old.table.state → old.status ≡ None → IsInTurn old.table.state e → GoesInOrder lines old
      → GoesInOrder lines new
  GoesInOrder-step replays going turn goes =
      GoesInOrder-event goes.order.from_rest
      (AreInOrder-push lines old.table.first old.table.log old.table.state e goes.order.in_order replays (goes.may_go_on going) turn)

module _ {K W B : Type 0} (store : K → Store) {may : Event → Type 0} (lines : List Command) (old new : BookState K W B)
    (same : IsUntouched store may old.table new.table) where
  IsInOrder-same : IsInOrder lines old → IsInOrder lines new
  IsInOrder-same order = record {
    in_order = rw (same.first, same.log) order.in_order;
    few_runs = rw same.state order.few_runs;
    from_rest = rw same.first order.from_rest;
  }

-- where nothing is left to do a line may come
pub IsReady-quiet : {K W B : Type 0} (lines : List Command) (book : BookState K W B) → (book.status ≡ None → IsQuiet book.table.state) → GoesInOrder lines book
    → IsReady lines book
IsReady-quiet lines book quiet goes = record { order = goes.order; next = λ going. inl (quiet going, goes.may_go_on going) }

-- where what is startable is driven before the next line runs may start
pub GoesInOrder-ready : {K W B : Type 0} (lines : List Command) (book : BookState K W B) → drains_first book.left ≡ true → IsReady lines book
    → GoesInOrder lines book
GoesInOrder-ready lines book drains ready = record {
  order = ready.order;
  may_go_on = λ going. elim (ready.next going) [
    | inl quiet ↦ quiet.1
    | inr begins ↦ subst (MayGoOn lines) (sym begins.0) (ap drains_first begins.1 ∙ drains)
  ];
}

-- ---- a start

-- a book is at rest again
pub rest_again : {K W B : Type 0} {old new : BookState K W B} → IsBetweenRuns old → Replay new.table.first new.table.log new.table.state
    → (new.status ≡ None → new.table.state.runs ≡ []) → new.table.roll ≡ old.table.roll → new.places ≡ old.places → IsBetweenRuns new
rest_again rest replays none roll places =
    record { replay = replays; no_run = none; none_out = roll ∙ rest.none_out; none_away = rw places rest.none_away }

module _ {K W B : Type 0} (store : K → Store) (old new : BookState K W B) (rest : IsBetweenRuns old) (going : old.status ≡ None) where
  -- where a run began, it alone is unreturned
  begun_alone : (run seq instance : ℕ) (input : List DataEntry) (step : IsOneStep store (event.Start run seq instance input) old.table new.table)
      → new.table.state.runs ≡ (framed old.table.state (event.Start run seq instance input) step.legal).run ∷ []
  begun_alone run seq instance input step =
      ap (λ (t : State). t.runs) step.state
      ∙ ap (λ (f : Frame). f.runs) (framed old.table.state (event.Start run seq instance input) step.legal).frame_is
      ∙ ap (λ runs. runs ++ (framed old.table.state (event.Start run seq instance input) step.legal).run ∷ []) (rest.no_run going)

  -- where a work couldn't start, none is
  pub failed_none : (seq : ℕ) (cause : Cause) → IsOneStep store (event.StartFailed seq cause) old.table new.table → new.table.state.runs ≡ []
  failed_none seq cause step = ap (λ (t : State). t.runs) step.state ∙ rest.no_run going

  -- the event of a claim comes in its turn
  claimed_turn : {M : Type 0} (claimed : Claim M) (is : IsClaimAnswer store (Some claimed) old.table new.table)
      → (length new.table.state.runs ≤ 1) × IsInTurn old.table.state (claimed_step store claimed old.table new.table is).0
  claimed_turn (claim.Run ticket) run =
      (rw (begun_alone ticket.task.run ticket.seq ticket.instance ticket.task.input run.step) (omega arith), rest.no_run going)
  claimed_turn (claim.Failed seq cause) step = (rw (failed_none seq cause step) (omega arith), rest.no_run going)

  pub GoesInOrder-claimed : {M : Type 0} (claimed : Claim M) → IsClaimAnswer store (Some claimed) old.table new.table → (lines : List Command)
      → GoesInOrder lines old → GoesInOrder lines new
  GoesInOrder-claimed claimed is lines =
      let step = claimed_step store claimed old.table new.table is in
      let turn = claimed_turn claimed is in
      GoesInOrder-step store lines step.0 old new step.1 turn.0 rest.replay going turn.1

-- a run that starts in a book at rest is under way
pub IsUnderWay-begun : {K W B : Type 0} {store : K → Store} {kind_of : B → Kind} {never : Bool} {ticket : TicketState} {seat : Seat B} {signal : SignalState}
    {old new : BookState K W B} → IsBetweenRuns old → IsBegun store kind_of never ticket seat signal old new → IsUnderWay kind_of ticket new
IsUnderWay-begun {store = store} {kind_of = kind_of} {ticket = ticket} {seat = seat} {old = old} {new = new} rest begun =
    let start = event.Start ticket.task.run ticket.seq ticket.instance ticket.task.input in
    let only = only-begun store ticket old.table new.table (rest.no_run begun.goes_on.before) rest.none_out begun.step begun.roll in
    record {
      replay = Replay-step store start old.table new.table rest.replay begun.step;
      ticket_in = begun.ticket_in;
      current = only.current;
      alone = only.alone;
      alone_out = only.alone_out;
      away = rw (begun.places, ← begun.kind) (IsAwayAt-taken kind_of seat.worker ticket.instance old.places begun.worker);
      others = λ back. rw begun.places (NoneAway-back kind_of back ticket.instance old.places rest.none_away);
    }

-- ---- a session that has stopped early

-- its log still replays and begins as before, the lines that are left stay, no more works are left to drain, and the order is kept
pub record IsHalted {K W B : Type 0} (old new : BookState K W B) : Type 0 where
  pub status : IsSome new.status
  pub left : new.left ≡ old.left
  pub no_more : left_to_drain new.table.state ≤ left_to_drain old.table.state
  pub replay : Replay new.table.first new.table.log new.table.state
  pub starts : (number : ℕ) → HasOne (IsStartOn number) old.table.log → HasOne (IsStartOn number) new.table.log
  pub order : (lines : List Command) → GoesInOrder lines old → GoesInOrder lines new

-- without an event, or with such a one, which is a step of the table that comes in its turn
halted_by : {K W B : Type 0} {store : K → Store} (made : TableState K → TableState K → Type 0) {old new : BookState K W B}
    → Replay old.table.first old.table.log old.table.state
    → (made old.table new.table → (e : Event) × IsOneStep store e old.table new.table
    × (old.status ≡ None → length old.table.state.runs ≤ 1 → (length new.table.state.runs ≤ 1) × IsInTurn old.table.state e))
    → StopsAfter store made old new → IsHalted old new
halted_by {store = store} made {old = old} {new = new} replays steps (inl stopped) = record {
  status = stopped.status;
  left = stopped.left;
  no_more = rw stopped.table.state (omega arith);
  replay = Replay-same store old.table new.table replays stopped.table;
  starts = λ number one. rw stopped.table.log one;
  order = λ lines goes. record {
    order = IsInOrder-same store lines old new stopped.table goes.order;
    may_go_on = no_longer new.status stopped.status;
  };
}
halted_by {store = store} made {old = old} {new = new} replays steps (inr untold) =
    let is = untold.1 in
    let step = steps is.made in
    record {
      status = untold.0;
      left = is.left;
      no_more = is.no_more;
      replay = Replay-step store step.0 old.table new.table replays step.1;
      starts = λ number one. rw step.1.appended (HasOne-front (IsStartOn number) old.table.log _ one);
      order = λ lines goes.
          let comes = step.2 is.before goes.order.few_runs in
          GoesInOrder-step store lines step.0 old new step.1 comes.0 replays is.before comes.1 goes;
    }

pub IsHalted-claim : {K W B M : Type 0} {store : K → Store} {old new : BookState K W B} → IsBetweenRuns old → IsClaimStopped M store old new
    → IsHalted old new
IsHalted-claim {M = M} {store = store} {old = old} {new = new} rest halted =
    halted_by (HasClaimed M store) rest.replay
    (λ is.
    let step = claimed_step store is.0 old.table new.table is.1 in
    (step.0, step.1, λ going few. claimed_turn store old new rest going is.0 is.1))
    halted.how

pub IsBetweenRuns-halted : {K W B M : Type 0} {store : K → Store} {old new : BookState K W B} → IsBetweenRuns old → IsClaimStopped M store old new
    → IsBetweenRuns new
IsBetweenRuns-halted {new = new} rest stopped =
    let halted = IsHalted-claim rest stopped in
    rest_again rest halted.replay (no_longer new.status halted.status) stopped.roll stopped.places

-- ---- a run under way

-- its worker is back
rest_back : {K W B : Type 0} {kind_of : B → Kind} {ticket : TicketState} {old new : BookState K W B} (back : B) → IsUnderWay kind_of ticket old
    → Replay new.table.first new.table.log new.table.state → (new.status ≡ None → new.table.state.runs ≡ [])
    → new.table.roll ≡ without ticket.task.run old.table.roll
    → new.places ≡ changed_at (made_back kind_of back) ticket.instance old.places → IsBetweenRuns new
rest_back back under_way replays none roll places = record {
  replay = replays;
  no_run = none;
  none_out = roll ∙ under_way.alone_out;
  none_away = rw places (under_way.others back);
}

-- it goes on, by an event
abbrev HasTurned : {K : Type 0} → (K → Store) → TicketState → TableState K → TableState K → Type 0
HasTurned store ticket old new = (progress : Option (List DataEntry)) × IsOneStep store (event.Turn ticket.task.run progress) old new

-- the session has stopped early, without an event or as a turn was told
driven_up : {K W B : Type 0} {store : K → Store} {kind_of : B → Kind} {ticket : TicketState} {old new : BookState K W B}
    (diary_of : B → Option (List Entry)) (has owes : Option (List Entry)) (back : B) → IsUnderWay kind_of ticket old
    → IsDiaryLater has (diary_of back) → StopsAfter store (HasTurned store ticket) old new → new.table.roll ≡ without ticket.task.run old.table.roll
    → new.places ≡ changed_at (made_back kind_of back) ticket.instance old.places → IsDriven diary_of ticket.instance has owes old new
driven_up {store = store} {kind_of = kind_of} {ticket = ticket} {old = old} {new = new} diary_of has owes back under_way later stops roll places =
    let halted =
    halted_by (HasTurned store ticket) under_way.replay
    (λ is. (event.Turn ticket.task.run is.0, is.1, λ going few. (few-turned store ticket.task.run is.0 old.table new.table is.1 few, tt))) stops in
    record {
      rest = rest_back back under_way halted.replay (no_longer new.status halted.status) roll places;
      left = halted.left;
      no_more = halted.no_more;
      order = halted.order;
      boxes = λ given. KeepBoxes-given_up diary_of given old new halted.status halted.starts kind_of back ticket.instance has owes places later;
    }

-- ---- a turn is reported

module _ {K W B : Type 0} (store : K → Store) (kind_of : B → Kind) (diary_of : B → Option (List Entry)) (ticket : TicketState) (worker : B)
    (seat : Seat B) (number : seat.number ≡ ticket.instance) (old new : BookState K W B) (under_way : IsUnderWay kind_of ticket old) where
  at_place : new.places ≡ changed_at (made_back kind_of seat.worker) seat.number old.places
      → new.places ≡ changed_at (made_back kind_of seat.worker) ticket.instance old.places
  at_place places = places ∙ ap (λ n. changed_at (made_back kind_of seat.worker) n old.places) number

  -- a worker was refused memory
  pub IsDriven-refused : (has owes : Option (List Entry)) → IsDiaryLater has (diary_of seat.worker)
      → IsGivenBack store (IsReturned store ticket.task.run) kind_of ticket seat old new → IsDriven diary_of ticket.instance has owes old new
  IsDriven-refused has owes later done =
      elim done.how [
        | inl stopped ↦ driven_up diary_of has owes seat.worker under_way later (inl stopped.0) done.roll (at_place done.places)
        | inr late ↦ absurd (not_stopped old.table.state ticket.task.run under_way.current late.1.made.stopped)
      ]

  -- what a worker has written down that gave this
  wrote : (gave : Given) (answered : Answer) → given_of answered ≡ Some gave
      → diary_of seat.worker ≡ diary_with (turn_entries ticket.task.run ticket.k answered) (diary_of worker)
      → diary_of seat.worker ≡ diary_with (Gave ticket.task.run ticket.k gave ∷ []) (diary_of worker)
  wrote gave answered is written =
      written ∙ ap (λ given. diary_with (map (λ given. Gave ticket.task.run ticket.k given) (option_to_list given)) (diary_of worker)) is

  -- its last turn
  driven_last : (told : Report) → IsLast store ticket told old.table new.table → old.status ≡ None
      → new.table.roll ≡ without ticket.task.run old.table.roll → new.places ≡ changed_at (made_back kind_of seat.worker) seat.number old.places
      → new.left ≡ old.left → left_to_drain new.table.state ≤ left_to_drain old.table.state → HasWritten diary_of ticket worker seat.worker (Ok told)
      → IsDriven diary_of ticket.instance (diary_of worker) (diary_of worker) old new
  driven_last told (inl returned) before roll places left no_more written =
      absurd (not_stopped old.table.state ticket.task.run under_way.current returned.stopped)
  driven_last told (inr over) before roll places left no_more written =
      let last = over.finished in
      let none = runs-ended store ticket.task.run last.reported last.ending old.table new.table last.ends last.step ∙ under_way.alone in
      record {
        rest = rest_back seat.worker under_way (Replay-step store last.ending old.table new.table under_way.replay last.step) (λ going. none) roll
            (at_place places);
        left = left;
        no_more = no_more;
        order = λ lines. GoesInOrder-step store lines last.ending old new last.step (rw none (omega arith)) under_way.replay before
            (subst (λ r. IsTurnOf r old.table.state) (sym last.ends) tt);
        boxes = λ given. KeepBoxes-last diary_of worker seat.worker new given under_way before last (at_place places)
            (wrote last.gave told.answer last.told_is written);
      }

  -- no turn follows: the run is over, or the session has stopped early
  pub IsDriven-reported : {M : Type 0} (told : Result Report AllocError) (result : After B M)
      → IsReported store kind_of ticket seat told result old new → (result ≡ report.Over) ⊎ (result ≡ report.Stopped)
      → HasWritten diary_of ticket worker seat.worker told → IsDriven diary_of ticket.instance (diary_of worker) (diary_of worker) old new
  IsDriven-reported (Ok told) report.Over done ends written =
      driven_last told done.over.made done.over.before done.roll done.places done.over.left done.over.no_more written
  IsDriven-reported (Ok told) (report.Go next kept) done (inl ends) written = absurd (cc)
  IsDriven-reported (Ok told) (report.Go next kept) done (inr ends) written = absurd (cc)
  IsDriven-reported (Ok told) (report.Again same kept) done (inl ends) written = absurd (cc)
  IsDriven-reported (Ok told) (report.Again same kept) done (inr ends) written = absurd (cc)
  IsDriven-reported (Ok told) report.Stopped done ends written =
      let given_up = λ (stops : StopsAfter store (HasTurned store ticket) old new).
      driven_up diary_of (diary_of worker) (diary_of worker) seat.worker under_way (turn_entries ticket.task.run ticket.k told.answer, written) stops
      done.roll (at_place done.places) in
      elim done.how [
        | inl stopped ↦ given_up (inl stopped.0)
        | inr untold ↦
            let is = untold.1 in
            elim is.made [
              | inl last ↦ driven_last told last is.before done.roll done.places is.left is.no_more written
              | inr turned ↦ given_up (inr (
                untold.0,
                record { before = is.before; made = (turned.1.progress, turned.1.step); left = is.left; no_more = is.no_more },
              ))
            ]
      ]
  IsDriven-reported (Err refused) report.Over late ends written =
      absurd (not_stopped old.table.state ticket.task.run under_way.current late.over.made.stopped)
  IsDriven-reported (Err refused) report.Stopped done ends written =
      IsDriven-refused (diary_of worker) (diary_of worker) (IsDiaryLater-same (diary_of worker) (diary_of seat.worker) written) done
  IsDriven-reported (Err refused) (report.Go next kept) done ends written = absurd done
  IsDriven-reported (Err refused) (report.Again same kept) done ends written = absurd done

  -- it goes on: the next ticket is at the next turn
  pub GoesOnWith-reported : (M : Type 0) (told : Result Report AllocError) (next : TicketState) (kept : Seat B) → kind_of seat.worker ≡ ticket.kind
      → IsReported {M = M} store kind_of ticket seat told (report.Go next kept) old new → HasWritten diary_of ticket worker seat.worker told
      → GoesOnWith kind_of diary_of ticket worker next kept old new
  GoesOnWith-reported M (Ok told) next kept kind done written =
      let on = done.turn in
      let turn = next_turn store ticket next told old.table new.table on under_way.ticket_in in
      let next_is = turn.0 in
      let diary = ap (λ (s : Seat B). diary_of s.worker) done.seat_is ∙ wrote (More on.progress) told.answer on.told_is written in
      record {
        next_is = next_is;
        turns_left = turn.1;
        under_way = record {
          replay = Replay-step store (event.Turn ticket.task.run on.progress) old.table new.table under_way.replay on.step;
          ticket_in = on.ticket_in;
          current = current-turned store ticket next told old.table new.table on;
          alone = alone-turned store ticket next told old.table new.table on ∙ under_way.alone;
          alone_out = alone_out-turned store ticket next told old.table new.table on done.roll ∙ under_way.alone_out;
          away = rw (next_is, done.places) under_way.away;
          others = λ back. rw (next_is, done.places) (under_way.others back);
        };
        number = ap (λ (s : Seat B). s.number) done.seat_is ∙ number;
        kind = ap (λ (s : Seat B). kind_of s.worker) done.seat_is ∙ kind;
        further = λ last driven. record {
          rest = driven.rest;
          left = driven.left ∙ done.left;
          no_more = omega (arith, driven.no_more, done.no_more);
          order = λ lines goes. driven.order lines
              (GoesInOrder-step store lines (event.Turn ticket.task.run on.progress) old new on.step
              (few-turned store ticket.task.run on.progress old.table new.table on.step goes.order.few_runs) under_way.replay done.goes_on.before tt goes);
          boxes = λ given keep. driven.boxes given
              (KeepBoxes-turned diary_of worker kept.worker given under_way on done.goes_on.before done.places next_is diary keep);
        };
      }
  GoesOnWith-reported M (Err refused) next kept kind done written = absurd done

-- ---- a line

module _ {K W B : Type 0} {store : K → Store} {kind_of : B → Kind} {old new : BookState K W B} (rest : IsBetweenRuns old) where
  line_none : (done : IsLineDone store kind_of old new) → new.table.state.runs ≡ []
  line_none done =
      let is = framed old.table.state (event.Command (old.line + 1) done.command done.reply) done.step.legal in
      ap (λ (t : State). t.runs) done.step.state ∙ ap (λ (f : Frame). f.runs) is.frame_is ∙ ap (map is.change) (rest.no_run done.before)

  -- a line was executed
  pub IsBetweenRuns-line : IsLineDone store kind_of old new → IsBetweenRuns new
  IsBetweenRuns-line done = record {
    replay = Replay-step store (event.Command (old.line + 1) done.command done.reply) old.table new.table rest.replay done.step;
    no_run = λ going. line_none done;
    none_out = done.roll ∙ rest.none_out;
    none_away = rw done.places (NoneAway-after kind_of done.command old.places rest.none_away);
  }

  -- who is at its place was there before
  pub idle_at-line : (done : IsLineDone store kind_of old new) (number : ℕ) (worker : B) → idle_at number new.places ≡ Some worker
      → idle_at number old.places ≡ Some worker
  idle_at-line done number worker idle = idle_at-after kind_of done.command worker number old.places (rw done.places at idle)

  -- it came in its turn, or as the first, and runs may start
  pub GoesInOrder-line : (lines : List Command) → IsLineDone store kind_of old new → IsReady lines old → GoesInOrder lines new
  GoesInOrder-line lines done ready =
      let e = event.Command (old.line + 1) done.command done.reply in
      GoesInOrder-event store lines e old new done.step (rw (line_none done) (omega arith)) ready.order.from_rest
      (elim (ready.next done.before) [
        | inl quiet ↦ AreInOrder-push lines old.table.first old.table.log old.table.state e ready.order.in_order rest.replay quiet.1 quiet.0
        | inr begins ↦
            let at_first : old.table.state ≡ old.table.first = subst (λ log. Replay old.table.first log old.table.state) begins.0 rest.replay in
            rw (begins.0, begins.1, done.next)
            (AreInOrder-first done.command new.left old.table.first (old.line + 1) done.reply (subst (λ s. Legal s e) at_first done.step.legal))
      ])

  -- the session has stopped early, with or without a line
  pub IsBetweenRuns-front : IsFrontStopped store kind_of old new → IsBetweenRuns new
  IsBetweenRuns-front stopped =
      elim stopped.how [
        | inl same ↦ rest_again rest (Replay-same store old.table new.table rest.replay same.table) (no_longer new.status stopped.status) same.roll same.places
        | inr line ↦ IsBetweenRuns-line line
      ]

  pub IsReady-front : (lines : List Command) → IsFrontStopped store kind_of old new → IsReady lines old → IsReady lines new
  IsReady-front lines stopped ready = record {
    order = elim stopped.how [
      | inl same ↦ IsInOrder-same store lines old new same.table ready.order
      | inr line ↦ (GoesInOrder-line lines line ready).order
    ];
    next = no_longer new.status stopped.status;
  }

  pub KeepBoxes-front : (diary_of : B → Option (List Entry)) (given : List (Hand B)) → IsFrontStopped store kind_of old new → KeepBoxes diary_of given old
      → KeepBoxes diary_of given new
  KeepBoxes-front diary_of given stopped =
      elim stopped.how [
        | inl same ↦
            KeepBoxes-stopped diary_of given old new stopped.status (λ number one. rw same.table.log one)
            (λ number worker idle. rw same.places at idle)
        | inr line ↦
            KeepBoxes-stopped diary_of given old new stopped.status
            (λ number one. rw line.step.appended (HasOne-front (IsStartOn number) old.table.log _ one)) (idle_at-line line)
      ]

-- ---- begin and end

-- a session that begins is in order, for its lines
pub IsReady-begin : {K W B : Type 0} {lines : List Command} {book : BookState K W B} → IsAtBegin lines book → IsReady lines book
IsReady-begin {lines = lines} {book = book} begins = record {
  order = record {
    in_order = rw begins.log (AreInOrder-nothing lines book.table.first);
    few_runs = rw begins.no_run (omega arith);
    from_rest = ap (λ (s : State). s.runs) (sym begins.begun) ∙ begins.no_run;
  };
  next = λ going. inr (begins.log, begins.lines_are);
}

-- a log in order is that of a serial run, once all is done, and else begins one
pub IsSerialRun-order : (lines : List Command) (ended : Status) (first last : State) (log : List Event) → AllByRecursion IsAskable lines
    → HasCommands lines ended log → first.runs ≡ [] → Replay first log last → Valid last → length last.runs ≤ 1
    → AreInOrder lines first log
    → (ended ≡ status.Done → IsQuiet last) → IsSerialRun lines ended first log last
IsSerialRun-order lines status.Done first last log askable commands from_rest replays valid few order quiet =
    record { replay = replays; commands = commands.all refl; in_order = order; quiet = quiet refl }
IsSerialRun-order lines _ first last log askable commands from_rest replays valid few order quiet =
    let left = commands.front.0 in
    let whole = commands.front.1 in
    BeginsSerial-goes-on lines left first last log
    (askable_left (commands_of log) left (subst (AllByRecursion IsAskable) whole askable)) whole from_rest replays valid few order
