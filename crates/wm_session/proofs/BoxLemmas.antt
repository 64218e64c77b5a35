-- What becomes of the workers, after more events.
use Rattle.std.proofs.Common.{◌≡◌, ℕ, Bool, cond, eqb, List, [], ◌∷◌, ◌++◌, map, Option, Some, None, IsSome, IsSomeAnd, slice_get, inl, inr, refl, sym, ◌∙◌, ap, subst, ◌+◌}
use Rattle.wm_session.proofs.Words.{Begun, BookState, Command, DiaryLine, EachAtPlace, Entry, Event, Frame, Gave, Hand, HasGoneOn, HasOne, HasOne-front, HasOne-last, IsAtBegin, IsBegun, IsBetweenRuns, IsBoxAfter, IsDiaryLater, IsDiaryWith, IsEntry, IsFinished, IsOfGiven, IsOneStep, IsOutOfGiven, IsStartOn, IsUnderWay, KeepBoxes, KeepBoxesOut, Kind, More, Place, Replay, Report, Seat, SignalState, Store, This, TicketState, changed_at, diary_with, elsewhere, eq-eqb, event_lines, false≢true, framed_end, idle_at, idle_at-back, idle_at-given, idle_at-taken, idle_hands, log_lines, made_back, ne_eqb, place_of, run_numbered, ticket-found}
use Rattle.wm_session.proofs.DiaryLemmas.{IsDiaryLater-further, IsDiaryLater-same, IsDiaryWith-nothing, IsDiaryWith-silent, IsDiaryWith-written, lines_of}
use Rattle.wm_machine.specs.Diaries as diary_line
use Rattle.wm_machine.specs.declared.event.Event.TheVariants as event

-- a session that has stopped early doesn't go on
pub no_longer : {T P : Type 0} (status : Option T) → IsSome status → status ≡ None → P
no_longer status stopped going = absurd (false≢true (subst IsSome going stopped))

pub IsSomeAnd-weaker : {T : Type 0} {P Q : T → Type 0} (found : Option T) → ((x : T) → P x → Q x) → IsSomeAnd found P → IsSomeAnd found Q
IsSomeAnd-weaker None step is = is
IsSomeAnd-weaker (Some x) step is = step x is

-- what holds of each worker at its place
pub AtPlace-weaker : {B : Type 0} {fact other : ℕ → B → B → Type 0} (given : List (Hand B)) (places : List (Place B))
    → ((number : ℕ) (had now : B) → fact number had now → other number had now) → EachAtPlace fact given places → EachAtPlace other given places
AtPlace-weaker given places step holds number worker idle =
    IsSomeAnd-weaker (slice_get given number) (λ hand is. step number hand.worker worker is) (holds number worker idle)

-- ---- one worker

-- it is the one that was given
IsBoxAfter-same : {B : Type 0} (diary_of : B → Option (List Entry)) (log : List Event) (number : ℕ) (given now : B) → given ≡ now
    → IsBoxAfter diary_of log number given now
IsBoxAfter-same diary_of log number given now same =
    record { untouched = λ none. sym same; diary = IsDiaryLater-same (diary_of given) (diary_of now) (ap diary_of (sym same)) }

-- at their places are those that were given
pub boxes-given : {B : Type 0} (diary_of : B → Option (List Entry)) (log : List Event) (hands : List (Hand B))
    → EachAtPlace (IsBoxAfter diary_of log) hands (map place_of hands)
boxes-given diary_of log hands number worker idle =
    IsSomeAnd-weaker (slice_get hands number) (λ hand. IsBoxAfter-same diary_of log number hand.worker worker) (idle_at-given hands number worker idle)

module _ {K W B : Type 0} (diary_of : B → Option (List Entry)) (old new : BookState K W B) where
  module _ {store : K → Store} {e : Event} (replays : Replay old.table.first old.table.log old.table.state)
      (step : IsOneStep store e old.table new.table) (goes : new.status ≡ None → old.status ≡ None) where
    -- an event of which it writes nothing down
    of_given-silent : (number : ℕ) → (new.status ≡ None → event_lines number old.table.state e ≡ []) → (given now : B)
        → IsOfGiven diary_of old number given now → IsOfGiven diary_of new number given now
    of_given-silent number silent given now is = record {
      box = rw step.appended (record {
        untouched = λ none. is.box.untouched (λ one. none (HasOne-front (IsStartOn number) old.table.log (e ∷ []) one));
        diary = is.box.diary;
      });
      told = λ going. rw (step.first, step.appended)
          (IsDiaryWith-silent number old.table.first old.table.log old.table.state e replays (diary_of given) (diary_of now) (is.told (goes going))
          (silent going));
    }

    -- it is out, and has written this down, or is to, as the event tells
    out_of_given-written : (number : ℕ) (given : B) (has owes : Option (List Entry)) (line : DiaryLine) (written : Entry)
        → HasOne (IsStartOn number) (old.table.log ++ e ∷ []) → IsDiaryLater (diary_of given) has
        → (old.status ≡ None → IsDiaryWith (log_lines number old.table.first old.table.log) (diary_of given) owes)
        → event_lines number old.table.state e ≡ line ∷ [] → IsEntry line written
        → IsOutOfGiven diary_of has (diary_with (written ∷ []) owes) new number given
    out_of_given-written number given has owes line written started later told lines entry = record {
      started = rw step.appended started;
      diary = later;
      told = λ going. rw (step.first, step.appended)
          (IsDiaryWith-written number old.table.first old.table.log old.table.state e replays (diary_of given) owes (told (goes going)) line written lines
          entry);
    }

-- it is back
of_given-back : {K W B : Type 0} (diary_of : B → Option (List Entry)) {book : BookState K W B} (has owes : Option (List Entry)) (number : ℕ) (given back : B)
    → IsOutOfGiven diary_of has owes book number given → IsDiaryLater has (diary_of back) → (book.status ≡ None → diary_of back ≡ owes)
    → IsOfGiven diary_of book number given back
of_given-back diary_of has owes number given back out later is = record {
  box = record {
    untouched = λ none. absurd (none out.started);
    diary = IsDiaryLater-further (diary_of given) has (diary_of back) out.diary later;
  };
  told = λ going. rw (is going) (out.told going);
}

-- ---- all workers

-- a worker is what the log of a book leaves of the one that was given under its number, of these
abbrev IsFromGiven : {K W B : Type 0} → (B → Option (List Entry)) → List (Hand B) → BookState K W B → ℕ → B → Type 0
IsFromGiven diary_of given book number worker = IsSomeAnd (slice_get given number) (λ hand. IsOfGiven diary_of book number hand.worker worker)

module _ {K W B : Type 0} (diary_of : B → Option (List Entry)) (given : List (Hand B)) (old new : BookState K W B) where
  -- an event of which no worker writes anything down
  pub KeepBoxes-silent : {store : K → Store} {e : Event} → Replay old.table.first old.table.log old.table.state
      → IsOneStep store e old.table new.table → (new.status ≡ None → old.status ≡ None)
      → (new.status ≡ None → (number : ℕ) → event_lines number old.table.state e ≡ [])
      → ((number : ℕ) (worker : B) → idle_at number new.places ≡ Some worker → idle_at number old.places ≡ Some worker)
      → KeepBoxes diary_of given old → KeepBoxes diary_of given new
  KeepBoxes-silent replays step goes silent stays keep number worker idle =
      IsSomeAnd-weaker (slice_get given number)
      (λ hand. of_given-silent diary_of old new replays step goes number (λ going. silent going number) hand.worker worker)
      (keep number worker (stays number worker idle))

  -- a worker is back
  KeepBoxes-back : (kind_of : B → Kind) (back : B) (at : ℕ) → new.places ≡ changed_at (made_back kind_of back) at old.places
      → ((number : ℕ) (worker : B) → idle_at number old.places ≡ Some worker → IsFromGiven diary_of given new number worker)
      → IsFromGiven diary_of given new at back → KeepBoxes diary_of given new
  KeepBoxes-back kind_of back at places others own number worker idle =
      elim (idle_at-back kind_of back at number worker old.places (rw places at idle)) [
        | inl same ↦ rw (same.0, same.1) own
        | inr before ↦ others number worker before
      ]

  module _ {store : K → Store} {e : Event} (at : ℕ) (line : DiaryLine) (written : Entry)
      (replays : Replay old.table.first old.table.log old.table.state) (step : IsOneStep store e old.table new.table)
      (goes : new.status ≡ None → old.status ≡ None) (lines : (n : ℕ) → event_lines n old.table.state e ≡ cond (eqb at n) (line ∷ []) [])
      (entry : IsEntry line written) where
    -- an event of which the worker of one instance alone writes something down
    others-written : (number : ℕ) (worker : B) → (number ≡ at → ⊥) → IsFromGiven diary_of given old number worker
        → IsFromGiven diary_of given new number worker
    others-written number worker other =
        IsSomeAnd-weaker (slice_get given number)
        (λ hand. of_given-silent diary_of old new replays step goes number
        (λ going. lines number ∙ ap (λ b. cond b (line ∷ []) []) (ne_eqb at number (λ same. other (sym same)))) hand.worker worker)

    -- it is out, and has this diary
    own-written : (has owes : Option (List Entry)) (hand : Hand B) → HasOne (IsStartOn at) (old.table.log ++ e ∷ [])
        → IsDiaryLater (diary_of hand.worker) has
        → (old.status ≡ None → IsDiaryWith (log_lines at old.table.first old.table.log) (diary_of hand.worker) owes)
        → IsOutOfGiven diary_of has (diary_with (written ∷ []) owes) new at hand.worker
    own-written has owes hand started later told =
        out_of_given-written diary_of old new replays step goes at hand.worker has owes line written started later told
        (lines at ∙ ap (λ b. cond b (line ∷ []) []) (eq-eqb at at refl)) entry

-- a session that begins
pub KeepBoxes-begin : {K W B : Type 0} {lines : List Command} (diary_of : B → Option (List Entry)) (book : BookState K W B) → IsAtBegin lines book
    → KeepBoxes diary_of (idle_hands book.places) book
KeepBoxes-begin diary_of book begins number worker idle =
    let hands = idle_hands book.places in
    IsSomeAnd-weaker (slice_get hands number)
    (λ hand same. record {
      box = IsBoxAfter-same diary_of book.table.log number hand.worker worker same;
      told = λ going. rw (begins.log, ← same) (IsDiaryWith-nothing (diary_of hand.worker));
    })
    (idle_at-given hands number worker (rw begins.all_idle at idle))

-- a run starts, whose worker is to write down that it began
pub KeepBoxes-begun : {K W B : Type 0} {store : K → Store} {kind_of : B → Kind} {never : Bool} {ticket : TicketState} {seat : Seat B} {signal : SignalState}
    {old new : BookState K W B} (diary_of : B → Option (List Entry)) (given : List (Hand B))
    → IsBetweenRuns old → IsBegun store kind_of never ticket seat signal old new → KeepBoxes diary_of given old
    → KeepBoxesOut diary_of ticket.instance (diary_of seat.worker) (diary_with (Begun ticket.task.run ∷ []) (diary_of seat.worker)) given new
KeepBoxes-begun {kind_of = kind_of} {ticket = ticket} {seat = seat} {old = old} {new = new} diary_of given rest begun keep =
    let task = ticket.task in
    let at = ticket.instance in
    let start = event.Start task.run ticket.seq at task.input in
    let line = diary_line.Began task.run in
    let written = Begun task.run in
    let goes = λ (going : new.status ≡ None). begun.goes_on.before in
    record {
      others = λ number worker idle.
          let before = idle_at-taken kind_of at number worker old.places (rw begun.places at idle) in
          others-written diary_of given old new at line written rest.replay begun.step goes (λ n. refl) refl number worker before.0
          (keep number worker before.1);
      own = IsSomeAnd-weaker (slice_get given at)
          (λ hand is. own-written diary_of given old new at line written rest.replay begun.step goes (λ n. refl) refl (diary_of seat.worker)
          (diary_of seat.worker) hand (HasOne-last (IsStartOn at) old.table.log start refl) is.box.diary is.told)
          (keep at seat.worker begun.worker);
    }

-- its worker has come to have the diary that it was to have
pub KeepBoxesOut-later : {K W B : Type 0} (diary_of : B → Option (List Entry)) (number : ℕ) (has owes : Option (List Entry)) (given : List (Hand B))
    (book : BookState K W B) → IsDiaryLater has owes → KeepBoxesOut diary_of number has owes given book
    → KeepBoxesOut diary_of number owes owes given book
KeepBoxesOut-later diary_of number has owes given book later keep = record {
  others = keep.others;
  own = IsSomeAnd-weaker (slice_get given number)
      (λ hand out. record {
        started = out.started;
        diary = IsDiaryLater-further (diary_of hand.worker) has owes out.diary later;
        told = out.told;
      })
      keep.own;
}

-- a run goes on, and its worker has written down what it gave
pub KeepBoxes-turned : {K W B : Type 0} {store : K → Store} {kind_of : B → Kind} (diary_of : B → Option (List Entry)) {ticket next : TicketState}
    (worker kept : B) {told : Report} {old new : BookState K W B} (given : List (Hand B))
    → IsUnderWay kind_of ticket old → (on : HasGoneOn store ticket told next old.table new.table) → old.status ≡ None → new.places ≡ old.places
    → next ≡ record ticket { k = ticket.k + 1 }
    → diary_of kept ≡ diary_with (Gave ticket.task.run ticket.k (More on.progress) ∷ []) (diary_of worker)
    → KeepBoxesOut diary_of ticket.instance (diary_of worker) (diary_of worker) given old
    → KeepBoxesOut diary_of next.instance (diary_of kept) (diary_of kept) given new
KeepBoxes-turned diary_of {ticket = ticket} worker kept {old = old} {new = new} given under_way on before places next_is diary keep =
    let at = ticket.instance in
    let number = ticket.task.run in
    let gave = More on.progress in
    let line = diary_line.Gave number ticket.k (This gave) in
    let written = Gave number ticket.k gave in
    let report = on.step.legal.report in
    let of_run = ticket-found ticket under_way.ticket_in report.is_running in
    let goes = λ (going : new.status ≡ None). before in
    let lines = λ (n : ℕ). lines_of ticket (This gave) (run_numbered number old.table.state.runs) report.run n report.is_running of_run in
    rw (ap (λ (t : TicketState). t.instance) next_is) (record {
      others = λ n other idle.
          let was = rw places at idle in
          others-written diary_of given old new at line written under_way.replay on.step goes lines (gave, refl, refl) n other
          (elsewhere ticket.kind other at n old.places under_way.away was) (keep.others n other was);
      own = IsSomeAnd-weaker (slice_get given at)
          (λ hand out. subst (λ owes. IsOutOfGiven diary_of (diary_of kept) owes new at hand.worker) (sym diary)
          (own-written diary_of given old new at line written under_way.replay on.step goes lines (gave, refl, refl) (diary_of kept) (diary_of worker) hand
          (HasOne-front (IsStartOn at) old.table.log _ out.started)
          (IsDiaryLater-further (diary_of hand.worker) (diary_of worker) (diary_of kept) out.diary (written ∷ [], diary)) out.told))
          keep.own;
    })

-- a run is over, and its worker has written down what it gave
pub KeepBoxes-last : {K W B : Type 0} {store : K → Store} {kind_of : B → Kind} (diary_of : B → Option (List Entry)) {ticket : TicketState}
    (worker back : B) {told : Report} {old : BookState K W B} (new : BookState K W B) (given : List (Hand B))
    → IsUnderWay kind_of ticket old → old.status ≡ None → (last : IsFinished store ticket.task.run told old.table new.table)
    → new.places ≡ changed_at (made_back kind_of back) ticket.instance old.places
    → diary_of back ≡ diary_with (Gave ticket.task.run ticket.k last.gave ∷ []) (diary_of worker)
    → KeepBoxesOut diary_of ticket.instance (diary_of worker) (diary_of worker) given old → KeepBoxes diary_of given new
KeepBoxes-last {kind_of = kind_of} diary_of {ticket = ticket} worker back {old = old} new given under_way before last places diary keep =
    let s = old.table.state in
    let at = ticket.instance in
    let number = ticket.task.run in
    let line = diary_line.Gave number ticket.k last.reported in
    let written = Gave number ticket.k last.gave in
    let ended = framed_end s number last.reported last.ending last.ends last.step.legal in
    let of_run = ticket-found ticket under_way.ticket_in ended.is_running in
    let goes = λ (going : new.status ≡ None). before in
    let lines = λ (n : ℕ). ap (λ (f : Frame). f.lines n) ended.frame_is ∙ lines_of ticket last.reported (Some ended.run) ended.run n refl of_run in
    let entry : IsEntry line written = (last.gave, last.has_given, refl) in
    KeepBoxes-back diary_of given old new kind_of back at places
    (λ n other idle.
    others-written diary_of given old new at line written under_way.replay last.step goes lines entry n other
    (elsewhere ticket.kind other at n old.places under_way.away idle) (keep.others n other idle))
    (IsSomeAnd-weaker (slice_get given at)
    (λ hand out. of_given-back diary_of (diary_of worker) (diary_with (written ∷ []) (diary_of worker)) at hand.worker back
    (own-written diary_of given old new at line written under_way.replay last.step goes lines entry (diary_of worker) (diary_of worker) hand
    (HasOne-front (IsStartOn at) old.table.log _ out.started) out.diary out.told) (written ∷ [], diary) (λ going. diary))
    keep.own)

-- the session has stopped early, and each run that had started on an instance still has
module _ {K W B : Type 0} (diary_of : B → Option (List Entry)) (given : List (Hand B)) (old new : BookState K W B) (stopped : IsSome new.status)
    (starts : (number : ℕ) → HasOne (IsStartOn number) old.table.log → HasOne (IsStartOn number) new.table.log) where
  of_given-stopped : (number : ℕ) (had now : B) → IsOfGiven diary_of old number had now → IsOfGiven diary_of new number had now
  of_given-stopped number had now is = record {
    box = record { untouched = λ none. is.box.untouched (λ one. none (starts number one)); diary = is.box.diary };
    told = no_longer new.status stopped;
  }

  pub KeepBoxes-stopped : ((number : ℕ) (worker : B) → idle_at number new.places ≡ Some worker → idle_at number old.places ≡ Some worker)
      → KeepBoxes diary_of given old → KeepBoxes diary_of given new
  KeepBoxes-stopped stays keep number worker idle =
      IsSomeAnd-weaker (slice_get given number) (λ hand. of_given-stopped number hand.worker worker) (keep number worker (stays number worker idle))

  -- and a worker that was away is back
  pub KeepBoxes-given_up : (kind_of : B → Kind) (back : B) (at : ℕ) (has owes : Option (List Entry))
      → new.places ≡ changed_at (made_back kind_of back) at old.places → IsDiaryLater has (diary_of back) → KeepBoxesOut diary_of at has owes given old
      → KeepBoxes diary_of given new
  KeepBoxes-given_up kind_of back at has owes places later keep =
      KeepBoxes-back diary_of given old new kind_of back at places
      (λ n other idle. IsSomeAnd-weaker (slice_get given n) (λ hand. of_given-stopped n hand.worker other) (keep.others n other idle))
      (IsSomeAnd-weaker (slice_get given at)
      (λ hand out. of_given-back diary_of has owes at hand.worker back
      (record { started = starts at out.started; diary = out.diary; told = no_longer new.status stopped }) later (no_longer new.status stopped))
      keep.own)
