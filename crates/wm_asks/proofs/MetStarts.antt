-- A work whose delay, period or constraints were met starts, where nothing else keeps it waiting.
use Rattle.std.proofs.Common.{◌≡◌, ℕ, ◌<◌, ◌≤◌, Bool, true, false, cond, max, List, [], ◌∷◌, map, Option, Some, None, IfSome, Result, Ok, Err, refl, sym, ◌∙◌, ap, subst, inl, inr, arith, bytes_eq}
use Rattle.std.proofs.lemmas.Bool.{cases_Bool}
use Rattle.std.proofs.lemmas.Bool.Decides.{nat_tests}
use Rattle.std.specs.Prelude.{nat_lt}
use Rattle.wm_asks.proofs.Meetings.{meet-meets}
use Rattle.wm_asks.proofs.Readied.{starts-ready}
use Rattle.wm_asks.specs.Asked.{constraints_met, delay_met, due_met, or_refused, period_met, where_enqueued, where_fits, ComesTo}
use Rattle.wm_asks.specs.Clocks.{last_moment}
use Rattle.wm_asks.specs.Drains.{IsReady, IsStartOf}
use Rattle.wm_asks.specs.Meet.{meet}
use Rattle.wm_asks.specs.Parts.{IsCommandPart, IsPart, StartsWhatIsMet}
use Rattle.wm_asks.specs.declared.ask.Ask.{Ask}
use Rattle.wm_asks.specs.declared.ask.Ask.TheVariants as ask
use Rattle.wm_asks.specs.declared.ask.LiveRefusal.{LiveRefusal}
use Rattle.wm_asks.specs.declared.ask.LiveRefusal.TheVariants.{KindMismatch, NotWaiting, NeverDue}
use Rattle.wm_asks.specs.declared.ask.LiveReply.{LiveReply}
use Rattle.wm_asks.specs.declared.ask.LiveReply.TheVariants as answer
use Rattle.wm_collections.proofs.Lists.{find-stored, HasOne-weaker}
use Rattle.wm_collections.specs.Lists.{HasOne}
use Rattle.wm_conditions.specs.Met.{met}
use Rattle.wm_conditions.specs.declared.conditions.Conditions.{Conditions}
use Rattle.wm_machine.proofs.Steps.{Valid-after}
use Rattle.wm_machine.specs.Cancelled.{work_with_id}
use Rattle.wm_machine.specs.Due.{due_of}
use Rattle.wm_machine.specs.First.{all_met, is_waiting}
use Rattle.wm_machine.specs.Quiet.{IsQuiet}
use Rattle.wm_machine.specs.Replied.{unchanged, Outcome}
use Rattle.wm_machine.specs.Settings.{is_put_back_by, put_back}
use Rattle.wm_machine.specs.Shown.{shown_in, shown_of}
use Rattle.wm_machine.specs.Step.{after}
use Rattle.wm_machine.specs.declared.command.Command.{Command}
use Rattle.wm_machine.specs.declared.event.Event.{Event}
use Rattle.wm_machine.specs.declared.record.Phase.{Phase}
use Rattle.wm_machine.specs.declared.record.Record.{Record}
use Rattle.wm_machine.specs.declared.reply.Reply.{Reply}
use Rattle.wm_machine.specs.declared.state.Run.{Run}
use Rattle.wm_machine.specs.declared.state.State.{State}
use Rattle.wm_machine.specs.Valid.{Valid}
use Rattle.wm_machine.specs.declared.command.Command.TheVariants as command
use Rattle.wm_machine.specs.declared.event.Event.TheVariants as event
use Rattle.wm_machine.specs.declared.record.How.TheVariants as how
use Rattle.wm_machine.specs.declared.record.Phase.TheVariants as phase
use Rattle.wm_machine.specs.declared.record.Shown.{Shown}
use Rattle.wm_machine.specs.declared.record.Shown.TheVariants as shown
use Rattle.wm_machine.specs.declared.reply.Refusal.TheVariants.{MomentBack}
use Rattle.wm_machine.specs.declared.reply.Reply.TheVariants as reply

-- ---- what an ask that was answered by Did comes to

module _ (s : State) (line : ℕ) (told : Reply) (events : List Event) (last : State) (id : List ℕ) where
  -- it wasn't refused
  abbrev IsDone : Result Command LiveRefusal → Type 0
  IsDone come = IsPart s line (or_refused come) (answer.Did told) events last

  refused-done : (refusal : LiveRefusal) → IsDone (Err refusal) → ⊥
  refused-done refusal part =
      let clash : answer.Did told ≡ answer.Refused refusal = part.0 in absurd (cc)

  fits-done : (fits : Bool) (come : Result Command LiveRefusal) → IsDone (where_fits id fits come) → IsDone come
  fits-done true come part = part
  fits-done false come part = absurd (refused-done (KindMismatch id) part)

  enqueued-done : (state : Shown) (come : Result Command LiveRefusal) → IsDone (where_enqueued id state come) → (state ≡ shown.Enqueued) × IsDone come
  enqueued-done shown.Enqueued come part = (refl, part)
  enqueued-done shown.Running come part = absurd (refused-done (NotWaiting id shown.Running) part)
  enqueued-done shown.Succeeded come part = absurd (refused-done (NotWaiting id shown.Succeeded) part)
  enqueued-done shown.Failed come part = absurd (refused-done (NotWaiting id shown.Failed) part)
  enqueued-done shown.Blocked come part = absurd (refused-done (NotWaiting id shown.Blocked) part)
  enqueued-done shown.Cancelled come part = absurd (refused-done (NotWaiting id shown.Cancelled) part)

  due-done : (now due : ℕ) → IsDone (due_met id now due) → IsDone (Ok (command.Moment (max now due)))
  due-done now due part = elim (cases_Bool (nat_lt last_moment due)) as (λ _. IsDone (Ok (command.Moment (max now due)))) [
    | inl e ↦ absurd (refused-done (NeverDue id due) (rw e at part))
    | inr e ↦ rw e at part
  ]

-- ---- the state after it

-- work that shows that it is enqueued waits, and its prerequisites have succeeded
enqueued-waits : (p : Phase) (all : Bool) → shown_in p all ≡ shown.Enqueued → (is_waiting p ≡ true) × (all ≡ true)
enqueued-waits phase.Waiting true is = (refl, refl)
enqueued-waits phase.Waiting false is = absurd (cc)
enqueued-waits phase.Running all is = absurd (cc)
enqueued-waits (phase.Done how.Succeeded) all is = absurd (cc)
enqueued-waits (phase.Done how.Failed) all is = absurd (cc)
enqueued-waits (phase.Done how.Cancelled) all is = absurd (cc)

not-lt : (n m : ℕ) → n ≤ m → nat_lt m n ≡ false
not-lt n m less = grind (arith, nat_tests)

-- a moment that isn't below the present one is the present one afterwards
after-moment : (s : State) (line at : ℕ) (told : Reply) → s.now ≤ at → after s (event.Command line (command.Moment at) told) ≡ record s { now = at }
after-moment s line at told later =
    ap (λ b. (cond b (unchanged s (reply.Refused (MomentBack s.now))) (record { reply = reply.Moment; state = record s { now = at } })).state)
    (not-lt s.now at later)

none-put_back : (conditions : Conditions) (works : List Record)
    → map (λ work. cond (is_put_back_by conditions [] work) (put_back work) work) works ≡ works
none-put_back conditions [] = refl
none-put_back conditions (work ∷ works) = ap (λ (rest : List Record). work ∷ rest) (none-put_back conditions works)

-- where no run is out, conditions that change leave the works
after-conditions : (s : State) (line : ℕ) (conditions : Conditions) (told : Reply) → s.runs ≡ []
    → (after s (event.Command line (command.Conditions conditions) told)).works ≡ s.works
after-conditions s line conditions told none =
    ap (λ (runs : List Run). map (λ work. cond (is_put_back_by conditions runs work) (put_back work) work) s.works) none
    ∙ none-put_back conditions s.works

-- ---- it starts

module _ (s : State) (line : ℕ) (told : Reply) (events : List Event) (last : State) (valid : Valid s) (quiet : IsQuiet s) (id : List ℕ) (work : Record)
    (found : work_with_id s.works id ≡ Some work) (enqueued : shown_of s.works work ≡ shown.Enqueued) where
  waits : (is_waiting work.phase ≡ true) × (all_met s.works work ≡ true)
  waits = enqueued-waits work.phase (all_met s.works work) enqueued

  -- a command after which the work is ready starts it
  starts-after : (asked : Command) (part : IsCommandPart s line asked told events last) (t : State) → after s (event.Command line asked told) ≡ t
      → t.works ≡ s.works → due_of work ≤ t.now → met work.request.constraints t.conditions ≡ true → HasOne (IsStartOf work.seq) events
  starts-after asked part t is works due constraints =
      let e = event.Command line asked told in
      let ready : IsReady work.seq t work =
      record {
        seq = refl;
        waiting = waits.0;
        prerequisites = subst (λ (l : List Record). all_met l work ≡ true) (sym works) waits.1;
        due = due;
        constraints = constraints;
      } in
      let one : HasOne (IsReady work.seq t) t.works =
      subst (HasOne (IsReady work.seq t)) (sym works)
      (HasOne-weaker s.works (λ other same. subst (IsReady work.seq t) (sym same) ready)
      (find-stored (λ (other : Record). bytes_eq other.request.id id) s.works work found)) in
      let starts =
      starts-ready work.seq (after s e) part.drain last (Valid-after s e valid part.legal) part.drained
      (subst (λ (u : State). HasOne (IsReady work.seq u) u.works) (sym is) one) in
      subst (HasOne (IsStartOf work.seq)) (sym part.events_are) (inr starts)

  starts-due : IsCommandPart s line (command.Moment (max s.now (due_of work))) told events last → met work.request.constraints s.conditions ≡ true
      → HasOne (IsStartOf work.seq) events
  starts-due part constraints =
      let at = max s.now (due_of work) in
      starts-after (command.Moment at) part (record s { now = at }) (after-moment s line at told (omega arith)) refl (omega arith) constraints

  starts-met : IsCommandPart s line (command.Conditions (meet work.request.constraints s.conditions)) told events last → due_of work ≤ s.now
      → HasOne (IsStartOf work.seq) events
  starts-met part due =
      let conditions = meet work.request.constraints s.conditions in
      starts-after (command.Conditions conditions) part (after s (event.Command line (command.Conditions conditions) told)) refl
      (after-conditions s line conditions told quiet.no_run) due (meet-meets work.request.constraints s.conditions)

module _ (s : State) (line : ℕ) (told : Reply) (events : List Event) (last : State) (valid : Valid s) (quiet : IsQuiet s) (id : List ℕ) where
  delay-starts : (found : Option Record) → work_with_id s.works id ≡ found → IsDone s line told events last id (delay_met s id found)
      → IfSome found (λ work. met work.request.constraints s.conditions ≡ true → HasOne (IsStartOf work.seq) events)
  delay-starts None is part = tt
  delay-starts (Some work) is part =
      let fits = fits-done s line told events last id _ _ part in
      let enqueued = enqueued-done s line told events last id _ _ fits in
      starts-due s line told events last valid quiet id work is enqueued.0 (due-done s line told events last id s.now (due_of work) enqueued.1)

  period-starts : (found : Option Record) → work_with_id s.works id ≡ found → IsDone s line told events last id (period_met s id found)
      → IfSome found (λ work. met work.request.constraints s.conditions ≡ true → HasOne (IsStartOf work.seq) events)
  period-starts None is part = tt
  period-starts (Some work) is part =
      let fits = fits-done s line told events last id _ _ part in
      let enqueued = enqueued-done s line told events last id _ _ fits in
      starts-due s line told events last valid quiet id work is enqueued.0 (due-done s line told events last id s.now (due_of work) enqueued.1)

  constraints-starts : (found : Option Record) → work_with_id s.works id ≡ found → IsDone s line told events last id (constraints_met s id found)
      → IfSome found (λ work. due_of work ≤ s.now → HasOne (IsStartOf work.seq) events)
  constraints-starts None is part = tt
  constraints-starts (Some work) is part =
      let enqueued = enqueued-done s line told events last id _ _ part in
      starts-met s line told events last valid quiet id work is enqueued.0 enqueued.1

pub met-starts : (s : State) (line : ℕ) (asked : Ask) (told : List ℕ) (come : Result Command LiveReply) (given : LiveReply) (events : List Event) (last : State)
    → Valid s → IsQuiet s → ComesTo s asked told come → IsPart s line come given events last → StartsWhatIsMet s asked given events
met-starts s line (ask.DelayMet id) told come (answer.Did reply) events last valid quiet comes part =
    delay-starts s line reply events last valid quiet id (work_with_id s.works id) refl
    (subst (λ come. IsPart s line come (answer.Did reply) events last) comes.1 part)
met-starts s line (ask.PeriodMet id) told come (answer.Did reply) events last valid quiet comes part =
    period-starts s line reply events last valid quiet id (work_with_id s.works id) refl
    (subst (λ come. IsPart s line come (answer.Did reply) events last) comes.1 part)
met-starts s line (ask.ConstraintsMet id) told come (answer.Did reply) events last valid quiet comes part =
    constraints-starts s line reply events last valid quiet id (work_with_id s.works id) refl
    (subst (λ come. IsPart s line come (answer.Did reply) events last) comes.1 part)
met-starts s line _ told come _ events last valid quiet comes part = tt
