-- How many works a drain may still start, after a change of the records.
use Rattle.std.proofs.Common.{◌≡◌, ◌≢◌, ◌&&◌, ◌||◌, ℕ, ◌+◌, ◌-◌, ◌*◌, ◌^◌, ◌<◌, ◌≤◌, Bool, true, false, not, cond, eqb, List, [], ◌∷◌, filter, map, min, Some, IfSome, refl, subst, sym, ◌∙◌, ap, inl, inr, arith}
use Rattle.std.specs.List.{AllByRecursion, list_all}
use Rattle.std.specs.Prelude.{count_by, nat_le}
use Rattle.std.proofs.lemmas.Bool.{and_from, and_left, and_parts, and_right, cases_Bool, cond-false, cond_both, eq-eqb, eqb-false, eqb-true, false≢true, lt-leb, lt-ltb, ne_eqb, or_cases, or_left, or_right}
use Rattle.std.proofs.lemmas.Nat.{pow_pos}
use Rattle.wm_machine.proofs.Changes.{IsChange, OfNumber, Succeeded}
use Rattle.wm_machine.proofs.Runnings.{changed}
use Rattle.wm_machine.proofs.Firsts.{first_of-startable, first_of-stored, IsStartable-from}
use Rattle.wm_collections.proofs.Lists.{All-any, All-weaker, All-with2, HasOne-weaker, all_pass, any_passes, count-cons, count-fewer, count-map, weight, list_all-each, list_all-weaker, list_any-false, list_any-map, list_any-one}
use Rattle.wm_machine.specs.Due.{due_of}
use Rattle.wm_machine.specs.Ends.{enqueued_again, retried}
use Rattle.wm_machine.specs.First.{all_met, first_of, has_succeeded, is_succeeded, is_waiting}
use Rattle.wm_collections.specs.Lists.{AllLater, HasOne, is_among}
use Rattle.wm_machine.specs.Runs.{other_runs}
use Rattle.wm_machine.specs.Valid.{HasSucceeded, IsAttemptIn, IsBefore, IsRecord}
use Rattle.wm_machine.specs.Waiting.{is_left, left_among, left_by_runs, may_leave_one}
use Rattle.wm_machine.specs.declared.record.How.TheVariants as how
use Rattle.wm_machine.specs.Types.{Period, Phase, Record, Run, State}
use Rattle.wm_machine.specs.declared.record.Phase.TheVariants as phase
use Rattle.wm_schedule.specs.Clamped.{IsPeriod}
use Rattle.wm_schedule.specs.Due.{due_at, wait_after}
use Rattle.wm_schedule.specs.Moments.{IsDelay}
use Rattle.wm_schedule.specs.declared.schedule.BackoffPolicy.{BackoffPolicy}
use Rattle.wm_schedule.specs.declared.schedule.BackoffPolicy.TheVariants.{Linear, Exponential}

-- ---- what has succeeded

pub succeeded_is : (p : Phase) → is_succeeded p ≡ true → Succeeded p
succeeded_is phase.Waiting is = absurd (false≢true is)
succeeded_is phase.Running is = absurd (false≢true is)
succeeded_is (phase.Done how.Succeeded) is = refl
succeeded_is (phase.Done how.Failed) is = absurd (false≢true is)
succeeded_is (phase.Done how.Cancelled) is = absurd (false≢true is)

-- a record of the number has succeeded
has_succeeded-one : (number : ℕ) (works : List Record) → has_succeeded works number ≡ true → HasOne (HasSucceeded number) works
has_succeeded-one number works is =
    HasOne-weaker works (λ work here.
    let parts = and_parts (eqb work.seq number) (is_succeeded work.phase) here in
    record { seq = eqb-true work.seq number parts.0; succeeded = succeeded_is work.phase parts.1 })
    (any_passes (λ work. eqb work.seq number && is_succeeded work.phase) works is)

one-has_succeeded : (number : ℕ) (works : List Record) → HasOne (HasSucceeded number) works → has_succeeded works number ≡ true
one-has_succeeded number works one =
    list_any-one (λ work. eqb work.seq number && is_succeeded work.phase) works
    (HasOne-weaker works (λ work is. and_from _ _ (eq-eqb work.seq number is.seq) (ap is_succeeded is.succeeded)) one)

-- no record of the number has
none-has_succeeded : (number : ℕ) (works : List Record) → AllByRecursion (λ work. work.seq ≡ number → Succeeded work.phase → ⊥) works
    → has_succeeded works number ≡ false
none-has_succeeded number works none =
    list_any-false (λ work. eqb work.seq number && is_succeeded work.phase) works (All-weaker works (λ work not. elim (cases_Bool (is_succeeded work.phase)) [
      | inl has ↦ and_left _ _ (ne_eqb work.seq number (λ same. not same (succeeded_is work.phase has)))
      | inr hasnt ↦ and_right _ _ hasnt
    ]) none)

-- every prerequisite of a work has succeeded
pub met-succeeded : (works : List Record) (work : Record) → all_met works work ≡ true → AllByRecursion (λ number. HasOne (HasSucceeded number) works) work.prior
unfolding all_met
met-succeeded works work met = All-weaker work.prior (λ number is. has_succeeded-one number works is) (all_pass (has_succeeded works) work.prior met)

each-met : (works : List Record) (prior : List ℕ) → AllByRecursion (λ number. HasOne (HasSucceeded number) works) prior
    → list_all (has_succeeded works) prior ≡ true
each-met works prior all = list_all-each (has_succeeded works) prior (All-weaker prior (λ number one. one-has_succeeded number works one) all)

-- a prerequisite that hasn't blocks a work
one_fails : (works : List Record) (prior : List ℕ) (number : ℕ) → is_among prior number ≡ true → has_succeeded works number ≡ false
    → list_all (has_succeeded works) prior ≡ false
one_fails works [] number is fails = absurd (false≢true is)
one_fails works (first ∷ prior) number is fails =
    elim (or_cases (eqb first number) (is_among prior number) is) [
      | inl here ↦ and_left _ _ (ap (has_succeeded works) (eqb-true first number here) ∙ fails)
      | inr there ↦ and_right _ _ (one_fails works prior number there fails)
    ]

blocked-by : (works : List Record) (work : Record) (number : ℕ) → is_among work.prior number ≡ true → has_succeeded works number ≡ false
    → all_met works work ≡ false
unfolding all_met
blocked-by works work number is fails = one_fails works work.prior number is fails

-- ---- how many pass a test

weight-most : (passes : Bool) → weight passes ≤ 1
weight-most true = omega arith
weight-most false = omega arith

weight-less : (before now : Bool) → (now ≡ true → before ≡ true) → weight now ≤ weight before
weight-less true now implied = weight-most now
weight-less false true implied = absurd (false≢true (implied refl))
weight-less false false implied = omega arith

-- one more passes at most, where but for the record of one number each that passes after a change did before
count_one_more : (before now : Record → Bool) (change : Record → Record) (seq : ℕ) (works : List Record) → AllLater IsBefore works
    → AllByRecursion (λ work. work.seq ≢ seq → now (change work) ≡ true → before work ≡ true) works
    → count_by now (map change works) ≤ count_by before works + 1
count_one_more before now change seq [] order old = omega arith
count_one_more before now change seq (work ∷ works) order old =
    let was = count-cons before work works in
    let is = count-cons now (change work) (map change works) in
    elim (cases_Bool (eqb work.seq seq)) [
      | inl e ↦
          let same = eqb-true work.seq seq e in
          let rest = count-map before now change works (All-with2 works (λ other above old. old (λ also.
          let less = above.number in absurd (omega (arith, less, same, also)))) order.0 old.1) in
          let most = weight-most (now (change work)) in
          omega (arith, was, is, rest, most)
      | inr e ↦
          let rest = count_one_more before now change seq works order.1 old.1 in
          let one = weight-less (before work) (now (change work)) (old.0 (eqb-false work.seq seq e)) in
          omega (arith, was, is, rest, one)
    ]

-- ---- after a change

-- a work that is left to a drain after a change was left to it before
abbrev pub IsOldLeft : ℕ → List Record → (Record → Record) → Record → Type 0
IsOldLeft now works change work = is_left now (map change works) (change work) ≡ true → is_left now works work ≡ true

-- as one that isn't left
pub left-gone : (now : ℕ) (works : List Record) (change : Record → Record) (work : Record) → is_left now (map change works) (change work) ≡ false
    → IsOldLeft now works change work
left-gone now works change work gone left = absurd (false≢true (sym gone ∙ left))

-- whether a work is left goes by its phase, by when it is due and by its prerequisites
left-same : (now : ℕ) (works : List Record) (work other : Record) → other.phase ≡ work.phase → due_of other ≡ due_of work → other.prior ≡ work.prior
    → is_left now works other ≡ is_left now works work
unfolding all_met
left-same now works work other phase_is due prior =
    ap (λ p. is_waiting p && (nat_le (due_of other) now || not (list_all (has_succeeded works) other.prior))) phase_is
    ∙ ap (λ moment. is_waiting work.phase && (nat_le moment now || not (list_all (has_succeeded works) other.prior))) due
    ∙ ap (λ numbers. is_waiting work.phase && (nat_le (due_of work) now || not (list_all (has_succeeded works) numbers))) prior

still_blocked : (before now : Bool) → (before ≡ true → now ≡ true) → not now ≡ true → not before ≡ true
still_blocked true now implied blocked = absurd (false≢true (sym (ap not (implied refl)) ∙ blocked))
still_blocked false now implied blocked = refl

module _ (now : ℕ) (works : List Record) (change : Record → Record) (is : IsChange works change) where
  -- a number that has succeeded still has
  still_succeeded : (number : ℕ) → has_succeeded works number ≡ true → has_succeeded (map change works) number ≡ true
  still_succeeded number =
      list_any-map (λ work. eqb work.seq number && is_succeeded work.phase) (λ work. eqb work.seq number && is_succeeded work.phase) change works
      (All-weaker works (λ work stays passes.
      let parts = and_parts (eqb work.seq number) (is_succeeded work.phase) passes in
      and_from _ _ (ap (λ n. eqb n number) (is.same work).seq ∙ parts.0) (ap is_succeeded (stays (succeeded_is work.phase parts.1)))) is.stays)

  still_met : (work : Record) → all_met works work ≡ true → all_met (map change works) work ≡ true
  unfolding all_met
  still_met work met = list_all-weaker (has_succeeded works) (has_succeeded (map change works)) work.prior still_succeeded met

  -- what is left after it, in its phase and due as before, was left before
  pub left-kept : (work : Record) → (change work).phase ≡ work.phase → due_of (change work) ≡ due_of work → IsOldLeft now works change work
  left-kept work phase_is due left =
      let then = map change works in
      let same = left-same now then work (change work) phase_is due (is.same work).prior in
      let parts = and_parts (is_waiting work.phase) (nat_le (due_of work) now || not (all_met then work)) (sym same ∙ left) in
      and_from _ _ parts.0 (elim (or_cases (nat_le (due_of work) now) (not (all_met then work)) parts.1) [
        | inl early ↦ or_left _ _ early
        | inr blocked ↦ or_right _ _ (still_blocked (all_met works work) (all_met then work) (still_met work) blocked)
      ])

  -- no more are left
  pub left_among-changed : AllByRecursion (IsOldLeft now works change) works → left_among now (map change works) ≤ left_among now works
  left_among-changed old = count-map (is_left now works) (is_left now (map change works)) change works old

  -- fewer are left, where one was that isn't
  pub left_among-fewer : AllByRecursion (IsOldLeft now works change) works
      → HasOne (λ work. (is_left now works work ≡ true) × (is_left now (map change works) (change work) ≡ false)) works
      → left_among now (map change works) < left_among now works
  left_among-fewer old one = count-fewer (is_left now works) (is_left now (map change works)) change works old one

  -- a work that is put back to be retried isn't left, where its prerequisites have succeeded
  pub met-then : (work : Record) → AllByRecursion (λ number. HasOne (HasSucceeded number) works) work.prior → all_met (map change works) work ≡ true
  unfolding all_met
  met-then work have = list_all-weaker (has_succeeded works) (has_succeeded (map change works)) work.prior still_succeeded (each-met works work.prior have)

-- a work is left as before, where it isn't the record of this number
pub left-others : (now seq : ℕ) (change : Record → Record) (works : List Record) → IsChange works (changed change seq)
    → AllByRecursion (λ work. work.seq ≢ seq → IsOldLeft now works (changed change seq) work) works
left-others now seq change works is =
    All-any works (λ work differs.
    let here : changed change seq work ≡ work = cond-false (eqb work.seq seq) (change work) work (ne_eqb work.seq seq differs) in
    left-kept now works (changed change seq) is work (ap (λ (w : Record). w.phase) here) (ap due_of here))

-- and isn't, where it is
pub left-one : (now seq : ℕ) (change : Record → Record) (works : List Record) → IsChange works (changed change seq)
    → AllByRecursion (OfNumber seq (λ work. is_left now (map (changed change seq) works) (change work) ≡ false)) works
    → AllByRecursion (IsOldLeft now works (changed change seq)) works
left-one now seq change works is gone =
    All-with2 works (λ work away others. elim (cases_Bool (eqb work.seq seq)) [
      | inl e ↦
          let here : changed change seq work ≡ change work = ap (λ b. cond b (change work) work) e in
          left-gone now works (changed change seq) work (ap (is_left now (map (changed change seq) works)) here ∙ away (eqb-true work.seq seq e))
      | inr e ↦ others (eqb-false work.seq seq e)
    ]) gone (left-others now seq change works is)

-- a work that waits for the success of this number was left
pub blocked-left : (now : ℕ) (works : List Record) (work : Record) (number : ℕ) → is_waiting work.phase ≡ true → is_among work.prior number ≡ true
    → AllByRecursion (λ other. other.seq ≡ number → Succeeded other.phase → ⊥) works → is_left now works work ≡ true
blocked-left now works work number waits is none =
    and_from _ _ waits (or_right _ _ (ap not (blocked-by works work number is (none-has_succeeded number works none))))

-- a work that doesn't wait isn't left
pub left-idle : (now : ℕ) (works : List Record) (work : Record) → is_waiting work.phase ≡ false → is_left now works work ≡ false
left-idle now works work idle = and_left _ _ idle

-- one more is left at most, where but for the record of one number each that is left was left before
pub left_among-one_more : (now seq : ℕ) (works : List Record) (change : Record → Record) → AllLater IsBefore works
    → AllByRecursion (λ work. work.seq ≢ seq → IsOldLeft now works change work) works
    → left_among now (map change works) ≤ left_among now works + 1
left_among-one_more now seq works change order old = count_one_more (is_left now works) (is_left now (map change works)) change seq works order old

-- fewer are left, once the first of them is started or fails
pub left_among-started : (s : State) (work : Record) (change : Record → Record) → first_of s ≡ Some work → IsChange s.works change
    → AllByRecursion (IsOldLeft s.now s.works change) s.works → is_left s.now (map change s.works) (change work) ≡ false
    → left_among s.now (map change s.works) < left_among s.now s.works
left_among-started s work change first is old gone =
    let startable = IsStartable-from s work (first_of-startable s work first) in
    let left : is_left s.now s.works work ≡ true = and_from _ _ startable.waiting (or_left _ _ startable.due) in
    left_among-fewer s.now s.works change is old
    (HasOne-weaker s.works (λ other same. (ap (is_left s.now s.works) same ∙ left, ap (λ w. is_left s.now (map change s.works) (change w)) same ∙ gone))
    (first_of-stored s work first))

-- ---- the runs

-- as many of the runs that are kept may leave a work due at once, or fewer
left_by_runs-kept : (keep : Run → Bool) (runs : List Run) → left_by_runs (filter keep runs) ≤ left_by_runs runs
left_by_runs-kept keep [] = omega arith
left_by_runs-kept keep (run ∷ runs) =
    let rest = left_by_runs-kept keep runs in
    let first = count-cons may_leave_one run runs in
    cond_both (keep run) (run ∷ filter keep runs) (filter keep runs) (λ (l : List Run). left_by_runs l ≤ left_by_runs (run ∷ runs))
    (λ e. omega (arith, rest, first, count-cons may_leave_one run (filter keep runs))) (λ e. omega (arith, rest, first))

-- fewer, where one isn't kept that may
left_by_runs-fewer : (keep : Run → Bool) (runs : List Run) → HasOne (λ run. (may_leave_one run ≡ true) × (keep run ≡ false)) runs
    → left_by_runs (filter keep runs) + 1 ≤ left_by_runs runs
left_by_runs-fewer keep [] one = absurd one
left_by_runs-fewer keep (run ∷ runs) (inl is) =
    let rest = left_by_runs-kept keep runs in
    let first = count-cons may_leave_one run runs in
    let here : weight (may_leave_one run) ≡ 1 = ap weight is.0 in
    cond_both (keep run) (run ∷ filter keep runs) (filter keep runs) (λ (l : List Run). left_by_runs l + 1 ≤ left_by_runs (run ∷ runs))
    (λ e. absurd (false≢true (sym is.1 ∙ e))) (λ e. omega (arith, rest, first, here))
left_by_runs-fewer keep (run ∷ runs) (inr one) =
    let rest = left_by_runs-fewer keep runs one in
    let first = count-cons may_leave_one run runs in
    cond_both (keep run) (run ∷ filter keep runs) (filter keep runs) (λ (l : List Run). left_by_runs l + 1 ≤ left_by_runs (run ∷ runs))
    (λ e. omega (arith, rest, first, count-cons may_leave_one run (filter keep runs))) (λ e. omega (arith, rest, first))

-- so it is where a run is away
pub left_by_runs-away : (number : ℕ) (runs : List Run) → left_by_runs (other_runs number runs) ≤ left_by_runs runs
left_by_runs-away number runs = left_by_runs-kept (λ run. not (eqb run.run number)) runs

pub left_by_runs-ended : (run : Run) (runs : List Run) → HasOne (λ other. other ≡ run) runs → may_leave_one run ≡ true
    → left_by_runs (other_runs run.run runs) + 1 ≤ left_by_runs runs
left_by_runs-ended run runs stored may =
    left_by_runs-fewer (λ other. not (eqb other.run run.run)) runs (HasOne-weaker runs (λ other same. (
      ap may_leave_one same ∙ may,
      ap not (eq-eqb other.run run.run (ap (λ (r : Run). r.run) same)),
    )) stored)

-- ---- work that is put back

-- periodic work that is enqueued again without an override is due after now
due-again : (period : Period) (now : ℕ) (work : Record) → work.request.period ≡ Some period → IsRecord work
    → nat_le (due_of (enqueued_again false now work)) now ≡ false
unfolding due_of due_at
due-again period now work repeats is =
    let limits = subst (λ kind. IfSome kind (λ p. IsPeriod p × IsDelay p.period)) repeats is.request.within.period_is in
    let later : eqb (min (work.runs + 1) 1000000) 0 ≡ false = ne_eqb (min (work.runs + 1) 1000000) 0 (λ e. absurd (omega arith)) in
    let least = limits.0.least in
    rw (repeats, later) (lt-leb (now + period.period) now (omega arith))

-- and isn't left, since it names no prerequisite
pub left-again : (period : Period) (now : ℕ) (works : List Record) (work : Record) → work.request.period ≡ Some period → work.prior ≡ [] → IsRecord work
    → is_left now works (enqueued_again false now work) ≡ false
unfolding all_met
left-again period now works work repeats none is = rw (due-again period now work repeats is, none) refl

-- a product with a number of at least one is as great at least
times-some : (delay n : ℕ) → 1 ≤ n → delay ≤ delay * n
times-some delay n some = search (arith, some)

-- the wait after an attempt isn't nothing
some_wait : (policy : BackoffPolicy) (delay attempt : ℕ) → 1 ≤ delay → 1 ≤ attempt → 1 ≤ wait_after (record { policy = policy; delay = delay }) attempt
some_wait Linear delay attempt least some = let grown = times-some delay attempt some in omega (arith, grown, least)
some_wait Exponential delay attempt least some =
    let grown = times-some delay (2 ^ (attempt - 1)) (pow_pos (attempt - 1)) in omega (arith, grown, least)

-- work whose attempt is to be retried without an override is due after now
due-retried : (now : ℕ) (work : Record) → work.phase ≡ phase.Running → IsRecord work → nat_le (due_of (retried false now work)) now ≡ false
unfolding due_of due_at
due-retried now work running is =
    let least = is.request.within.backoff_is.least in
    let some : 1 ≤ work.attempt = subst (λ phase. IsAttemptIn phase work.attempt) running is.started in
    let wait = some_wait work.request.backoff.policy work.request.backoff.delay work.attempt (omega (arith, least)) some in
    rw (lt-ltb 0 work.attempt (omega (arith, some))) (lt-leb (now + wait_after work.request.backoff work.attempt) now (omega (arith, wait)))

-- and isn't left, where its prerequisites have succeeded
pub left-retried : (now : ℕ) (works : List Record) (work : Record) → work.phase ≡ phase.Running → IsRecord work → all_met works work ≡ true
    → is_left now works (retried false now work) ≡ false
unfolding all_met
left-retried now works work running is met = rw (due-retried now work running is, met) refl
