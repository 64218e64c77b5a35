-- A work that waits for nothing but a worker does so until it is started.
use Rattle.std.proofs.Common.{◌≡◌, ◌≢◌, ◌⊎◌, ℕ, zero, suc, ◌<◌, ◌≤◌, ◌&&◌, ◌||◌, Bool, true, false, not, cond, eqb, List, [], ◌∷◌, ◌++◌, map, Option, Some, None, refl, sym, ◌∙◌, ap, subst, inl, inr, arith}
use mathlib.Core.List.{reverse, reverse-reverse}
use Rattle.std.proofs.lemmas.Bool.{and_from, and_left, and_right, cases_Bool, cond-false, cond_both, eq-eqb, eqb-true, false≢true, lt-leb, ne_eqb, not-true, or_cases, true≢false}
use Rattle.std.specs.List.{list_any, AllByRecursion}
use Rattle.std.specs.Prelude.{nat_le}
use Rattle.wm_asks.specs.Drains.{GoesAsDrain, IsDrain, IsReady, IsStartOf}
use Rattle.wm_collections.proofs.Lists.{All-stored, All-weaker, All-with2, HasOne-map, HasOne-reverse, list_any-map, list_all-weaker, one_gives}
use Rattle.wm_collections.specs.Lists.{HasOne, is_among}
use Rattle.wm_conditions.specs.Met.{met}
use Rattle.wm_data.specs.declared.data.DataEntry.{DataEntry}
use Rattle.wm_machine.proofs.Changes.{Succeeded}
use Rattle.wm_machine.proofs.Descendants.{descendants_where}
use Rattle.wm_machine.proofs.EndedRuns.{running_of}
use Rattle.wm_machine.proofs.Endings.{closed_in, end_by, end_in, freed_in, not_started_by, success}
use Rattle.wm_machine.proofs.Finishes.{after_finish, after_timed_out}
use Rattle.wm_machine.proofs.Firsts.{first_of-stored, first_of-waiting}
use Rattle.wm_machine.proofs.Runnings.{changed, IsAlone-stored}
use Rattle.wm_machine.proofs.StartFailures.{after_start_failed, not_started_in}
use Rattle.wm_machine.proofs.Starts.{after_start}
use Rattle.wm_machine.proofs.Steps.{Valid-after}
use Rattle.wm_machine.proofs.Turns.{after_turn}
use Rattle.wm_machine.proofs.Waitings.{met-succeeded, succeeded_is}
use Rattle.wm_machine.specs.Closed.{descendants, is_open, is_reached, IsDescendant, IsDescendantWhere}
use Rattle.wm_machine.specs.Due.{due_of}
use Rattle.wm_machine.specs.Ends.{enqueued_again, is_freed, period_of, retried, returned_of, succeeded, with_output}
use Rattle.wm_machine.specs.First.{all_met, first_of, has_room, has_succeeded, is_startable, is_succeeded, is_waiting}
use Rattle.wm_machine.specs.Log.{command_in, commands_of}
use Rattle.wm_machine.specs.Replay.{Replay}
use Rattle.wm_machine.specs.Runs.{changed_work, run_numbered, started}
use Rattle.wm_machine.specs.Step.{after, Legal}
use Rattle.wm_machine.specs.Turns.{telling}
use Rattle.wm_machine.specs.declared.event.End.{End}
use Rattle.wm_machine.specs.declared.event.Event.{Event}
use Rattle.wm_machine.specs.declared.record.Phase.{Phase}
use Rattle.wm_machine.specs.declared.record.Record.{Record}
use Rattle.wm_machine.specs.declared.state.Run.{Run}
use Rattle.wm_machine.specs.declared.state.State.{State}
use Rattle.wm_machine.specs.Valid.{ArePriorSound, HasSucceeded, IsRecord, Valid}
use Rattle.wm_machine.specs.declared.event.End.TheVariants.{Success, Failure, Retry}
use Rattle.wm_machine.specs.declared.event.Event.TheVariants as event
use Rattle.wm_machine.specs.declared.record.How.TheVariants as how
use Rattle.wm_machine.specs.declared.record.Phase.TheVariants as phase
use Rattle.wm_schedule.specs.declared.schedule.Period.{Period}
use Rattle.wm_steps.proofs.Firsts.{none-startable}
use Rattle.wm_steps.proofs.Wakings.{rooms-quiet}

-- ---- phases

-- what has succeeded isn't unfinished, and doesn't wait
succeeded-closed : (p : Phase) → is_succeeded p ≡ true → is_open p ≡ false
succeeded-closed p is = ap is_open (succeeded_is p is)

succeeded-idle : (p : Phase) → is_succeeded p ≡ true → is_waiting p ≡ false
succeeded-idle p is = ap is_waiting (succeeded_is p is)

waiting-not_yet : (p : Phase) → is_waiting p ≡ true → is_succeeded p ≡ true → ⊥
waiting-not_yet p waits is = false≢true (sym (succeeded-idle p is) ∙ waits)

running-idle : (p : Phase) → p ≡ phase.Running → is_waiting p ≡ true → ⊥
running-idle p running waits = false≢true (sym (ap is_waiting running) ∙ waits)

running-not_yet : (p : Phase) → p ≡ phase.Running → is_succeeded p ≡ true → ⊥
running-not_yet p running is = false≢true (sym (ap is_succeeded running) ∙ is)

-- ---- descendants

-- a descendant is the number of a record
number-there : (seq : ℕ) (works : List Record) (number : ℕ) → is_among (descendants seq works) number ≡ true → HasOne (λ work. work.seq ≡ number) works
number-there seq [] number = λ is. absurd (false≢true is)
number-there seq (work ∷ earlier) number =
    cond_both (eqb work.seq seq || list_any (is_among (descendants seq earlier)) work.prior) (work.seq ∷ descendants seq earlier) (descendants seq earlier)
    (λ (numbers : List ℕ). is_among numbers number ≡ true → HasOne (λ (w : Record). w.seq ≡ number) (work ∷ earlier))
    (λ e is. elim (or_cases (eqb work.seq number) (is_among (descendants seq earlier) number) is) [
      | inl here ↦ inl (eqb-true work.seq number here)
      | inr there ↦ inr (number-there seq earlier number there)
    ]) (λ e is. inr (number-there seq earlier number is))

descendant-there : (seq : ℕ) (works : List Record) (number : ℕ) → IsDescendant seq works number → HasOne (λ work. work.seq ≡ number) works
descendant-there seq works number is =
    subst (HasOne (λ (work : Record). work.seq ≡ number)) (reverse-reverse works)
    (HasOne-reverse _ (reverse works) (number-there seq (reverse works) number is))

module _ (s : State) (target : ℕ) (valid : Valid s)
    (not_yet : AllByRecursion (λ work. work.seq ≡ target → is_succeeded work.phase ≡ true → ⊥) s.works) where
  -- what holds of a record of these, and of its place among them
  abbrev IsSeen : Record → Type 0
  IsSeen work =
      HasOne (λ (other : Record). other ≡ work) s.works
      × (IsDescendantWhere target s.works work
      × (ArePriorSound s.works work.phase work.prior × (IsRecord work × (work.seq ≡ target → is_succeeded work.phase ≡ true → ⊥))))

  each-seen : AllByRecursion IsSeen s.works
  each-seen =
      All-with2 s.works (λ work stored rest. (stored, rest)) (All-stored s.works)
      (All-with2 s.works (λ work reason rest. (reason, rest)) (descendants_where s target valid)
      (All-with2 s.works (λ work sound rest. (sound, rest)) valid.works.sound
      (All-with2 s.works (λ work fine apart. (fine, apart)) valid.works.records not_yet)))

  -- each record of this number has succeeded
  abbrev IsDone : ℕ → Record → Type 0
  IsDone number work = work.seq ≡ number → work.phase ≡ phase.Done how.Succeeded

  abbrev IsDoneBefore : Record → ℕ → Type 0
  IsDoneBefore work number = AllByRecursion (IsDone number) s.works × ((1 ≤ number) × (number < work.seq))

  -- what has succeeded is no descendant of what hasn't
  succeeded-apart : (n : ℕ) (work : Record) → work.seq < n → IsSeen work → is_succeeded work.phase ≡ true → IsDescendant target s.works work.seq → ⊥
  succeeded-apart zero work below seen done is = omega (arith, below)
  succeeded-apart (suc n) work below seen done is =
      elim (seen.1.0.0 is) [
        | inl self ↦ seen.1.1.1.1 self done
        | inr one ↦
            one_gives {A = IsDoneBefore work} work.prior (λ number (both : IsDoneBefore work number) descendant.
            one_gives {A = λ other. IsSeen other × IsDone number other} s.works (λ other (both_of : IsSeen other × IsDone number other) same.
            let less : number < work.seq = both.1.1 in
            let done_too : other.phase ≡ phase.Done how.Succeeded = both_of.1 same in
            succeeded-apart n other (omega (arith, below, less, same)) both_of.0 (ap is_succeeded done_too)
            (subst (IsDescendant target s.works) (sym same) descendant))
            (All-with2 s.works (λ other seen_too done_too. (seen_too, done_too)) each-seen both.0)
            (descendant-there target s.works number descendant))
            (All-with2 work.prior (λ number all limits. (all, limits))
            (subst (λ p. ArePriorSound s.works p work.prior) (succeeded_is work.phase done) seen.1.1.0) seen.1.1.1.0.prior.earlier) one
      ]

  -- nor is what waits and whose prerequisites have succeeded, but for the work itself
  ready-apart : (work : Record) → work.seq ≢ target → IsSeen work → all_met s.works work ≡ true → IsDescendant target s.works work.seq → ⊥
  ready-apart work differs seen met is =
      elim (seen.1.0.0 is) [
        | inl self ↦ differs self
        | inr one ↦
            one_gives {A = λ number. HasOne (HasSucceeded number) s.works} work.prior
            (λ number (has : HasOne (HasSucceeded number) s.works) descendant.
            one_gives {A = IsSeen} s.works (λ other (seen_too : IsSeen other) (done : HasSucceeded number other).
            succeeded-apart (suc other.seq) other (omega arith) seen_too (ap is_succeeded done.succeeded)
            (subst (IsDescendant target s.works) (sym done.seq) descendant)) each-seen has) (met-succeeded s.works work met) one
      ]

  -- ---- records that stay

  changed-away : (change : Record → Record) (work : Record) → work.seq ≢ target → changed change target work ≡ work
  changed-away change work differs = cond-false (eqb work.seq target) (change work) work (ne_eqb work.seq target differs)

  -- a record that has succeeded is another one
  differs-done : (work : Record) → IsSeen work → is_succeeded work.phase ≡ true → work.seq ≢ target
  differs-done work seen done same = seen.1.1.1.1 same done

  closed-done : (work : Record) → is_succeeded work.phase ≡ true → closed_in how.Failed s.now target s.works work ≡ work
  unfolding is_reached
  closed-done work done =
      cond-false (is_reached target s.works work) _ work (and_left _ _ (succeeded-closed work.phase done))

  closed-ready : (work : Record) → work.seq ≢ target → IsSeen work → all_met s.works work ≡ true → closed_in how.Failed s.now target s.works work ≡ work
  unfolding is_reached
  closed-ready work differs seen met =
      cond-false (is_reached target s.works work) _ work (and_right _ _
      (not-true (is_among (descendants target (reverse s.works)) work.seq)
      (elim (cases_Bool (is_among (descendants target (reverse s.works)) work.seq)) as
      (λ _. not (is_among (descendants target (reverse s.works)) work.seq) ≡ true) [
        | inl e ↦ absurd (ready-apart work differs seen met e)
        | inr e ↦ ap not e
      ])))

  -- the work that ends isn't a prerequisite of one whose prerequisites have succeeded
  no-prerequisite : (work : Record) → all_met s.works work ≡ true → is_among work.prior target ≡ true → ⊥
  no-prerequisite work met among =
      one_gives {A = λ number. HasOne (HasSucceeded number) s.works} work.prior (λ number (has : HasOne (HasSucceeded number) s.works) same.
      one_gives {A = IsSeen} s.works (λ other (seen : IsSeen other) (done : HasSucceeded number other). seen.1.1.1.1 (done.seq ∙ same) (ap is_succeeded done.succeeded)) each-seen has) (met-succeeded s.works work met)
      (among-one work.prior target among)
    where
      among-one : (numbers : List ℕ) (number : ℕ) → is_among numbers number ≡ true → HasOne (λ one. one ≡ number) numbers
      among-one [] number is = absurd (false≢true is)
      among-one (first ∷ numbers) number is = elim (or_cases (eqb first number) (is_among numbers number) is) [
        | inl here ↦ inl (eqb-true first number here)
        | inr there ↦ inr (among-one numbers number there)
      ]

  module _ (then : List Record) where
    freed-done : (work : Record) → is_succeeded work.phase ≡ true → freed_in s.now target then work ≡ work
    freed-done work done = cond-false (is_freed target then work) _ work (and_left _ _ (succeeded-idle work.phase done))

    freed-ready : (work : Record) → all_met s.works work ≡ true → freed_in s.now target then work ≡ work
    freed-ready work met =
        cond-false (is_freed target then work) _ work (and_right _ _ (and_left _ _ (elim (cases_Bool (is_among work.prior target)) as
        (λ _. is_among work.prior target ≡ false) [
          | inl e ↦ absurd (no-prerequisite work met e)
          | inr e ↦ e
        ])))

  -- a change keeps what has succeeded, and what waits for nothing but a worker
  pub record Keeps (change : Record → Record) : Type 0 where
    pub done : (work : Record) → IsSeen work → is_succeeded work.phase ≡ true → change work ≡ work
    pub ready : (work : Record) → work.seq ≢ target → IsSeen work → all_met s.works work ≡ true → change work ≡ work

  keeps-changed : (change : Record → Record) → Keeps (changed change target)
  keeps-changed change = record {
    done = λ work seen done. changed-away change work (differs-done work seen done);
    ready = λ work differs seen met. changed-away change work differs;
  }

  keeps-closed : Keeps (closed_in how.Failed s.now target s.works)
  keeps-closed = record { done = λ work seen done. closed-done work done; ready = closed-ready }

  keeps-failed : (output : List DataEntry) → Keeps (λ work. changed (with_output output) target (closed_in how.Failed s.now target s.works work))
  keeps-failed output = record {
    done = λ work seen done.
        ap (changed (with_output output) target) (closed-done work done) ∙ changed-away (with_output output) work (differs-done work seen done);
    ready = λ work differs seen met.
        ap (changed (with_output output) target) (closed-ready work differs seen met) ∙ changed-away (with_output output) work differs;
  }

  keeps-success : (output : List DataEntry) → Keeps (success s.now target output s.works)
  keeps-success output =
      let then = changed_work (succeeded s.now output) target s.works in
      record {
        done = λ work seen done.
            ap (freed_in s.now target then) (changed-away (succeeded s.now output) work (differs-done work seen done)) ∙ freed-done then work done;
        ready = λ work differs seen met.
            ap (freed_in s.now target then) (changed-away (succeeded s.now output) work differs) ∙ freed-ready then work met;
      }

  pub keeps-end : (renewed : Bool) (period : Option Period) (end : End) → Keeps (end_by renewed s.now target period end s.works)
  keeps-end renewed period Retry = keeps-changed (retried renewed s.now)
  keeps-end renewed (Some period) (Success output) = keeps-changed (enqueued_again renewed s.now)
  keeps-end renewed (Some period) (Failure output) = keeps-changed (enqueued_again renewed s.now)
  keeps-end renewed None (Success output) = keeps-success output
  keeps-end renewed None (Failure output) = keeps-failed output

  pub keeps-not_started : (period : Option Period) → Keeps (not_started_by s.now target period s.works)
  keeps-not_started None = keeps-closed
  keeps-not_started (Some period) = keeps-changed (enqueued_again false s.now)

  -- ---- a work stays ready

  module _ (change : Record → Record) (keeps : Keeps change) (t : State) (works : t.works ≡ map change s.works) (now : t.now ≡ s.now)
      (conditions : t.conditions ≡ s.conditions) where
    still-succeeded : (number : ℕ) → has_succeeded s.works number ≡ true → has_succeeded (map change s.works) number ≡ true
    still-succeeded number =
        list_any-map (λ work. eqb work.seq number && is_succeeded work.phase) (λ work. eqb work.seq number && is_succeeded work.phase) change s.works
        (All-weaker s.works (λ work seen passes. keep-passing number work seen passes) each-seen)
      where
        keep-passing : (number : ℕ) (work : Record) → IsSeen work → (eqb work.seq number && is_succeeded work.phase) ≡ true
            → (eqb (change work).seq number && is_succeeded (change work).phase) ≡ true
        keep-passing number work seen passes =
            subst (λ (w : Record). (eqb w.seq number && is_succeeded w.phase) ≡ true)
            (sym (keeps.done work seen (second (eqb work.seq number) (is_succeeded work.phase) passes))) passes
          where
            second : (x y : Bool) → (x && y) ≡ true → y ≡ true
            second true y both = both
            second false y both = absurd (false≢true both)

    still-met : (work : Record) → all_met s.works work ≡ true → all_met (map change s.works) work ≡ true
    unfolding all_met
    still-met work met = list_all-weaker (has_succeeded s.works) (has_succeeded (map change s.works)) work.prior still-succeeded met

    pub ready-then : (number : ℕ) → number ≢ target → HasOne (IsReady number s) s.works → HasOne (IsReady number t) t.works
    ready-then number differs one =
        subst (HasOne (IsReady number t)) (sym works)
        (one_gives {A = IsSeen} s.works (λ work (seen : IsSeen work) (ready : IsReady number s work).
        let kept : change work ≡ work = keeps.ready work (λ same. differs (sym ready.seq ∙ same)) seen ready.prerequisites in
        HasOne-map (IsReady number t) change s.works (λ other is.
        subst (IsReady number t) (sym (ap change is ∙ kept)) (record {
          seq = ready.seq;
          waiting = ready.waiting;
          prerequisites = subst (λ (l : List Record). all_met l work ≡ true) (sym works) (still-met work ready.prerequisites);
          due = subst (λ (n : ℕ). due_of work ≤ n) (sym now) ready.due;
          constraints = ap (met work.request.constraints) conditions ∙ ready.constraints;
        })) seen.0) each-seen one)

-- ---- each event

-- a work that waits isn't that of a current run
running-other : (s : State) (seq number : ℕ) → AllByRecursion (λ work. work.seq ≡ seq → work.phase ≡ phase.Running) s.works
    → HasOne (IsReady number s) s.works → number ≢ seq
running-other s seq number running one same =
    one_gives {A = λ work. work.seq ≡ seq → work.phase ≡ phase.Running} s.works
    (λ work (runs : work.seq ≡ seq → work.phase ≡ phase.Running) (ready : IsReady number s work). running-idle work.phase (runs (ready.seq ∙ same)) ready.waiting) running one

module _ (s : State) (number : ℕ) (valid : Valid s) (one : HasOne (IsReady number s) s.works) where
  -- an event of a run that is current
  of-run : (run : Run) (asked : ℕ) (change : Record → Record) (t : State) → run_numbered asked s.runs ≡ Some run → run.current ≡ true
      → ((not_yet : AllByRecursion (λ work. work.seq ≡ run.seq → is_succeeded work.phase ≡ true → ⊥) s.works) → Keeps s run.seq valid not_yet change)
      → t.works ≡ map change s.works → t.now ≡ s.now → t.conditions ≡ s.conditions → HasOne (IsReady number t) t.works
  of-run run asked change t found current keeps works now conditions =
      let running = running_of s asked run valid found current in
      let not_yet : AllByRecursion (λ (work : Record). work.seq ≡ run.seq → is_succeeded work.phase ≡ true → ⊥) s.works =
      All-weaker s.works (λ work runs same done. running-not_yet work.phase (runs same) done) running in
      ready-then s run.seq valid not_yet change (keeps not_yet) t works now conditions number (running-other s run.seq number running one) one

  -- an event of the work that is first, which isn't this one
  of-first : (first : Record) (change : Record → Record) (t : State) → first_of s ≡ Some first → number ≢ first.seq
      → ((not_yet : AllByRecursion (λ work. work.seq ≡ first.seq → is_succeeded work.phase ≡ true → ⊥) s.works) → Keeps s first.seq valid not_yet change)
      → t.works ≡ map change s.works → t.now ≡ s.now → t.conditions ≡ s.conditions → HasOne (IsReady number t) t.works
  of-first first change t is differs keeps works now conditions =
      let not_yet : AllByRecursion (λ (work : Record). work.seq ≡ first.seq → is_succeeded work.phase ≡ true → ⊥) s.works =
      All-weaker s.works (λ work same e done. waiting-not_yet work.phase (ap (λ (w : Record). is_waiting w.phase) (same e) ∙ first_of-waiting s first is) done)
      (IsAlone-stored first s.works valid.works.in_order (first_of-stored s first is)) in
      ready-then s first.seq valid not_yet change (keeps not_yet) t works now conditions number differs one

  abbrev StaysReady : Event → Type 0
  StaysReady e = IsStartOf number e ⊎ HasOne (IsReady number (after s e)) (after s e).works

  stays-ready : (e : Event) → Legal s e → command_in e ≡ [] → StaysReady e
  stays-ready (event.Command line asked reply) legal silent = absurd (cc)
  stays-ready (event.Start run seq instance input) legal silent = elim (cases_Bool (eqb legal.work.seq number)) as (λ _. StaysReady (event.Start run seq instance input)) [
    | inl e ↦ inl (legal.seq_is ∙ eqb-true legal.work.seq number e)
    | inr e ↦
        let is = after_start s run seq instance input legal in
        inr (of-first legal.work (changed started legal.work.seq) (after s (event.Start run seq instance input)) legal.is_first
        (λ same. true≢false (sym (eq-eqb legal.work.seq number (sym same)) ∙ e)) (λ not_yet. keeps-changed s legal.work.seq valid not_yet started)
        (ap (λ (t : State). t.works) is) (ap (λ (t : State). t.now) is) (ap (λ (t : State). t.conditions) is))
  ]
  stays-ready (event.StartFailed seq cause) legal silent = elim (cases_Bool (eqb legal.work.seq number)) as (λ _. StaysReady (event.StartFailed seq cause)) [
    | inl e ↦ inl (legal.seq_is ∙ eqb-true legal.work.seq number e)
    | inr e ↦
        let is = after_start_failed s seq cause legal in
        inr (of-first legal.work (not_started_in s legal.work) (after s (event.StartFailed seq cause)) legal.is_first
        (λ same. true≢false (sym (eq-eqb legal.work.seq number (sym same)) ∙ e))
        (λ not_yet. keeps-not_started s legal.work.seq valid not_yet (period_of legal.work.seq s.works))
        (ap (λ (t : State). t.works) is) (ap (λ (t : State). t.now) is) (ap (λ (t : State). t.conditions) is))
  ]
  stays-ready (event.Turn run progress) legal silent =
      let is = after_turn s run progress legal in
      let its = legal.report.run in
      inr (of-run its run (changed (telling progress) its.seq) (after s (event.Turn run progress)) legal.report.is_running legal.report.is_current
      (λ not_yet. keeps-changed s its.seq valid not_yet (telling progress))
      (ap (λ (t : State). t.works) is) (ap (λ (t : State). t.now) is) (ap (λ (t : State). t.conditions) is))
  stays-ready (event.Finish run end) legal silent =
      let is = after_finish s run end legal in
      let its = legal.run in
      inr (of-run its run (end_in s its end) (after s (event.Finish run end)) legal.is_running legal.is_current
      (λ not_yet. keeps-end s its.seq valid not_yet its.renewed (period_of its.seq s.works) end)
      (ap (λ (t : State). t.works) is) (ap (λ (t : State). t.now) is) (ap (λ (t : State). t.conditions) is))
  stays-ready (event.TimedOut run) legal silent =
      let is = after_timed_out s run legal in
      let its = legal.report.run in
      inr (of-run its run (end_in s its Retry) (after s (event.TimedOut run)) legal.report.is_running legal.report.is_current
      (λ not_yet. keeps-end s its.seq valid not_yet its.renewed (period_of its.seq s.works) Retry)
      (ap (λ (t : State). t.works) is) (ap (λ (t : State). t.now) is) (ap (λ (t : State). t.conditions) is))
  stays-ready (event.Late run) legal silent =
      let is : after s (event.Late run) ≡ returned_of s (Some legal.run) = ap (returned_of s) legal.is_running in
      inr (subst (λ (t : State). HasOne (IsReady number t) t.works) (sym is)
      (one_gives {A = λ work. HasOne (λ other. other ≡ work) s.works} s.works
      (λ work (stored : HasOne (λ other. other ≡ work) s.works) (ready : IsReady number s work). HasOne-map-same work stored ready) (All-stored s.works) one))
    where
      HasOne-map-same : (work : Record) → HasOne (λ other. other ≡ work) s.works → IsReady number s work
          → HasOne (IsReady number (returned_of s (Some legal.run))) s.works
      HasOne-map-same work stored ready = at s.works stored
        where
          again : IsReady number (returned_of s (Some legal.run)) work
          again = record {
            seq = ready.seq;
            waiting = ready.waiting;
            prerequisites = ready.prerequisites;
            due = ready.due;
            constraints = ready.constraints;
          }

          at : (works : List Record) → HasOne (λ other. other ≡ work) works → HasOne (IsReady number (returned_of s (Some legal.run))) works
          at [] one = absurd one
          at (first ∷ works) (inl same) = inl (subst (IsReady number (returned_of s (Some legal.run))) (sym same) again)
          at (first ∷ works) (inr later) = inr (at works later)

-- ---- a drain

le-leb : (n m : ℕ) → n ≤ m → nat_le n m ≡ true
le-leb n m less = grind (arith)

-- what is ready in a quiet state is startable there
ready-startable : (s : State) (number : ℕ) (work : Record) → Valid s → s.runs ≡ [] → IsReady number s work → is_startable s work ≡ true
unfolding is_startable
ready-startable s number work valid none ready =
    and_from _ _ ready.waiting
    (and_from _ _ ready.prerequisites
    (and_from _ _ (le-leb (due_of work) s.now ready.due)
    (and_from _ _ ready.constraints (rooms-quiet s valid none work.request.class))))

-- an event that isn't a line, and those after it
silent-front : (e : Event) (events : List Event) → commands_of (e ∷ events) ≡ [] → command_in e ≡ []
silent-front (event.Command line asked reply) events silent = absurd (cc)
silent-front (event.Start run seq instance input) events silent = refl
silent-front (event.StartFailed seq cause) events silent = refl
silent-front (event.Turn run progress) events silent = refl
silent-front (event.Finish run end) events silent = refl
silent-front (event.TimedOut run) events silent = refl
silent-front (event.Late run) events silent = refl

silent-rest : (e : Event) (events : List Event) → commands_of (e ∷ events) ≡ [] → commands_of events ≡ []
silent-rest e events silent = sym (ap (λ front. front ++ commands_of events) (silent-front e events silent)) ∙ silent

pub starts-ready : (number : ℕ) (s : State) (events : List Event) (last : State) → Valid s → IsDrain s events last → HasOne (IsReady number s) s.works
    → HasOne (IsStartOf number) events
starts-ready number s [] last valid drain one =
    let quiet = drain.quiet in
    let same : last ≡ s = drain.goes.replay in
    absurd (one_gives {A = λ work. is_startable s work ≡ false} s.works (λ work (not_startable : is_startable s work ≡ false) (ready : IsReady number s work).
    false≢true (sym not_startable ∙ ready-startable s number work valid (sym (ap (λ (t : State). t.runs) same) ∙ quiet.no_run) ready))
    (none-startable s (sym (ap first_of same) ∙ quiet.nothing_startable)) one)
starts-ready number s (e ∷ events) last valid drain one =
    let goes = drain.goes in
    elim (stays-ready s number valid one e goes.replay.0 (silent-front e events goes.silent)) as (λ _. HasOne (IsStartOf number) (e ∷ events)) [
      | inl starts ↦ inl starts
      | inr ready ↦
          inr (starts-ready number (after s e) events last (Valid-after s e valid goes.replay.0) (record {
            goes = record { replay = goes.replay.1; silent = silent-rest e events goes.silent; in_turn = goes.in_turn.1 };
            quiet = drain.quiet;
          }) ready)
    ]
