-- What a change keeps of a record.
use Rattle.std.proofs.Common.{◌≡◌, ℕ, ◌^◌, ◌<◌, ◌≤◌, ap, Bool, true, false, List, [], length, Option, Some, None, IfSome, refl, sym, ◌∙◌, subst, arith}
use Rattle.std.proofs.lemmas.Bool.{false≢true}
use Rattle.wm_data.specs.Size.{IsData}
use Rattle.wm_machine.specs.Types.{DataEntry, Period, Phase, Record}
use Rattle.wm_machine.specs.Closed.{closed, is_open}
use Rattle.wm_machine.specs.Ends.{enqueued_again, left_of, retried, succeeded, with_output}
use Rattle.wm_machine.specs.First.{is_waiting}
use Rattle.wm_machine.specs.Runs.{started}
use Rattle.wm_machine.specs.Turns.{telling}
use Rattle.wm_machine.specs.Updated.{is_same_kind, next_moment, updated}
use Rattle.wm_machine.specs.Valid.{IsAttemptIn, IsFinishedIn, IsOfKind, IsOutputIn, IsOverrideOf, IsPeriodic, IsPeriodicPhase, IsProgressIn, IsRecord}
use Rattle.wm_machine.specs.declared.record.How.TheVariants as how
use Rattle.wm_machine.specs.declared.record.Phase.TheVariants as phase
use Rattle.wm_request.proofs.Limits.{IsWithin-of_record}
use Rattle.wm_request.specs.Requests.{of_record, IsNextRun, IsRequest, IsShortText, RequestFields}
use Rattle.wm_request.specs.declared.request.NextRun.{NextRun}
use Rattle.wm_request.specs.declared.request.NextRun.TheVariants.{Leave, At, Clear}
use Rattle.wm_schedule.specs.Moments.{IsDelay}

-- no entry is Data
pub IsData-empty : IsData []
IsData-empty = record { ascending = tt; named = tt; in_type = tt; size = omega arith }

output_in : (p : Phase) (output : List DataEntry) → IsOutputIn p output → IsData output
output_in phase.Waiting output is = subst IsData (sym is) IsData-empty
output_in phase.Running output is = subst IsData (sym is) IsData-empty
output_in (phase.Done how.Succeeded) output is = is
output_in (phase.Done how.Failed) output is = is
output_in (phase.Done how.Cancelled) output is = subst IsData (sym is) IsData-empty

-- what any record gave is Data
pub IsData-output : (work : Record) → IsRecord work → IsData work.output
IsData-output work is = output_in work.phase work.output is.output

-- waiting work has given nothing
output-waiting : (p : Phase) (output : List DataEntry) → is_waiting p ≡ true → IsOutputIn p output → output ≡ []
output-waiting phase.Waiting output waits is = is
output-waiting phase.Running output waits is = absurd (false≢true waits)
output-waiting (phase.Done how) output waits is = absurd (false≢true waits)

-- what is unfinished has no moment at which it finished
pub finished-open : (p : Phase) (finished_at : ℕ) → is_open p ≡ true → IsFinishedIn p finished_at → finished_at ≡ 0
finished-open phase.Waiting finished_at unfinished is = is
finished-open phase.Running finished_at unfinished is = is
finished-open (phase.Done how) finished_at unfinished is = absurd (false≢true unfinished)

waiting-open : (p : Phase) → is_waiting p ≡ true → is_open p ≡ true
waiting-open phase.Waiting waits = refl
waiting-open phase.Running waits = absurd (false≢true waits)
waiting-open (phase.Done how) waits = absurd (false≢true waits)

-- work of either kind may be without an override
pub no_override : (period : Option Period) → IsOverrideOf period None
no_override None = refl
no_override (Some period) = tt

-- what holds of an override and of none holds of what a run leaves of it
left-override : (P : Option ℕ → Type 0) (renewed : Bool) (override_at : Option ℕ) → P override_at → P None → P (left_of renewed override_at)
left-override P true override_at has none = has
left-override P false override_at has none = none

-- the moment of the next run that is asked for is within its limit, where the one before was
pub next-fits : (period : Option Period) (next : NextRun) (override_at : Option ℕ) → IsNextRun period next
    → IfSome override_at (λ moment. moment < 2 ^ 53) → IfSome (next_moment next override_at) (λ moment. moment < 2 ^ 53)
next-fits period Leave override_at asked fits = fits
next-fits None (At moment) override_at asked fits = absurd asked
next-fits (Some period) (At moment) override_at asked fits = asked
next-fits period Clear override_at asked fits = tt

-- and only periodic work has one, where it hadn't any before
pub next-override : (period : Option Period) (next : NextRun) → IsNextRun period next → IsOverrideOf period (next_moment next None)
next-override None Leave asked = refl
next-override None (At moment) asked = absurd asked
next-override None Clear asked = refl
next-override (Some period) next asked = tt

-- what a run, an end or a cancel leaves of a record, its name aside
abbrev asked_of : Record → ℕ × (RequestFields × (List ℕ × ℕ))
asked_of work = (work.seq, (work.request, (work.prior, work.generation)))

-- the moments of a record are within their limits after a change
pub record AreMomentsWithin (work now : Record) : Type 0 where
  pub enqueued_at : now.enqueued_at < 2 ^ 53
  pub override_at : IsOverrideOf work.request.period now.override_at
  pub override_fits : IfSome now.override_at (λ moment. moment < 2 ^ 53)
  pub finished_at : IsFinishedIn now.phase now.finished_at
  pub finished_fits : now.finished_at < 2 ^ 53

-- the rest of a record is within its limits after a change
pub record IsRestWithin (work now : Record) : Type 0 where
  pub name : IfSome now.name IsShortText
  pub moments : AreMomentsWithin work now
  pub attempt : now.attempt ≤ 1000000
  pub started : IsAttemptIn now.phase now.attempt
  pub backoff_n : now.backoff_n ≤ now.attempt
  pub runs : now.runs ≤ 1000000
  pub kind : IsOfKind work.request.period now
  pub output : IsOutputIn now.phase now.output
  pub progress : IsProgressIn now.phase now.progress

-- a change that leaves what was asked for makes a record, where the rest is within its limits
pub IsRecord-kept : (work now : Record) → asked_of now ≡ asked_of work → IsRecord work → IsRestWithin work now → IsRecord now
IsRecord-kept work now same is rest =
    let seq = ap (λ l. l.0) same in
    let request = ap (λ l. l.1.0) same in
    let prior = ap (λ l. l.1.1.0) same in
    let generation = ap (λ l. l.1.1.1) same in
    record {
      number = rw seq is.number;
      fits = record {
        seq = rw seq is.fits.seq;
        prior = rw prior is.fits.prior;
        generation = rw generation is.fits.generation;
        enqueued_at = rest.moments.enqueued_at;
        override_at = rest.moments.override_fits;
        finished_at = rest.moments.finished_fits;
      };
      name = rest.name;
      request = rw request is.request;
      prior = rw (seq, prior) is.prior;
      attempt = rest.attempt;
      started = rest.started;
      backoff_n = rest.backoff_n;
      runs = rest.runs;
      kind = subst (λ (r : RequestFields). IsOfKind r.period now) (sym request) rest.kind;
      leaves = rw request is.leaves;
      override_at = subst (λ (r : RequestFields). IsOverrideOf r.period now.override_at) (sym request) rest.moments.override_at;
      finished_at = rest.moments.finished_at;
      output = rest.output;
      progress = rest.progress;
    }

-- a change that leaves the moments of a record, in a phase where it has finished or hasn't as before
pub moments-kept : (work now : Record) → now.enqueued_at ≡ work.enqueued_at → now.override_at ≡ work.override_at → now.finished_at ≡ work.finished_at
    → IsFinishedIn now.phase work.finished_at → IsRecord work → AreMomentsWithin work now
moments-kept work now enqueued override finished phase_is is = record {
  enqueued_at = rw enqueued is.fits.enqueued_at;
  override_at = rw override is.override_at;
  override_fits = rw override is.fits.override_at;
  finished_at = rw finished phase_is;
  finished_fits = rw finished is.fits.finished_at;
}

-- a change that has its delay count from this moment on, after a run that uses its override up or doesn't, in a phase where it hasn't finished
moments-now : (at : ℕ) (renewed : Bool) (work now : Record) → at < 2 ^ 53 → now.enqueued_at ≡ at → now.override_at ≡ left_of renewed work.override_at
    → now.finished_at ≡ work.finished_at → is_open work.phase ≡ true → IsFinishedIn now.phase 0 → IsRecord work → AreMomentsWithin work now
moments-now at renewed work now below enqueued override finished unfinished phase_is is = record {
  enqueued_at = rw enqueued below;
  override_at = rw override (left-override (IsOverrideOf work.request.period) renewed work.override_at is.override_at (no_override work.request.period));
  override_fits = rw override (left-override (λ moment. IfSome moment (λ m. m < 2 ^ 53)) renewed work.override_at is.fits.override_at tt);
  finished_at = rw (finished, finished-open work.phase work.finished_at unfinished is.finished_at) phase_is;
  finished_fits = rw finished is.fits.finished_at;
}

-- a change that has it finished at this moment
moments-done : (at : ℕ) (work now : Record) → at < 2 ^ 53 → now.enqueued_at ≡ work.enqueued_at → now.override_at ≡ work.override_at → now.finished_at ≡ at
    → IsFinishedIn now.phase at → IsRecord work → AreMomentsWithin work now
moments-done at work now below enqueued override finished phase_is is = record {
  enqueued_at = rw enqueued is.fits.enqueued_at;
  override_at = rw override is.override_at;
  override_fits = rw override is.fits.override_at;
  finished_at = rw finished phase_is;
  finished_fits = rw finished below;
}

-- what is of a kind stays so, where it is put into a phase of that kind
IsOfKind-kept : (period : Option Period) (work changed : Record) → IsPeriodicPhase changed.phase → changed.runs ≡ work.runs → changed.output ≡ work.output
    → changed.prior ≡ work.prior → IsOfKind period work → IsOfKind period changed
IsOfKind-kept None work changed phase_is runs output prior kind = runs ∙ kind
IsOfKind-kept (Some period) work changed phase_is runs output prior kind =
    record { phase_is = phase_is; no_output = output ∙ kind.no_output; no_prerequisite = prior ∙ kind.no_prerequisite }

-- one-time work that has run no period has run none after a change either
IsOfKind-one_time : (work changed : Record) → work.request.period ≡ None → changed.runs ≡ work.runs → IsOfKind work.request.period work
    → IsOfKind work.request.period changed
IsOfKind-one_time work changed one_time same kind =
    subst (λ period. IsOfKind period changed) (sym one_time) (same ∙ subst (λ period. IsOfKind period work) one_time kind)

pub IsRecord-started : (work : Record) → is_waiting work.phase ≡ true → IsRecord work → IsRecord (started work)
IsRecord-started work waits is =
    let few = is.backoff_n in
    let most = is.attempt in
    IsRecord-kept work (started work) refl is (record {
      name = is.name;
      moments = moments-kept work (started work) refl refl refl
          (finished-open work.phase work.finished_at (waiting-open work.phase waits) is.finished_at) is;
      attempt = omega arith;
      started = omega arith;
      backoff_n = omega arith;
      runs = is.runs;
      kind = IsOfKind-kept work.request.period work (started work) tt refl refl refl is.kind;
      output = output-waiting work.phase work.output waits is.output;
      progress = IsData-empty;
    })

-- a work that runs may tell progress
pub IsRecord-telling : (progress : Option (List DataEntry)) (work : Record) → IfSome progress IsData → work.phase ≡ phase.Running → IsRecord work
    → IsRecord (telling progress work)
IsRecord-telling None work told running is = is
IsRecord-telling (Some progress) work told running is =
    IsRecord-kept work (telling (Some progress) work) refl is (record {
      name = is.name;
      moments = moments-kept work (telling (Some progress) work) refl refl refl is.finished_at is;
      attempt = is.attempt;
      started = is.started;
      backoff_n = is.backoff_n;
      runs = is.runs;
      kind = IsOfKind-kept work.request.period work (telling (Some progress) work) (subst IsPeriodicPhase (sym running) tt) refl refl refl is.kind;
      output = is.output;
      progress = subst (λ phase. IsProgressIn phase progress) (sym running) told;
    })

-- a work whose attempt is to be retried
pub IsRecord-retried : (renewed : Bool) (now : ℕ) (work : Record) → now < 2 ^ 53 → work.phase ≡ phase.Running → IsRecord work
    → IsRecord (retried renewed now work)
IsRecord-retried renewed now work below running is =
    IsRecord-kept work (retried renewed now work) refl is (record {
      name = is.name;
      moments = moments-now now renewed work (retried renewed now work) below refl refl refl (ap is_open running) refl is;
      attempt = is.attempt;
      started = tt;
      backoff_n = omega arith;
      runs = is.runs;
      kind = IsOfKind-kept work.request.period work (retried renewed now work) tt refl refl refl is.kind;
      output = subst (λ phase. IsOutputIn phase work.output) running is.output;
      progress = refl;
    })

freed-kind : (period : Option Period) (now : ℕ) (work : Record) → IsOfKind period work → IsOfKind period (record work { enqueued_at = now })
freed-kind None now work kind = kind
freed-kind (Some period) now work kind = record { phase_is = kind.phase_is; no_output = kind.no_output; no_prerequisite = kind.no_prerequisite }

-- a work whose delay counts from another moment
pub IsRecord-freed : (now : ℕ) (work : Record) → now < 2 ^ 53 → IsRecord work → IsRecord (record work { enqueued_at = now })
IsRecord-freed now work below is =
    IsRecord-kept work (record work { enqueued_at = now }) refl is (record {
      name = is.name;
      moments = record {
        enqueued_at = below;
        override_at = is.override_at;
        override_fits = is.fits.override_at;
        finished_at = is.finished_at;
        finished_fits = is.fits.finished_at;
      };
      attempt = is.attempt;
      started = is.started;
      backoff_n = is.backoff_n;
      runs = is.runs;
      kind = freed-kind work.request.period now work is.kind;
      output = is.output;
      progress = is.progress;
    })

-- a one-time work that fails, with what it gave
pub IsRecord-failed : (now : ℕ) (output : List DataEntry) (work : Record) → now < 2 ^ 53 → IsData output → work.request.period ≡ None → IsRecord work
    → IsRecord (with_output output (closed how.Failed now work))
IsRecord-failed now output work below gave one_time is =
    IsRecord-kept work (with_output output (closed how.Failed now work)) refl is (record {
      name = is.name;
      moments = moments-done now work (with_output output (closed how.Failed now work)) below refl refl refl tt is;
      attempt = is.attempt;
      started = tt;
      backoff_n = is.backoff_n;
      runs = is.runs;
      kind = IsOfKind-one_time work (with_output output (closed how.Failed now work)) one_time refl is.kind;
      output = gave;
      progress = refl;
    })

-- what is unfinished has given nothing
output-open : (p : Phase) (output : List DataEntry) → is_open p ≡ true → IsOutputIn p output → output ≡ []
output-open phase.Waiting output unfinished is = is
output-open phase.Running output unfinished is = is
output-open (phase.Done how) output unfinished is = absurd (false≢true unfinished)

-- an unfinished work that is cancelled
pub IsRecord-cancelled : (now : ℕ) (work : Record) → now < 2 ^ 53 → is_open work.phase ≡ true → IsRecord work → IsRecord (closed how.Cancelled now work)
IsRecord-cancelled now work below unfinished is =
    IsRecord-kept work (closed how.Cancelled now work) refl is (record {
      name = is.name;
      moments = moments-done now work (closed how.Cancelled now work) below refl refl refl tt is;
      attempt = is.attempt;
      started = tt;
      backoff_n = is.backoff_n;
      runs = is.runs;
      kind = IsOfKind-kept work.request.period work (closed how.Cancelled now work) tt refl refl refl is.kind;
      output = output-open work.phase work.output unfinished is.output;
      progress = refl;
    })

-- a one-time work that succeeds
pub IsRecord-succeeded : (now : ℕ) (output : List DataEntry) (work : Record) → now < 2 ^ 53 → IsData output → work.phase ≡ phase.Running → work.request.period ≡ None → IsRecord work
    → IsRecord (succeeded now output work)
IsRecord-succeeded now output work below gave running one_time is =
    IsRecord-kept work (succeeded now output work) refl is (record {
      name = is.name;
      moments = moments-done now work (succeeded now output work) below refl refl refl tt is;
      attempt = is.attempt;
      started = subst (λ phase. IsAttemptIn phase work.attempt) running is.started;
      backoff_n = is.backoff_n;
      runs = is.runs;
      kind = IsOfKind-one_time work (succeeded now output work) one_time refl is.kind;
      output = gave;
      progress = refl;
    })

pub IsRecord-again : (period : Period) (renewed : Bool) (now : ℕ) (work : Record) → now < 2 ^ 53 → is_open work.phase ≡ true
    → work.request.period ≡ Some period → IsRecord work → IsRecord (enqueued_again renewed now work)
IsRecord-again period renewed now work below unfinished repeats is =
    let kind : IsPeriodic work = subst (λ kind. IsOfKind kind work) repeats is.kind in
    IsRecord-kept work (enqueued_again renewed now work) refl is (record {
      name = is.name;
      moments = moments-now now renewed work (enqueued_again renewed now work) below refl refl refl unfinished refl is;
      attempt = omega arith;
      started = tt;
      backoff_n = omega arith;
      runs = omega arith;
      kind = subst (λ kind. IsOfKind kind (enqueued_again renewed now work)) (sym repeats)
          (record { phase_is = tt; no_output = refl; no_prerequisite = kind.no_prerequisite });
      output = refl;
      progress = refl;
    })

updated-kind : (before now : Option Period) (request : RequestFields) (work : Record) → is_same_kind now before ≡ true → IsOfKind before work
    → IsOfKind now (updated request work)
updated-kind None None request work same kind = kind
updated-kind None (Some period) request work same kind = absurd (false≢true same)
updated-kind (Some before) None request work same kind = absurd (false≢true same)
updated-kind (Some before) (Some period) request work same kind =
    record { phase_is = kind.phase_is; no_output = kind.no_output; no_prerequisite = kind.no_prerequisite }

updated-override : (before now : Option Period) (next : NextRun) (override_at : Option ℕ) → is_same_kind now before ≡ true → IsNextRun now next
    → IsOverrideOf before override_at → IsOverrideOf now (next_moment next override_at)
updated-override None None Leave override_at same asked is = is
updated-override None None (At moment) override_at same asked is = absurd asked
updated-override None None Clear override_at same asked is = refl
updated-override None (Some period) next override_at same asked is = absurd (false≢true same)
updated-override (Some before) None next override_at same asked is = absurd (false≢true same)
updated-override (Some before) (Some period) next override_at same asked is = tt

-- a request as the record of a work has it
pub IsRequest-of_record : (id : List ℕ) (keep : ℕ) (request : RequestFields) → length id ≡ 16 → IsDelay keep → IsRequest request
    → IsRequest (of_record id keep request)
IsRequest-of_record id keep request sixteen short asked =
    record { id = sixteen; input = asked.input; within = IsWithin-of_record request keep short asked.within }

-- a work that is updated by a request of its kind
pub IsRecord-updated : (request : RequestFields) (work : Record) → IsRequest request → is_same_kind request.period work.request.period ≡ true
    → IsRecord work → IsRecord (updated request work)
IsRecord-updated request work asked same is = record {
  number = is.number;
  fits = record {
    seq = is.fits.seq;
    prior = is.fits.prior;
    generation = omega arith;
    enqueued_at = is.fits.enqueued_at;
    override_at = next-fits request.period request.next work.override_at asked.within.next_is is.fits.override_at;
    finished_at = is.fits.finished_at;
  };
  name = is.name;
  request = IsRequest-of_record work.request.id work.request.keep request is.request.id is.request.within.keep_is asked;
  prior = is.prior;
  attempt = is.attempt;
  started = is.started;
  backoff_n = is.backoff_n;
  runs = is.runs;
  kind = updated-kind work.request.period request.period request work same is.kind;
  leaves = refl;
  override_at = updated-override work.request.period request.period request.next work.override_at same asked.within.next_is is.override_at;
  finished_at = is.finished_at;
  output = is.output;
  progress = is.progress;
}

-- ---- of either kind
