-- The records of sound rows are works as the machine has them.
use Rattle.std.proofs.Common.{◌≡◌, ℕ, ◌^◌, ◌<◌, ◌≤◌, ◌==◌, Bool, true, false, ◌||◌, not, cond, List, [], ◌∷◌, ◌++◌, append-nil, append_assoc, length, Option, Some, None, is_some, Result, Ok, Err, refl, sym, ap, ◌∙◌, subst, arith}
use Rattle.std.proofs.lemmas.Bool.{and_parts, eq-eqb, eqb-true, false≢true}
use Rattle.std.proofs.lemmas.List.{length-append}
use Rattle.std.specs.List.{AllByRecursion}
use Rattle.std.specs.Option.{ok_or}
use Rattle.wm_collections.proofs.Lists.{All-push, All-weaker, All-with2, All-with3, AllLater-push, find-none, find-passes, find-stored, HasOne-front, HasOne-weaker}
use Rattle.wm_collections.specs.Lists.{AllLater, HasOne}
use Rattle.wm_data.specs.declared.data.DataEntry.{DataEntry}
use Rattle.wm_keeper.specs.declared.row.Row.{Row}
use Rattle.wm_machine.proofs.Records.{IsData-empty}
use Rattle.wm_machine.proofs.Runnings.{all_of_number}
use Rattle.wm_machine.proofs.Waitings.{succeeded_is}
use Rattle.wm_machine.specs.Closed.{is_open}
use Rattle.wm_machine.specs.First.{is_succeeded}
use Rattle.wm_machine.specs.Input.{work_numbered}
use Rattle.wm_machine.specs.Opened.{next_number}
use Rattle.wm_machine.specs.Rows.{AreRowsOf}
use Rattle.wm_machine.specs.Valid.{ArePrior, ArePriorSound, AreWorks, HasSucceeded, IsBefore, IsPrerequisite, IsProgressIn, IsRecord, MaySucceedOrHas}
use Rattle.wm_machine.specs.declared.record.How.TheVariants as how
use Rattle.wm_machine.specs.declared.record.Phase.{Phase}
use Rattle.wm_machine.specs.declared.record.Phase.TheVariants as phase
use Rattle.wm_machine.specs.declared.record.Record.{Record}
use Rattle.wm_rows.proofs.RowsRead.{read_row-gives}
use Rattle.wm_rows.proofs.Soundness.{IsSound, sound-facts}
use Rattle.wm_rows.specs.Grammar.{IsStored, read_row}
use Rattle.wm_rows.specs.Sound.{checked, checked_after, is_periodic, is_sound_after, read_after, serves}
use Rattle.wm_rows.specs.declared.fault.RowFault.{RowFault}
use Rattle.wm_rows.specs.declared.fault.RowFault.TheVariants as fault
use Rattle.wm_schedule.specs.declared.schedule.Period.{Period}

-- ---- prerequisites that serve

is_one_time : (period : Option Period) → not (is_some period) ≡ true → period ≡ None
is_one_time None is = refl
is_one_time (Some period) is = absurd (cc)

may : (p : Phase) → (is_open p || is_succeeded p) ≡ true → MaySucceedOrHas p
may phase.Waiting is = tt
may phase.Running is = tt
may (phase.Done how.Succeeded) is = tt
may (phase.Done how.Failed) is = absurd (cc)
may (phase.Done how.Cancelled) is = absurd (cc)

succeeded_may : (p : Phase) → p ≡ phase.Done how.Succeeded → MaySucceedOrHas p
succeeded_may p is = subst MaySucceedOrHas (sym is) tt

module _ (works : List Record) (number : ℕ) where
  -- a fact of what is found is one of a record there
  found_one : (P : Record → Type 0) (prior : Record) → work_numbered number works ≡ Some prior → P prior → HasOne P works
  found_one P prior found holds = HasOne-weaker works (λ work same. subst P (sym same) holds) (find-stored (λ work. work.seq == number) works prior found)

  of_number : (prior : Record) → work_numbered number works ≡ Some prior → prior.seq ≡ number
  of_number prior found = eqb-true prior.seq number (find-passes (λ work. work.seq == number) works prior found)

  waits : (found : Option Record) → work_numbered number works ≡ found → serves phase.Waiting found ≡ true → HasOne (IsPrerequisite number) works
  waits None found serve = absurd (cc)
  waits (Some prior) found serve =
      let parts = and_parts (not (is_periodic prior)) (is_open prior.phase || is_succeeded prior.phase) serve in
      found_one (IsPrerequisite number) prior found (record {
        seq = of_number prior found;
        open_is = may prior.phase parts.1;
        one_time = is_one_time prior.request.period parts.0;
      })

  runs : (found : Option Record) → work_numbered number works ≡ found → serves phase.Running found ≡ true
      → HasOne (IsPrerequisite number) works × HasOne (HasSucceeded number) works
  runs None found serve = absurd (cc)
  runs (Some prior) found serve =
      let parts = and_parts (not (is_periodic prior)) (is_succeeded prior.phase) serve in
      let is = succeeded_is prior.phase parts.1 in (
        found_one (IsPrerequisite number) prior found (record {
          seq = of_number prior found;
          open_is = succeeded_may prior.phase is;
          one_time = is_one_time prior.request.period parts.0;
        }),
        found_one (HasSucceeded number) prior found (record { seq = of_number prior found; succeeded = is }),
      )

  -- where a record of the number is found, it has succeeded
  succeeds : (found : Option Record) → work_numbered number works ≡ found → AllLater IsBefore works → serves (phase.Done how.Succeeded) found ≡ true
      → AllByRecursion (λ work. work.seq ≡ number → work.phase ≡ phase.Done how.Succeeded) works
  succeeds None found in_order serve =
      All-weaker works (λ work none. λ same. absurd (false≢true (sym none ∙ eq-eqb work.seq number same)))
      (find-none (λ work. work.seq == number) works found)
  succeeds (Some prior) found in_order serve =
      all_of_number (λ work. work.phase ≡ phase.Done how.Succeeded) number works in_order
      (found_one (λ work. (work.seq ≡ number) × (work.phase ≡ phase.Done how.Succeeded)) prior found (of_number prior found, succeeded_is prior.phase serve))

served : (works : List Record) (p : Phase) (prior : List ℕ) → AllLater IsBefore works
    → AllByRecursion (λ number. serves p (work_numbered number works) ≡ true) prior → ArePriorSound works p prior
served works phase.Waiting prior in_order serve = All-weaker prior (λ number is. waits works number (work_numbered number works) refl is) serve
served works phase.Running prior in_order serve = All-weaker prior (λ number is. runs works number (work_numbered number works) refl is) serve
served works (phase.Done how.Succeeded) prior in_order serve =
    All-weaker prior (λ number is. succeeds works number (work_numbered number works) refl in_order is) serve
served works (phase.Done how.Failed) prior in_order serve = tt
served works (phase.Done how.Cancelled) prior in_order serve = tt

-- ---- one record more

-- a record with a greater number than those prerequisites changes nothing
sound-more : (works : List Record) (new : Record) (p : Phase) (prior : List ℕ) → AllByRecursion (λ number. number < new.seq) prior
    → ArePriorSound works p prior → ArePriorSound (works ++ new ∷ []) p prior
sound-more works new phase.Waiting prior below sound = All-weaker prior (λ number one. HasOne-front (IsPrerequisite number) works (new ∷ []) one) sound
sound-more works new phase.Running prior below sound =
    All-weaker prior (λ number both. (
      HasOne-front (IsPrerequisite number) works (new ∷ []) both.0,
      HasOne-front (HasSucceeded number) works (new ∷ []) both.1,
    )) sound
sound-more works new (phase.Done how.Succeeded) prior below sound =
    All-with2 prior (λ number less all. All-push (λ work. work.seq ≡ number → work.phase ≡ phase.Done how.Succeeded) works new all
    (λ same. absurd (omega (arith, less, same)))) below sound
sound-more works new (phase.Done how.Failed) prior below sound = tt
sound-more works new (phase.Done how.Cancelled) prior below sound = tt

-- records of sound rows
record AreSoundWorks (works : List Record) : Type 0 where
  stored : AllByRecursion IsStored works
  in_order : AllLater IsBefore works
  few : length works ≤ 100000
  prior : AllByRecursion (λ work. ArePrior work.seq work.prior) works
  sound : AllByRecursion (λ work. ArePriorSound works work.phase work.prior) works

sound-none : AreSoundWorks []
sound-none = record { stored = tt; in_order = tt; few = omega arith; prior = tt; sound = tt }

sound-push : (before : List Record) (work : Record) → AreSoundWorks before → IsStored work → IsSound before work → AreSoundWorks (before ++ work ∷ [])
sound-push before work are stored is =
    let here = sound-more before work work.phase work.prior is.earlier (served before work.phase work.prior are.in_order is.serve) in
    record {
      stored = All-push IsStored before work are.stored stored;
      in_order = AllLater-push IsBefore before work are.in_order is.after;
      few = omega (arith, length-append before (work ∷ []), is.few);
      prior = All-push (λ w. ArePrior w.seq w.prior) before work are.prior (record {
        few = stored.few;
        different = is.different;
        earlier = All-with2 work.prior (λ number above below. (above, below)) stored.numbers is.earlier;
      });
      sound = All-push (λ w. ArePriorSound (before ++ work ∷ []) w.phase w.prior) before work
          (All-with3 before (λ w prior after sound. sound-more before work w.phase w.prior
          (All-weaker w.prior (λ number both. let below = both.1 in let less = after.number in omega (arith, below, less)) prior.earlier) sound)
          are.prior is.after are.sound)
          here;
    }

-- ---- all of them

-- what one row after others is read as
read_after-gives : (before : List Record) (row : Row) (work : Record) → read_after before row ≡ Ok work
    → (read_row row ≡ Some work) × (is_sound_after before work ≡ true)
read_after-gives before row work is = by_reading (read_row row) refl is where
  by_test : (read_as : Record) (b : Bool) → is_sound_after before read_as ≡ b → read_row row ≡ Some read_as
      → cond b (Ok read_as) (Err (fault.Unsound row.seq)) ≡ Ok work → (read_row row ≡ Some work) × (is_sound_after before work ≡ true)
  by_test read_as true sound reading is =
      let same : read_as ≡ work = cc in (reading ∙ ap Some same, ap (is_sound_after before) (sym same) ∙ sound)
  by_test read_as false sound reading is = absurd (cc)

  by_reading : (found : Option Record) → read_row row ≡ found
      → Rattle.wm_rows.specs.Sound.◌>>=◌ (ok_or found (fault.BadRow row.seq))
      (λ w. cond (is_sound_after before w) (Ok w) (Err (fault.Unsound row.seq))) ≡ Ok work
      → (read_row row ≡ Some work) × (is_sound_after before work ≡ true)
  by_reading None reading is = absurd (cc)
  by_reading (Some read_as) reading is = by_test read_as (is_sound_after before read_as) refl reading is

record AreRecordsOf (before : List Record) (rows : List Row) (works : List Record) : Type 0 where
  more : List Record
  whole : works ≡ before ++ more
  rows_are : AreRowsOf rows more
  sound : AreSoundWorks works

bound_ok : {A : Type 0} (answer : Result A RowFault) (f : A → Result (List Record) RowFault) (works : List Record)
    → Rattle.wm_rows.specs.Sound.◌>>=◌ answer f ≡ Ok works → (x : A) × (answer ≡ Ok x) × (f x ≡ Ok works)
bound_ok (Ok x) f works is = (x, refl, is)
bound_ok (Err found) f works is = absurd (cc)

checked-from : (before : List Record) (rows : List Row) (works : List Record) → AreSoundWorks before → checked_after before rows ≡ Ok works
    → AreRecordsOf before rows works
checked-from before [] works are is =
    let same : before ≡ works = cc in
    record { more = []; whole = sym same ∙ sym (append-nil before); rows_are = tt; sound = subst AreSoundWorks same are }
checked-from before (row ∷ rows) works are is =
    let work = bound_ok (read_after before row) (λ w. checked_after (before ++ w ∷ []) rows) works is in
    let gives = read_after-gives before row work.0 work.1 in
    let of_row = read_row-gives row work.0 gives.0 in
    let rest = checked-from (before ++ work.0 ∷ []) rows works
    (sound-push before work.0 are of_row.stored (sound-facts before work.0 gives.1)) work.2 in
    record {
      more = work.0 ∷ rest.more;
      whole = rest.whole ∙ append_assoc before (work.0 ∷ []) rest.more;
      rows_are = (of_row.same, rest.rows_are);
      sound = rest.sound;
    }

-- ---- as the machine has them

next_above : (works : List Record) → AllByRecursion (λ work. work.seq < next_number works) works
next_above [] = tt
next_above (work ∷ works) = (omega arith, All-weaker works (λ w less. omega (arith, less)) (next_above works))

next_first : (works : List Record) → 1 ≤ next_number works
next_first [] = omega arith
next_first (work ∷ works) = omega arith

next_within : (works : List Record) → AllByRecursion IsStored works → next_number works ≤ 2 ^ 53
next_within [] stored = omega arith
next_within (work ∷ works) stored = let fits = stored.0.fits.seq in omega (arith, fits, next_within works stored.1)

none_told : (p : Phase) (progress : List DataEntry) → progress ≡ [] → IsProgressIn p progress
none_told phase.Waiting progress is = is
none_told phase.Running progress is = rw is IsData-empty
none_told (phase.Done how) progress is = is

IsRecord-stored : (work : Record) → IsStored work → ArePrior work.seq work.prior → IsRecord work
IsRecord-stored work is prior = record {
  number = is.number;
  fits = is.fits;
  name = is.name;
  request = is.request;
  prior = prior;
  attempt = is.attempt;
  started = is.started;
  backoff_n = is.backoff_n;
  runs = is.runs;
  kind = is.kind;
  leaves = is.leaves;
  override_at = is.override_at;
  finished_at = is.finished_at;
  output = is.output;
  progress = none_told work.phase work.progress is.progress;
}

AreWorks-sound : (works : List Record) → AreSoundWorks works → AreWorks (next_number works) works
AreWorks-sound works are = record {
  first = next_first works;
  fits = next_within works are.stored;
  numbers = next_above works;
  few = are.few;
  records = All-with2 works IsRecord-stored are.stored are.prior;
  in_order = are.in_order;
  sound = are.sound;
}

-- ---- the law

pub checked_rows : (rows : List Row) (works : List Record) → checked rows ≡ Ok works → AreRowsOf rows works
checked_rows rows works is =
    let read_as = checked-from [] rows works sound-none is in subst (AreRowsOf rows) (sym read_as.whole) read_as.rows_are

pub checked_works : (rows : List Row) (works : List Record) → checked rows ≡ Ok works → AreWorks (next_number works) works
checked_works rows works is = AreWorks-sound works (checked-from [] rows works sound-none is).sound

pub checked_stored : (rows : List Row) (works : List Record) → checked rows ≡ Ok works → AllByRecursion IsStored works
checked_stored rows works is = (checked-from [] rows works sound-none is).sound.stored
