-- Works as the machine has them have sound rows.
use Rattle.std.proofs.Common.{◌≡◌, ◌≢◌, ℕ, ◌<◌, ◌==◌, Bool, true, false, ◌&&◌, ◌||◌, not, List, [], ◌∷◌, ◌++◌, append-nil, append_assoc, length, nat_lt, Option, Some, None, is_some, Ok, refl, sym, ap, ◌∙◌, subst, arith, lt-ltb, inl, inr}
use Rattle.std.proofs.lemmas.Bool.{and_from, and_right, eq-eqb, eqb-true, ne_eqb}
use Rattle.std.proofs.lemmas.List.{length-append}
use Rattle.std.specs.List.{AllByRecursion}
use Rattle.std.specs.Str.{bytes_eq}
use Rattle.wm_collections.proofs.Lists.{All-any, All-front, All-of_one, All-weaker, All-with2, AllLater-front, HasOne-weaker, find-passes, find-stored, list_all-each, list_any-false, one_gives}
use Rattle.wm_collections.specs.Lists.{AllLater, HasOne, is_among}
use Rattle.wm_keeper.specs.declared.row.Row.{Row}
use Rattle.wm_machine.proofs.Placings.{bytes_eq-same}
use Rattle.wm_machine.specs.Closed.{is_open}
use Rattle.wm_machine.specs.First.{is_succeeded}
use Rattle.wm_machine.specs.Group.{is_name}
use Rattle.wm_machine.specs.Input.{work_numbered}
use Rattle.wm_machine.specs.Rows.{AreRowsOf}
use Rattle.wm_machine.specs.Valid.{ArePriorSound, AreWorks, HasSucceeded, IsBefore, IsPrerequisite, IsRecord, MaySucceedOrHas}
use Rattle.wm_machine.specs.declared.record.How.TheVariants as how
use Rattle.wm_machine.specs.declared.record.Phase.{Phase}
use Rattle.wm_machine.specs.declared.record.Phase.TheVariants as phase
use Rattle.wm_machine.specs.declared.record.Record.{Record}
use Rattle.wm_rows.proofs.FieldCodes.{of_some}
use Rattle.wm_rows.proofs.RowsWritten.{read_row-written}
use Rattle.wm_rows.proofs.Soundness.{OfOneKindAs}
use Rattle.wm_rows.proofs.Tags.{All-before}
use Rattle.wm_rows.specs.Grammar.{IsStored}
use Rattle.wm_rows.specs.Sound.{are_different, checked, checked_after, is_name_free, is_periodic, is_sound_after, serves}
use Rattle.wm_schedule.specs.declared.schedule.Period.{Period}

-- ---- prerequisites that serve

-- one that isn't among the later ones is among the earlier
one_earlier : {T : Type 0} (P : T → Type 0) (before later : List T) → AllByRecursion (λ x. P x → ⊥) later → HasOne P (before ++ later) → HasOne P before
one_earlier P [] later none one = absurd (one_gives later (λ x not is. not is) none one)
one_earlier P (x ∷ before) later none (inl is) = inl is
one_earlier P (x ∷ before) later none (inr one) = inr (one_earlier P before later none one)

record IsFound (P : Record → Type 0) (number : ℕ) (works : List Record) : Type 0 where
  work : Record
  found : work_numbered number works ≡ Some work
  holds : P work

-- a record of a number is the one that is found
found_by : (P : Record → Type 0) (number : ℕ) (works : List Record) → AllLater IsBefore works → HasOne (λ work. (work.seq ≡ number) × P work) works
    → IsFound P number works
found_by P number [] in_order one = absurd one
found_by P number (work ∷ works) in_order (inl is) =
    let hit = eq-eqb work.seq number is.0 in
    record { work = work; found = rw hit refl; holds = is.1 }
found_by P number (work ∷ works) in_order (inr one) =
    let rest = found_by P number works in_order.1 one in
    let less : work.seq < number =
    one_gives works (λ other before is. let below = before.number in let same = is.0 in omega (arith, below, same)) in_order.0 one in
    let miss = ne_eqb work.seq number (λ same. absurd (omega (arith, less, same))) in
    record { work = rest.work; found = rw miss rest.found; holds = rest.holds }

one_time : (period : Option Period) → period ≡ None → not (is_some period) ≡ true
one_time period is = rw is refl

open_or_has : (p : Phase) → MaySucceedOrHas p → (is_open p || is_succeeded p) ≡ true
open_or_has phase.Waiting may = refl
open_or_has phase.Running may = refl
open_or_has (phase.Done how.Succeeded) may = refl
open_or_has (phase.Done how.Failed) may = absurd may
open_or_has (phase.Done how.Cancelled) may = absurd may

module _ (before : List Record) (work : Record) (more : List Record) (in_order : AllLater IsBefore (before ++ work ∷ more)) where
  earlier_order : AllLater IsBefore before
  earlier_order = AllLater-front IsBefore before (work ∷ more) in_order

  -- it and those after it have no smaller number
  none_later : (P : Record → Type 0) (number : ℕ) → number < work.seq → AllByRecursion (λ other. (other.seq ≡ number) × P other → ⊥) (work ∷ more)
  none_later P number less = (
    λ is. absurd (omega (arith, less, is.0)),
    All-weaker more (λ other after. λ is. let above = after.number in absurd (omega (arith, less, above, is.0))) (All-after before in_order),
  ) where
    All-after : (front : List Record) → AllLater IsBefore (front ++ work ∷ more) → AllByRecursion (IsBefore work) more
    All-after [] later = later.0
    All-after (x ∷ front) later = All-after front later.1

  found_before : (P : Record → Type 0) (number : ℕ) → number < work.seq → HasOne (λ other. (other.seq ≡ number) × P other) (before ++ work ∷ more)
      → IsFound P number before
  found_before P number less one = found_by P number before earlier_order (one_earlier _ before (work ∷ more) (none_later P number less) one)

  waits : (number : ℕ) → number < work.seq → HasOne (IsPrerequisite number) (before ++ work ∷ more) → serves phase.Waiting (work_numbered number before) ≡ true
  waits number less one =
      let is = found_before (λ other. MaySucceedOrHas other.phase × (other.request.period ≡ None)) number less
      (HasOne-weaker (before ++ work ∷ more) (λ other p. (p.seq, (p.open_is, p.one_time))) one) in
      rw (is.found) (and_from _ _ (one_time is.work.request.period is.holds.1) (open_or_has is.work.phase is.holds.0))

  runs : (number : ℕ) → number < work.seq → HasOne (IsPrerequisite number) (before ++ work ∷ more) × HasOne (HasSucceeded number) (before ++ work ∷ more)
      → serves phase.Running (work_numbered number before) ≡ true
  runs number less both =
      let is = found_before (λ other. other.request.period ≡ None) number less
      (HasOne-weaker (before ++ work ∷ more) (λ other p. (p.seq, p.one_time)) both.0) in
      let has = found_before (λ other. other.phase ≡ phase.Done how.Succeeded) number less
      (HasOne-weaker (before ++ work ∷ more) (λ other p. (p.seq, p.succeeded)) both.1) in
      let same : has.work ≡ is.work = of_some (sym has.found ∙ is.found) in
      rw (is.found) (and_from _ _ (one_time is.work.request.period is.holds) (ap (λ (w : Record). is_succeeded w.phase) (sym same) ∙ ap is_succeeded has.holds))

  succeeds : (number : ℕ) (found : Option Record) → work_numbered number before ≡ found
      → AllByRecursion (λ other. other.seq ≡ number → other.phase ≡ phase.Done how.Succeeded) (before ++ work ∷ more)
      → serves (phase.Done how.Succeeded) found ≡ true
  succeeds number None found all = refl
  succeeds number (Some prior) found all =
      let of_number = eqb-true prior.seq number (find-passes (λ other. other.seq == number) before prior found) in
      ap is_succeeded (All-of_one _ before prior (All-front _ before (work ∷ more) all)
      (find-stored (λ other. other.seq == number) before prior found) of_number)

  serve : (p : Phase) (prior : List ℕ) → AllByRecursion (λ number. number < work.seq) prior → ArePriorSound (before ++ work ∷ more) p prior
      → AllByRecursion (λ number. serves p (work_numbered number before) ≡ true) prior
  serve phase.Waiting prior below sound = All-with2 prior waits below sound
  serve phase.Running prior below sound = All-with2 prior runs below sound
  serve (phase.Done how.Succeeded) prior below sound = All-weaker prior (λ number all. succeeds number (work_numbered number before) refl all) sound
  serve (phase.Done how.Failed) prior below sound = All-any prior (λ number. refl)
  serve (phase.Done how.Cancelled) prior below sound = All-any prior (λ number. refl)

-- ---- the tests of soundness

differ : (one other : List ℕ) → one ≢ other → bytes_eq one other ≡ false
differ one other not = by_case (bytes_eq one other) refl where
  by_case : (b : Bool) → bytes_eq one other ≡ b → b ≡ false
  by_case true is = absurd (not (bytes_eq-same one other is))
  by_case false is = refl

not_named : (name : List ℕ) (own : Option (List ℕ)) → (own ≡ Some name → ⊥) → is_name name own ≡ false
not_named name None not = refl
not_named name (Some own) not = differ own name (λ same. not (ap Some same))

name_free : (before : List Record) (period : Option Period) (own : Option (List ℕ)) → AllByRecursion (OfOneKindAs period own) before
    → is_name_free before (is_some period) own ≡ true
name_free before period None kinds = refl
name_free before (Some period) (Some own) kinds =
    let none = list_any-false (λ (other : Record). is_name own other.name) before
    (All-weaker before (λ other kind. not_named own other.name (λ here. absurd (some_none period (kind own here refl).1))) kinds) in
    rw none refl where
      some_none : (p : Period) → Some p ≡ None → ⊥
      some_none p is = cc
name_free before None (Some own) kinds =
    let none = list_any-false (λ (other : Record). is_periodic other && is_name own other.name) before
    (All-weaker before (λ other kind. by_case other (is_name own other.name) refl kind) kinds) in
    rw none refl where
      periodic_not : (p : Option Period) → p ≡ None → is_some p ≡ false
      periodic_not p is = rw is refl

      named_own : (other : Option (List ℕ)) → is_name own other ≡ true → other ≡ Some own
      named_own None is = absurd (cc)
      named_own (Some text) is = ap Some (bytes_eq-same text own is)

      by_case : (other : Record) (b : Bool) → is_name own other.name ≡ b → OfOneKindAs None (Some own) other
          → (is_periodic other && is_name own other.name) ≡ false
      by_case other true named kind = let none = periodic_not other.request.period (kind own (named_own other.name named) refl).0 in rw none refl
      by_case other false named kind = and_right _ _ named

not_among : (numbers : List ℕ) (number : ℕ) → AllByRecursion (λ later. number ≢ later) numbers → is_among numbers number ≡ false
not_among numbers number not = list_any-false (λ one. one == number) numbers (All-weaker numbers (λ later is. ne_eqb later number (λ same. is (sym same))) not)

different : (numbers : List ℕ) → AllLater (λ number later. number ≢ later) numbers → are_different numbers ≡ true
different [] are = refl
different (number ∷ numbers) are = rw (not_among numbers number are.0) (different numbers are.1)

-- ---- one record

IsStored-record : (work : Record) → IsRecord work → work.progress ≡ [] → IsStored work
IsStored-record work is none = record {
  number = is.number;
  fits = is.fits;
  name = is.name;
  request = is.request;
  few = is.prior.few;
  numbers = All-weaker work.prior (λ number both. both.0) is.prior.earlier;
  attempt = is.attempt;
  started = is.started;
  backoff_n = is.backoff_n;
  runs = is.runs;
  kind = is.kind;
  leaves = is.leaves;
  override_at = is.override_at;
  finished_at = is.finished_at;
  output = is.output;
  progress = none;
}

-- what holds of each holds of the one in the middle
All-middle : {T : Type 0} (P : T → Type 0) (before : List T) (x : T) (more : List T) → AllByRecursion P (before ++ x ∷ more) → P x
All-middle P [] x more all = all.0
All-middle P (y ∷ before) x more all = All-middle P before x more all.1

sound : (next : ℕ) (before : List Record) (work : Record) (more : List Record) → AreWorks next (before ++ work ∷ more) → is_sound_after before work ≡ true
unfolding is_sound_after
sound next before work more are =
    let is = All-middle IsRecord before work more are.records in
    let after = All-before IsBefore before work more are.in_order in
    let below = All-weaker work.prior (λ number both. both.1) is.prior.earlier in
    let serving = serve before work more are.in_order work.phase work.prior below
    (All-middle (λ w. ArePriorSound (before ++ work ∷ more) w.phase w.prior) before work more are.sound) in
    let ids = list_any-false (λ (other : Record). bytes_eq other.request.id work.request.id) before
    (All-weaker before (λ other it. differ other.request.id work.request.id it.id) after) in
    and_from _ _ (lt-ltb (length before) 100000 (omega (arith, length-append before (work ∷ more), are.few)))
    (and_from _ _ (list_all-each (λ other. nat_lt other.seq work.seq) before (All-weaker before (λ other it. lt-ltb other.seq work.seq it.number) after))
    (and_from _ _ (ap not ids)
    (and_from _ _ (name_free before work.request.period work.name (All-weaker before (λ other it. it.name) after))
    (and_from _ _ (different work.prior is.prior.different)
    (and_from _ _ (list_all-each (λ number. nat_lt number work.seq) work.prior (All-weaker work.prior (λ number less. lt-ltb number work.seq less) below))
    (list_all-each (λ number. serves work.phase (work_numbered number before)) work.prior serving))))))

-- ---- all of them

checked-from : (next : ℕ) (before : List Record) (rows : List Row) (more : List Record) → AreRowsOf rows more → AreWorks next (before ++ more)
    → AllByRecursion (λ work. work.progress ≡ []) more → checked_after before rows ≡ Ok (before ++ more)
checked-from next before [] [] theirs are none = ap Ok (sym (append-nil before))
checked-from next before (row ∷ rows) (work ∷ more) theirs are none =
    let reading = read_row-written row work theirs.0 (IsStored-record work (All-middle IsRecord before work more are.records) none.0) in
    let passes = sound next before work more are in
    let whole = append_assoc before (work ∷ []) more in
    rw (reading, passes)
    (checked-from next (before ++ work ∷ []) rows more theirs.1 (subst (AreWorks next) (sym whole) are) none.1 ∙ ap Ok whole)
checked-from next before [] (work ∷ more) theirs are none = absurd theirs
checked-from next before (row ∷ rows) [] theirs are none = absurd theirs

pub checked-written : (next : ℕ) (rows : List Row) (works : List Record) → AreRowsOf rows works → AreWorks next works
    → AllByRecursion (λ work. work.progress ≡ []) works → checked rows ≡ Ok works
checked-written next rows works theirs are none = checked-from next [] rows works theirs are none
