-- Records, runs and instances of which one is changed.
use Rattle.std.proofs.Common.{◌≡◌, ◌⊎◌, ℕ, ◌+◌, ◌<◌, Bool, true, false, cond, eqb, List, [], ◌∷◌, find, Option, Some, None, is_some, refl, sym, ◌∙◌, ap, subst, inl, inr, arith}
use Rattle.std.specs.List.{AllByRecursion}
use Rattle.std.proofs.lemmas.Bool.{cases_Bool, cond-false, cond_both, eqb-true, eqb-false, ne_eqb, true≢false}
use Rattle.wm_collections.specs.Lists.{AllLater, HasOne}
use Rattle.wm_collections.proofs.Lists.{All-find, All-weaker, All-with2, AllLater-weaker, HasOne-map, HasOne-map_with, HasOne-weaker, one_gives}
use Rattle.wm_machine.specs.First.{is_waiting}
use Rattle.wm_machine.specs.Runs.{changed_work, made_out, run_numbered, with_out}
use Rattle.wm_machine.specs.Valid.{Valid, AreApart, AreNumberedInOrder, AreRuns, IsBefore, IsCurrentOf, IsInstanceOf, IsValidRun, IsWorkOf}
use Rattle.wm_machine.specs.declared.record.Phase.TheVariants as phase
use Rattle.wm_machine.specs.Types.{Instance, Period, Record, Run, State}

-- ---- records

-- a record, changed where it has this number
abbrev pub changed : (Record → Record) → ℕ → Record → Record
changed change seq work = cond (eqb work.seq seq) (change work) work

abbrev pub KeepsSeq : (Record → Record) → Type 0
KeepsSeq change = (work : Record) → (change work).seq ≡ work.seq

-- what holds in both cases
pub changed_both : (P : Record → Type 0) (change : Record → Record) (seq : ℕ) (work : Record) → (work.seq ≡ seq → P (change work))
    → ((work.seq ≡ seq → ⊥) → P work) → P (changed change seq work)
changed_both P change seq work hit miss =
    cond_both (eqb work.seq seq) (change work) work P (λ e. hit (eqb-true work.seq seq e)) (λ e. miss (eqb-false work.seq seq e))

-- two changes are one where they agree on the records of this number
pub changed-same : (change other : Record → Record) (seq : ℕ) (work : Record) → (work.seq ≡ seq → change work ≡ other work)
    → changed change seq work ≡ changed other seq work
changed-same change other seq work same =
    elim (cases_Bool (eqb work.seq seq)) [
      | inl e ↦ ap (λ w. cond (eqb work.seq seq) w work) (same (eqb-true work.seq seq e))
      | inr e ↦ cond-false (eqb work.seq seq) (change work) work e ∙ sym (cond-false (eqb work.seq seq) (other work) work e)
    ]

-- records in strictly ascending number
abbrev pub WorksAscend : List Record → Type 0
WorksAscend works = AllLater (λ one other. one.seq < other.seq) works

pub WorksAscend-in_order : (works : List Record) → AllLater IsBefore works → WorksAscend works
WorksAscend-in_order works in_order = AllLater-weaker works (λ one other before. before.number) in_order

-- a work has no other name than before
abbrev pub HasNoOtherName : Option (List ℕ) → Option (List ℕ) → Type 0
HasNoOtherName before now = (text : List ℕ) → now ≡ Some text → before ≡ Some text

-- two records are of one work: number, id and name are the same, but that the name may be taken, and whether it is periodic
pub record IsSameWork (one other : Record) : Type 0 where
  pub seq : other.seq ≡ one.seq
  pub id : other.request.id ≡ one.request.id
  pub name : HasNoOtherName one.name other.name
  pub kind : is_some other.request.period ≡ is_some one.request.period

-- what is one-time still is
pub still_one_time : (before now : Option Period) → is_some now ≡ is_some before → before ≡ None → now ≡ None
still_one_time before None same none = refl
still_one_time before (Some period) same none = absurd (true≢false (same ∙ ap is_some none))

pub IsBefore-same : (one now other then : Record) → IsSameWork one now → IsSameWork other then → IsBefore one other → IsBefore now then
IsBefore-same one now other then same also before = record {
  number = let here = same.seq in let there = also.seq in let below = before.number in omega arith;
  id = λ e. before.id (sym same.id ∙ e ∙ also.id);
  name = λ name is has.
      let kinds = before.name name (same.name name is) (also.name name has) in (
        still_one_time one.request.period now.request.period same.kind kinds.0,
        still_one_time other.request.period then.request.period also.kind kinds.1,
      );
}

-- no two records share a number: what holds of one of this number holds of each
pub all_of_number : (P : Record → Type 0) (seq : ℕ) (works : List Record) → AllLater IsBefore works → HasOne (λ work. (work.seq ≡ seq) × P work) works
    → AllByRecursion (λ work. work.seq ≡ seq → P work) works
all_of_number P seq [] in_order one = tt
all_of_number P seq (work ∷ works) in_order (inl is) = (
  λ e. is.1,
  All-weaker works (λ later before e.
      let here = is.0 in
      let below = before.number in
      absurd (omega arith)) in_order.0,
)
all_of_number P seq (work ∷ works) in_order (inr one) = (
  λ e. absurd (one_gives works (λ later before is. let there = is.0 in let below = before.number in absurd (omega arith)) in_order.0 one),
  all_of_number P seq works in_order.1 one,
)

-- a record of this record's number is this record
abbrev pub IsAlone : Record → Record → Type 0
IsAlone work other = other.seq ≡ work.seq → other ≡ work

pub IsAlone-stored : (work : Record) (works : List Record) → AllLater IsBefore works → HasOne (λ other. other ≡ work) works
    → AllByRecursion (IsAlone work) works
IsAlone-stored work works in_order one =
    all_of_number (λ other. other ≡ work) work.seq works in_order (HasOne-weaker works (λ other is. (ap (λ (w : Record). w.seq) is, is)) one)

-- waiting work isn't running
pub not_running : (work : Record) → is_waiting work.phase ≡ true → work.phase ≡ phase.Running → ⊥
not_running work waiting running = true≢false (sym waiting ∙ ap is_waiting running)

-- the work of a run stays, where waiting work is changed
pub old_work : (change : Record → Record) (work : Record) (works : List Record) (run : Run) → is_waiting work.phase ≡ true → AllByRecursion (IsAlone work) works
    → HasOne (IsWorkOf run) works → HasOne (IsWorkOf run) (changed_work change work.seq works)
old_work change work works run waiting alone one =
    HasOne-map_with _ (changed change work.seq) works (λ other same is.
    changed_both (IsWorkOf run) change work.seq other (λ e. absurd (not_running work waiting (sym (ap (λ (w : Record). w.phase) (same e)) ∙ is.running)))
    (λ e. is)) alone one

-- a run isn't of waiting work
pub other_number : (work : Record) (works : List Record) (run : Run) → is_waiting work.phase ≡ true → AllByRecursion (IsAlone work) works
    → HasOne (IsWorkOf run) works → run.seq ≡ work.seq → ⊥
other_number work works run waiting alone one same =
    one_gives works (λ other alone is. not_running work waiting (sym (ap (λ (w : Record). w.phase) (alone (is.seq ∙ same))) ∙ is.running)) alone one

-- the changed work is there
pub changed_there : (P : Record → Type 0) (change : Record → Record) (work : Record) (works : List Record) → P (change work)
    → HasOne (λ other. other ≡ work) works → HasOne P (changed_work change work.seq works)
changed_there P change work works p one =
    HasOne-map _ (changed change work.seq) works (λ other is. changed_both P change work.seq other (λ e. subst (λ w. P (change w)) (sym is) p)
    (λ no. absurd (no (ap (λ (w : Record). w.seq) is)))) one

-- ---- instances

-- an instance, made out or in where it has this number
abbrev pub made : Bool → ℕ → Instance → Instance
made out number instance = cond (eqb instance.number number) (made_out out instance) instance

-- what holds in both cases
pub made_both : (P : Instance → Type 0) (out : Bool) (number : ℕ) (instance : Instance) → (instance.number ≡ number → P (made_out out instance))
    → ((instance.number ≡ number → ⊥) → P instance) → P (made out number instance)
made_both P out number instance hit miss =
    cond_both (eqb instance.number number) (made_out out instance) instance P (λ e. hit (eqb-true instance.number number e))
    (λ e. miss (eqb-false instance.number number e))

pub AreNumberedInOrder-made : (out : Bool) (number first : ℕ) (instances : List Instance) → AreNumberedInOrder first instances
    → AreNumberedInOrder first (with_out out number instances)
AreNumberedInOrder-made out number first [] ordered = tt
AreNumberedInOrder-made out number first (instance ∷ instances) ordered = (
  made_both (λ i. i.number ≡ first) out number instance (λ e. ordered.0) (λ e. ordered.0),
  AreNumberedInOrder-made out number (first + 1) instances ordered.1,
)

-- the instance of a run stays
pub same_instance : (out : Bool) (number : ℕ) (instances : List Instance) (run : Run) → HasOne (IsInstanceOf run) instances
    → HasOne (IsInstanceOf run) (with_out out number instances)
same_instance out number instances run one =
    HasOne-map _ (made out number) instances (λ i is. made_both (IsInstanceOf run) out number i (λ e. record { number = is.number; kind = is.kind }) (λ e. is))
    one

-- the instance that is made out is there
pub made_there : (P : Instance → Type 0) (out : Bool) (idle : Instance) (instances : List Instance) → P (made_out out idle)
    → HasOne (λ other. other ≡ idle) instances → HasOne P (with_out out idle.number instances)
made_there P out idle instances p one =
    HasOne-map _ (made out idle.number) instances (λ other is. made_both P out idle.number other (λ e. subst (λ i. P (made_out out i)) (sym is) p)
    (λ no. absurd (no (ap (λ (i : Instance). i.number) is)))) one

-- ---- runs

-- a run is the one that was found by its number, or apart from it
abbrev pub IsFoundOrApart : ℕ → Run → Run → Type 0
IsFoundOrApart number run other = ((eqb other.run number ≡ true) × (other ≡ run)) ⊎ ((eqb other.run number ≡ false) × AreApart run other)

apart_sym : (one other : Run) → AreApart one other → AreApart other one
apart_sym one other apart = record {
  runs = λ e. apart.runs (sym e);
  works = λ now then e. apart.works then now (sym e);
  instances = λ e. apart.instances (sym e);
}

pub found_or_apart : (number : ℕ) (run : Run) (runs : List Run) → run_numbered number runs ≡ Some run → AllLater AreApart runs
    → AllByRecursion (IsFoundOrApart number run) runs
found_or_apart number run [] found apart = tt
found_or_apart number run (first ∷ runs) found apart =
    cond_both (eqb first.run number) (Some first) (find (λ (r : Run). eqb r.run number) runs)
    (λ (o : Option Run). o ≡ Some run → AllByRecursion (IsFoundOrApart number run) (first ∷ runs)) (λ e is.
    let same : first ≡ run = cc in (
      inl (e, same),
      All-weaker runs (λ other a. inr (
        ne_eqb other.run number (λ named. a.runs (eqb-true first.run number e ∙ sym named)),
        subst (λ r. AreApart r other) same a,
      )) apart.0,
    )) (λ e is. (
      inr (e, apart_sym first run (All-find _ (λ r. eqb r.run number) runs run is apart.0)),
      found_or_apart number run runs is apart.1,
    )) found

-- a run that was found is valid
pub found_valid : (s : State) (number : ℕ) (run : Run) → Valid s → run_numbered number s.runs ≡ Some run → IsValidRun s.works s.instances s.next_run run
found_valid s number run valid found = All-find _ (λ r. eqb r.run number) s.runs run found valid.runs.each

-- each run is this one, or apart from it
pub each_or_apart : (runs : List Run) → AllLater AreApart runs → AllByRecursion (λ run. AllByRecursion (λ other. (other ≡ run) ⊎ AreApart run other) runs) runs
each_or_apart [] apart = tt
each_or_apart (run ∷ runs) apart = (
  (inl refl, All-weaker runs (λ other a. inr a) apart.0),
  All-with2 runs (λ other a all. (inr (apart_sym run other a), all)) apart.0 (each_or_apart runs apart.1),
)

-- runs stay valid beside other works, where a running work has its run and the work of a run is among them
pub AreRuns-beside : (s : State) (works : List Record) → Valid s → AllByRecursion (λ w. w.phase ≡ phase.Running → HasOne (IsCurrentOf w.seq) s.runs) works
    → ((run : Run) → HasOne (IsWorkOf run) s.works → HasOne (IsWorkOf run) works) → AreRuns works s.instances s.next_run s.runs
AreRuns-beside s works valid running stays = record {
  running = running;
  each = All-weaker s.runs (λ r is. record {
    number = is.number;
    turn = is.turn;
    input = is.input;
    work = λ current. stays r (is.work current);
    instance = is.instance;
  }) valid.runs.each;
  apart = valid.runs.apart;
}
