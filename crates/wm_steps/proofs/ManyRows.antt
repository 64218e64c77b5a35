-- The step of an event that changes several records: those that are touched take the places of others.
use Rattle.std.proofs.Common.{◌≡◌, ◌≢◌, ℕ, suc, ◌+◌, ◌<◌, pos, true, eqb, List, [], ◌∷◌, ◌++◌, map, set, Option, Some, None, refl, sym, ◌∙◌, ap, subst, arith, inl, inr}
use Rattle.std.specs.List.{list_any, AllByRecursion}
use Rattle.std.proofs.lemmas.Bool.{eq-eqb, or_left, or_right}
use Rattle.std.proofs.lemmas.Int.{ints}
use Rattle.std.proofs.lemmas.List.{append-nil}
use Rattle.wm_keeper.specs.Keeper.{changed_number, AreOfDifferentNumbers}
use Rattle.wm_keeper.specs.declared.row.Change.{Change}
use Rattle.wm_collections.proofs.Lists.{All-stored, All-unmap, All-weaker, All-with2, All-with3, map-same}
use Rattle.wm_collections.specs.Lists.{HasOne}
use Rattle.wm_machine.proofs.Runnings.{WorksAscend, WorksAscend-in_order}
use Rattle.wm_machine.proofs.Steps.{Valid-after}
use Rattle.wm_machine.specs.Limits.{FitsRow}
use Rattle.wm_machine.specs.Step.{Legal, after}
use Rattle.wm_machine.specs.Valid.{IsRecord, Valid}
use Rattle.wm_machine.specs.declared.event.Event.{Event}
use Rattle.wm_machine.specs.declared.record.Record.{Record}
use Rattle.wm_machine.specs.declared.state.State.{State}
use Rattle.wm_steps.proofs.StepFits.{unplaced}
use Rattle.wm_steps.proofs.Unsucceeding.{unsucceeding-not, Unsucceeding}
use Rattle.wm_changes.specs.Readiness.{TouchesAllFreed, TouchesFreed}
use Rattle.wm_changes.specs.Replacements.{MayReplace}
use Rattle.wm_changes.specs.Replacements.{at_index, or_same, replacements}
use Rattle.wm_changes.specs.StepChanges.{changed_state, put_replaced, replacing_all, setting_with, with_replaced, IsStepOf, KeepsPlace}
use Rattle.wm_changes.specs.declared.change.Replacement.{Replacement}
use Rattle.wm_changes.specs.declared.change.RunChange.{RunChange}
use Rattle.wm_changes.specs.declared.change.SettingChange.{SettingChange}
use Rattle.wm_changes.specs.declared.change.SettingChange.TheVariants as settings
use Rattle.wm_changes.specs.declared.change.StepChange.{StepChange}

-- a record after a change that may leave it
abbrev pub after_change : (Record → Option Record) → Record → Record
after_change change work = or_same work (change work)

-- ---- in their places

-- with a record more in front, the indexes are greater by one
replaced-behind-by : (change : Record → Option Record) (found : Option Record) (i : ℕ) (xs ys : List Record) (front : Record)
    → ((rest : List Record) → with_replaced (replacements change (suc (i + 1)) xs) (front ∷ rest) ≡ front ∷ with_replaced (replacements change (i + 1) xs) rest)
    → with_replaced (at_index (suc i) found (replacements change (suc i + 1) xs)) (front ∷ ys)
    ≡ front ∷ with_replaced (at_index i found (replacements change (i + 1) xs)) ys
replaced-behind-by change None i xs ys front later =
    let next : suc i + 1 ≡ suc (i + 1) = omega arith in
    ap (λ n. with_replaced (replacements change n xs) (front ∷ ys)) next ∙ later ys
replaced-behind-by change (Some new) i xs ys front later =
    let next : suc i + 1 ≡ suc (i + 1) = omega arith in
    ap (λ n. with_replaced (replacements change n xs) (front ∷ set ys i new)) next ∙ later (set ys i new)

replaced-behind : (change : Record → Option Record) (i : ℕ) (xs ys : List Record) (front : Record)
    → with_replaced (replacements change (suc i) xs) (front ∷ ys) ≡ front ∷ with_replaced (replacements change i xs) ys
replaced-behind change i [] ys front = refl
replaced-behind change i (work ∷ xs) ys front = replaced-behind-by change (change work) i xs ys front (λ rest. replaced-behind change (i + 1) xs rest front)

replaced-first : (change : Record → Option Record) (found : Option Record) (work : Record) (works : List Record)
    → with_replaced (replacements change 0 works) works ≡ map (after_change change) works
    → with_replaced (at_index 0 found (replacements change (0 + 1) works)) (work ∷ works) ≡ or_same work found ∷ map (after_change change) works
replaced-first change None work works rest = replaced-behind change 0 works works work ∙ ap (λ rest. work ∷ rest) rest
replaced-first change (Some new) work works rest = replaced-behind change 0 works works new ∙ ap (λ rest. new ∷ rest) rest

-- the records that a change touches are in their places
pub replaced-all : (change : Record → Option Record) (works : List Record) → with_replaced (replacements change 0 works) works ≡ map (after_change change) works
replaced-all change [] = refl
replaced-all change (work ∷ works) = replaced-first change (change work) work works (replaced-all change works)

-- ---- of their nodes

-- each record of some keeps its node
abbrev pub KeepNodes : (Record → Option Record) → List Record → Type 0
KeepNodes change works = AllByRecursion (λ work. MayReplace work (after_change change work)) works

keeps-behind-by : (change : Record → Option Record) (found : Option Record) (i : ℕ) (xs ys : List Record) (front : Record)
    → (AllByRecursion (KeepsPlace ys) (replacements change (i + 1) xs) → AllByRecursion (KeepsPlace (front ∷ ys)) (replacements change (suc (i + 1)) xs))
    → AllByRecursion (KeepsPlace ys) (at_index i found (replacements change (i + 1) xs))
    → AllByRecursion (KeepsPlace (front ∷ ys)) (at_index (suc i) found (replacements change (suc i + 1) xs))
keeps-behind-by change None i xs ys front later keep =
    let next : suc (i + 1) ≡ suc i + 1 = omega arith in
    subst (λ n. AllByRecursion (KeepsPlace (front ∷ ys)) (replacements change n xs)) next (later keep)
keeps-behind-by change (Some new) i xs ys front later keep =
    let next : suc (i + 1) ≡ suc i + 1 = omega arith in
    (keep.0, subst (λ n. AllByRecursion (KeepsPlace (front ∷ ys)) (replacements change n xs)) next (later keep.1))

keeps-behind : (change : Record → Option Record) (i : ℕ) (xs ys : List Record) (front : Record) → AllByRecursion (KeepsPlace ys) (replacements change i xs)
    → AllByRecursion (KeepsPlace (front ∷ ys)) (replacements change (suc i) xs)
keeps-behind change i [] ys front keep = tt
keeps-behind change i (work ∷ xs) ys front keep = keeps-behind-by change (change work) i xs ys front (λ rest. keeps-behind change (i + 1) xs ys front rest) keep

keeps-first : (change : Record → Option Record) (found : Option Record) (work : Record) (works : List Record) → MayReplace work (or_same work found)
    → AllByRecursion (KeepsPlace (work ∷ works)) (replacements change (0 + 1) works)
    → AllByRecursion (KeepsPlace (work ∷ works)) (at_index 0 found (replacements change (0 + 1) works))
keeps-first change None work works same keep = keep
keeps-first change (Some new) work works same keep = (same, keep)

pub replaced-keep : (change : Record → Option Record) (works : List Record) → KeepNodes change works
    → AllByRecursion (KeepsPlace works) (replacements change 0 works)
replaced-keep change [] keeps = tt
replaced-keep change (work ∷ works) keeps =
    keeps-first change (change work) work works keeps.0 (keeps-behind change 0 works works work (replaced-keep change works keeps.1))

-- ---- with rows that fit, each in a commit once

replaced-each-by : (P : Record → Type 0) (change : Record → Option Record) (found : Option Record) (i : ℕ) (work : Record) (works : List Record)
    → P (or_same work found) → AllByRecursion (λ r. P r.work) (replacements change (i + 1) works)
    → AllByRecursion (λ r. P r.work) (at_index i found (replacements change (i + 1) works))
replaced-each-by P change None i work works p later = later
replaced-each-by P change (Some new) i work works p later = (p, later)

-- what holds of each record after the change holds of those that are replaced
pub replaced-each : (P : Record → Type 0) (change : Record → Option Record) (i : ℕ) (works : List Record)
    → AllByRecursion (λ work. P (after_change change work)) works → AllByRecursion (λ r. P r.work) (replacements change i works)
replaced-each P change i [] all = tt
replaced-each P change i (work ∷ works) all = replaced-each-by P change (change work) i work works all.0 (replaced-each P change (i + 1) works all.1)

-- rows of these have other numbers
later-rows : (number : ℕ) (replaced : List Replacement) → AllByRecursion (λ r. number < r.work.seq) replaced
    → AllByRecursion (λ (later : Change). pos number ≢ changed_number later) (map put_replaced replaced)
later-rows number [] above = tt
later-rows number (r ∷ replaced) above = (
  λ same. let less = above.0 in let clash : pos number ≡ pos r.work.seq = same in absurd (omega (arith, ints)),
  later-rows number replaced above.1,
)

replaced-apart-by : (change : Record → Option Record) (found : Option Record) (i : ℕ) (work : Record) (works : List Record) → KeepNodes change works
    → (or_same work found).seq ≡ work.seq → WorksAscend (work ∷ works) → AreOfDifferentNumbers (map put_replaced (replacements change (i + 1) works))
    → AreOfDifferentNumbers (map put_replaced (at_index i found (replacements change (i + 1) works)))
replaced-apart-by change None i work works keeps same ascend later = later
replaced-apart-by change (Some new) i work works keeps same ascend later = (
  later-rows new.seq (replacements change (i + 1) works) (replaced-each (λ w. new.seq < w.seq) change (i + 1) works
      (All-with2 works (λ later one below. let above = below in let kept = one.seq in omega (arith, above, same, kept)) keeps ascend.0)),
  later,
)

pub replaced-apart : (change : Record → Option Record) (i : ℕ) (works : List Record) → KeepNodes change works → WorksAscend works
    → AreOfDifferentNumbers (map put_replaced (replacements change i works))
replaced-apart change i [] keeps ascend = tt
replaced-apart change i (work ∷ works) keeps ascend =
    replaced-apart-by change (change work) i work works keeps.1 keeps.0.seq ascend (replaced-apart change (i + 1) works keeps.1 ascend.1)

-- ---- works that are freed

-- a change of these touches the works that it frees
abbrev pub FreesTouched : State → StepChange → Type 0
FreesTouched s change = TouchesAllFreed s.works (changed_state change s).works change

-- none is freed where no record succeeds
pub unsucceeding-freeing : (touch : Record → Option Record) (works then : List Record) (change : StepChange) → KeepNodes touch works
    → AllByRecursion (λ work. Unsucceeding work (after_change touch work)) works
    → AllByRecursion (λ r. TouchesFreed works then change r.work) (replacements touch 0 works)
unsucceeding-freeing touch works then change keeps none =
    replaced-each (TouchesFreed works then change) touch 0 works
    (All-with3 works (λ work stored node not is. absurd (unsucceeding-not work (after_change touch work) works stored node.seq not is))
    (All-stored works) keeps none)

touched-by : (number : ℕ) (found : Option Record) (i : ℕ) (later : List Replacement) → list_any (λ r. eqb r.work.seq number) later ≡ true
    → list_any (λ r. eqb r.work.seq number) (at_index i found later) ≡ true
touched-by number None i later is = is
touched-by number (Some new) i later is = or_right _ _ is

-- a record in whose place one of its number comes is touched
pub replaced-touched : (touch : Record → Option Record) (i : ℕ) (works : List Record) (work new : Record) → HasOne (λ other. other ≡ work) works
    → touch work ≡ Some new → new.seq ≡ work.seq → list_any (λ r. eqb r.work.seq work.seq) (replacements touch i works) ≡ true
replaced-touched touch i [] work new one is same = absurd one
replaced-touched touch i (first ∷ works) work new (inl here) is same =
    let found : touch first ≡ Some new = ap touch here ∙ is in
    rw found (or_left _ _ (eq-eqb new.seq work.seq same))
replaced-touched touch i (first ∷ works) work new (inr one) is same =
    touched-by work.seq (touch first) i (replacements touch (i + 1) works) (replaced-touched touch (i + 1) works work new one is same)

-- ---- the step

-- a legal event that changes the records so, and what its change says of the runs and sets, is made by the change that replaces the touched ones
pub setting_with-step : (to : SettingChange) (s t : State) (touch : Record → Option Record) (change : Record → Record) (run : RunChange) (e : Event) → Valid s
    → Legal s e → KeepNodes touch s.works → AllByRecursion (λ work. after_change touch work ≡ change work) s.works
    → changed_state (setting_with to (replacements touch 0 s.works) run e) s
    ≡ record t { works = with_replaced (replacements touch 0 s.works) s.works ++ []; next = t.next + 0 }
    → after s e ≡ record t { works = map change s.works } → FreesTouched s (setting_with to (replacements touch 0 s.works) run e)
    → IsStepOf s (setting_with to (replacements touch 0 s.works) run e)
setting_with-step to s t touch change run e valid legal keeps agree made then freeing =
    let replaced = replacements touch 0 s.works in
    let same = map-same (after_change touch) change s.works agree in
    let works_are : (after s e).works ≡ map (after_change touch) s.works = ap (λ (t : State). t.works) then ∙ sym same in
    let records = subst (AllByRecursion IsRecord) works_are (Valid-after s e valid legal).works.records in
    let rows_fit = All-weaker s.works (λ work is. is.fits) (All-unmap _ (after_change touch) s.works records) in
    record {
      fits = record {
        told = tt;
        replaced = replaced-keep touch s.works keeps;
        removed = tt;
        placed = tt;
        named = tt;
        numbers = omega (arith, valid.works.fits);
        replaced_rows = replaced-each FitsRow touch 0 s.works rows_fit;
        placed_rows = tt;
        apart = subst AreOfDifferentNumbers (sym (append-nil (map put_replaced replaced ++ []) ∙ append-nil (map put_replaced replaced)))
            (replaced-apart touch 0 s.works keeps (WorksAscend-in_order s.works valid.works.in_order));
        alone = inl refl;
      };
      legal = legal;
      state = made ∙ unplaced t (with_replaced replaced s.works) (map change s.works) (replaced-all touch s.works ∙ same) ∙ sym then;
      freeing = freeing;
    }

-- and so where nothing is set
pub replacing_all-step : (s t : State) (touch : Record → Option Record) (change : Record → Record) (run : RunChange) (e : Event) → Valid s
    → Legal s e → KeepNodes touch s.works → AllByRecursion (λ work. after_change touch work ≡ change work) s.works
    → changed_state (replacing_all (replacements touch 0 s.works) run e) s
    ≡ record t { works = with_replaced (replacements touch 0 s.works) s.works ++ []; next = t.next + 0 }
    → after s e ≡ record t { works = map change s.works } → FreesTouched s (replacing_all (replacements touch 0 s.works) run e)
    → IsStepOf s (replacing_all (replacements touch 0 s.works) run e)
replacing_all-step s t touch change run e = setting_with-step settings.Unchanged s t touch change run e
