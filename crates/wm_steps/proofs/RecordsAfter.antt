-- The records after a change, each by itself: what is put in its place, and nothing where it is removed.
use Rattle.std.proofs.Common.{◌≡◌, ℕ, zero, suc, ◌<◌, ◌≤◌, Bool, true, false, not, ◌&&◌, ◌||◌, cond, eqb, List, [], ◌∷◌, ◌++◌, filter, filter_map, map, set, slice_get, Option, Some, None, refl, sym, ◌∙◌, ap, subst, arith, inl, inr}
use Rattle.std.specs.List.{AllByRecursion, cons_option, list_any}
use Rattle.std.specs.Option.{option_or}
use Rattle.std.proofs.Math.Bool.{or-false}
use Rattle.std.proofs.lemmas.Bool.{cases_Bool, cond_both, eq-eqb, eqb-true, ne_eqb, or_parts}
use Rattle.std.proofs.lemmas.List.Folds.{find-append, list_any-append}
use Rattle.std.proofs.lemmas.Option.{none-some, same_Some}
use Rattle.wm_collections.proofs.Lists.{All-weaker, All-with2, filter-all, find-fails, list_any-false, map-twice}
use Rattle.wm_collections.specs.Lists.{is_among}
use Rattle.wm_machine.proofs.Runnings.{WorksAscend, WorksAscend-in_order}
use Rattle.wm_machine.specs.First.{has_succeeded, is_succeeded}
use Rattle.wm_machine.specs.Input.{work_numbered}
use Rattle.wm_machine.specs.Valid.{Valid}
use Rattle.wm_machine.specs.declared.record.Record.{Record}
use Rattle.wm_machine.specs.declared.state.State.{State}
use Rattle.wm_steps.proofs.ReplacedRecords.{keeps_number, next-above, seqs-replaced, still_keep, told_keep, All-seq, KeepsNumber, WorksAscend-replaced, WorksAscend-set}
use Rattle.wm_graph.proofs.Tests.{eq-swap}
use Rattle.wm_changes.specs.StepChanges.{changed_state, other_works, seqs_of, with_replaced, without, Fits}
use Rattle.wm_changes.specs.declared.change.Replacement.{Replacement}
use Rattle.wm_changes.specs.declared.change.StepChange.{StepChange}
use Rattle.wm_changes.specs.Touched.{put_in, then_of, touches}

-- ---- what is put in the place of a record

-- one record put in the place of that of its number
abbrev put_one : Record → Record → Record
put_one new work = cond (eqb new.seq work.seq) new work

-- above its number nothing is put
put-above : (new : Record) (works : List Record) → AllByRecursion (λ work. new.seq < work.seq) works → map (put_one new) works ≡ works
put-above new [] above = refl
put-above new (work ∷ works) above =
    let miss = ne_eqb new.seq work.seq (λ e. absurd (omega (arith, above.0))) in
    ap (λ b. cond b new work ∷ map (put_one new) works) miss ∙ ap (λ rest. work ∷ rest) (put-above new works above.1)

set-put : (works : List Record) (i : ℕ) (new : Record) → slice_get (seqs_of works) i ≡ Some new.seq → WorksAscend works
    → set works i new ≡ map (put_one new) works
set-put [] i new is ascend = refl
set-put (work ∷ works) zero new is ascend =
    let same : work.seq ≡ new.seq = same_Some work.seq new.seq is in
    let hit = eq-eqb new.seq work.seq (sym same) in
    let above = subst (λ n. AllByRecursion (λ later. n < later.seq) works) same ascend.0 in
    sym (ap (λ b. cond b new work ∷ map (put_one new) works) hit ∙ ap (λ rest. new ∷ rest) (put-above new works above))
set-put (work ∷ works) (suc i) new is ascend =
    let above : work.seq < new.seq = All-seq (λ n. work.seq < n) works i new.seq ascend.0 is in
    let miss = ne_eqb new.seq work.seq (λ e. absurd (omega (arith, above))) in
    sym (ap (λ b. cond b new work ∷ map (put_one new) works) miss ∙ ap (λ rest. work ∷ rest) (sym (set-put works i new is ascend.1)))

same_each : (works : List Record) → works ≡ map (put_in []) works
same_each [] = refl
same_each (work ∷ works) = ap (λ rest. work ∷ rest) (same_each works)

put-twice : (replaced : Replacement) (later : List Replacement) (works : List Record)
    → map (put_in later) (map (put_one replaced.work) works) ≡ map (put_in (replaced ∷ later)) works
put-twice replaced later [] = refl
put-twice replaced later (work ∷ works) = ap (λ rest. put_in (replaced ∷ later) work ∷ rest) (put-twice replaced later works)

-- each record for itself
replaced-put : (replaced : List Replacement) (works : List Record) → AllByRecursion (KeepsNumber works) replaced → WorksAscend works
    → with_replaced replaced works ≡ map (put_in replaced) works
replaced-put [] works keep ascend = same_each works
replaced-put (replaced ∷ later) works keep ascend =
    replaced-put later (set works replaced.index replaced.work) (still_keep works replaced later keep)
    (WorksAscend-set works replaced.index replaced.work keep.0 ascend)
    ∙ ap (map (put_in later)) (set-put works replaced.index replaced.work keep.0 ascend)
    ∙ put-twice replaced later works

-- what is put in the place of a record has its number
pub put-seq : (replaced : List Replacement) (work : Record) → (put_in replaced work).seq ≡ work.seq
put-seq [] work = refl
put-seq (replaced ∷ later) work =
    put-seq later (put_one replaced.work work)
    ∙ cond_both (eqb replaced.work.seq work.seq) replaced.work work (λ (w : Record). w.seq ≡ work.seq) (λ e. eqb-true replaced.work.seq work.seq e) (λ e. refl)

-- nothing is put where none has its number
pub put-none : (replaced : List Replacement) (work : Record) → list_any (λ (r : Replacement). eqb r.work.seq work.seq) replaced ≡ false
    → put_in replaced work ≡ work
put-none [] work none = refl
put-none (replaced ∷ later) work none =
    let parts = or_parts (eqb replaced.work.seq work.seq) (list_any (λ (r : Replacement). eqb r.work.seq work.seq) later) none in
    ap (λ b. put_in later (cond b replaced.work work)) parts.0 ∙ put-none later work parts.1

-- what a change puts in the place of a record
abbrev put_by : StepChange → Record → Record
put_by change work = put_in change.replaced (put_in change.told work)

put_by-seq : (change : StepChange) (work : Record) → (put_by change work).seq ≡ work.seq
put_by-seq change work = put-seq change.replaced (put_in change.told work) ∙ put-seq change.told work

-- the record that a change leaves has the same number
then-seq : (change : StepChange) (work new : Record) → then_of change work ≡ Some new → new.seq ≡ work.seq
then-seq change work new is =
    cond_both (is_among change.removed work.seq) None (Some (put_by change work)) (λ (found : Option Record). found ≡ Some new → new.seq ≡ work.seq)
    (λ e none. absurd (none-some new none)) (λ e some. ap (λ (w : Record). w.seq) (sym (same_Some (put_by change work) new some)) ∙ put_by-seq change work) is

-- a record that a change doesn't touch stays as it is
pub then-untouched : (change : StepChange) (work : Record) → touches change work.seq ≡ false → then_of change work ≡ Some work
then-untouched change work untouched =
    let any : List Replacement → Bool = λ replaced. list_any (λ (r : Replacement). eqb r.work.seq work.seq) replaced in
    let gone = or_parts (is_among change.removed work.seq) (any change.told || any change.replaced) untouched in
    let put = or_parts (any change.told) (any change.replaced) gone.1 in
    ap (λ b. cond b None (Some (put_by change work))) gone.0 ∙ ap (λ w. Some (put_in change.replaced w)) (put-none change.told work put.0)
    ∙ ap (λ (w : Record). Some w) (put-none change.replaced work put.1)

-- ---- the records after a change

-- whether a record isn't one of those removed
abbrev stays : List ℕ → Record → Bool
stays numbers work = not (is_among numbers work.seq)

others-stay : (number : ℕ) (numbers : List ℕ) (works : List Record)
    → filter (stays numbers) (other_works number works) ≡ filter (stays (number ∷ numbers)) works
others-stay number numbers [] = refl
others-stay number numbers (work ∷ works) =
    let rest = others-stay number numbers works in
    let swap = eq-swap number work.seq in
    elim (cases_Bool (eqb work.seq number)) [
      | inl e ↦ let here : eqb number work.seq ≡ true = swap ∙ e in rw (e, here) rest
      | inr e ↦
          let here : eqb number work.seq ≡ false = swap ∙ e in
          rw (e, here) (ap (λ (kept : List Record). cond (stays numbers work) (work ∷ kept) kept) rest)
    ]

without-stay : (numbers : List ℕ) (works : List Record) → without numbers works ≡ filter (stays numbers) works
without-stay [] works = sym (filter-all (stays []) works (λ work. refl))
without-stay (number ∷ numbers) works = without-stay numbers (other_works number works) ∙ others-stay number numbers works

stay-one : (b : Bool) (work : Record) (rest : List Record) → cond (not b) (work ∷ rest) rest ≡ cons_option (cond b None (Some work)) rest
stay-one true work rest = refl
stay-one false work rest = refl

put-left : (change : StepChange) (works : List Record) → filter (stays change.removed) (map (put_by change) works) ≡ filter_map (then_of change) works
put-left change [] = refl
put-left change (work ∷ works) =
    let put = put_by change work in
    let rest = filter (stays change.removed) (map (put_by change) works) in
    ap (λ (n : ℕ). cond (not (is_among change.removed n)) (put ∷ rest) rest) (put_by-seq change work)
    ∙ stay-one (is_among change.removed work.seq) put rest ∙ ap (cons_option (then_of change work)) (put-left change works)

-- those before that are left, each as it is then, and the new ones
pub records-after : (s : State) (change : StepChange) → Valid s → Fits s change
    → (changed_state change s).works ≡ filter_map (then_of change) s.works ++ change.placed
records-after s change valid fits =
    let told = with_replaced change.told s.works in
    let ascend = WorksAscend-in_order s.works valid.works.in_order in
    let tell = told_keep s.works change.told fits.told in
    let keep : AllByRecursion (KeepsNumber told) change.replaced =
    subst (λ numbers. AllByRecursion (λ r. slice_get numbers r.index ≡ Some r.work.seq) change.replaced) (sym (seqs-replaced change.told s.works tell))
    (All-weaker change.replaced (keeps_number s.works) fits.replaced) in
    let put : with_replaced change.replaced told ≡ map (put_by change) s.works =
    replaced-put change.replaced told keep (WorksAscend-replaced change.told s.works tell ascend)
    ∙ ap (map (put_in change.replaced)) (replaced-put change.told s.works tell ascend) ∙ map-twice (put_in change.told) (put_in change.replaced) s.works in
    ap (λ (left : List Record). left ++ change.placed)
    (ap (without change.removed) put ∙ without-stay change.removed (map (put_by change) s.works) ∙ put-left change s.works)

-- ---- finding one after a change by its number

-- a record, where it is left, has its number
abbrev HasItsNumber : Record → Option Record → Type 0
HasItsNumber work found = (new : Record) → found ≡ Some new → new.seq ≡ work.seq

left-one : (P : ℕ → Type 0) (work : Record) (found : Option Record) (rest : List Record) → HasItsNumber work found → P work.seq
    → AllByRecursion (λ w. P w.seq) rest → AllByRecursion (λ w. P w.seq) (cons_option found rest)
left-one P work None rest seq holds all = all
left-one P work (Some new) rest seq holds all = (subst P (sym (seq new refl)) holds, all)

-- what holds of the numbers before holds of those that are left
pub All-left : (P : ℕ → Type 0) (change : StepChange) (works : List Record) → AllByRecursion (λ work. P work.seq) works
    → AllByRecursion (λ work. P work.seq) (filter_map (then_of change) works)
All-left P change [] all = tt
All-left P change (work ∷ works) all =
    left-one P work (then_of change work) (filter_map (then_of change) works) (then-seq change work) all.0 (All-left P change works all.1)

none-above : (number : ℕ) (works : List Record) → AllByRecursion (λ work. number < work.seq) works → work_numbered number works ≡ None
none-above number works above =
    find-fails (λ (work : Record). eqb work.seq number) works (All-weaker works (λ work more. ne_eqb work.seq number (λ e. absurd (omega arith))) above)

found-first : (work : Record) (found : Option Record) (rest : List Record) → HasItsNumber work found → AllByRecursion (λ w. work.seq < w.seq) rest
    → work_numbered work.seq (cons_option found rest) ≡ found
found-first work None rest seq above = none-above work.seq rest above
found-first work (Some new) rest seq above = rw (eq-eqb new.seq work.seq (seq new refl)) refl

found-later : (number : ℕ) (work : Record) (found : Option Record) (rest : List Record) → HasItsNumber work found → work.seq < number
    → work_numbered number (cons_option found rest) ≡ work_numbered number rest
found-later number work None rest seq less = refl
found-later number work (Some new) rest seq less =
    let same = seq new refl in
    let miss = ne_eqb new.seq number (λ e. absurd (omega (arith, same, less))) in
    rw miss refl

left-numbered : (change : StepChange) (works : List Record) → WorksAscend works
    → AllByRecursion (λ work. work_numbered work.seq (filter_map (then_of change) works) ≡ then_of change work) works
left-numbered change [] ascend = tt
left-numbered change (work ∷ works) ascend =
    let then = then_of change work in
    let rest = filter_map (then_of change) works in
    let seq = then-seq change work in (
      found-first work then rest seq (All-left (λ n. work.seq < n) change works ascend.0),
      All-with2 works (λ later less is. found-later later.seq work then rest seq less ∙ is) ascend.0 (left-numbered change works ascend.1),
    )

or-none : (found : Option Record) → option_or found None ≡ found
or-none None = refl
or-none (Some work) = refl

-- below the number of the first new record none of them is found
new-none : (next : ℕ) (number : ℕ) (placed : List Record) → AllByRecursion (λ work. next ≤ work.seq) placed → number < next
    → work_numbered number placed ≡ None
new-none next number placed above below = none-above number placed (All-weaker placed (λ work more. omega (arith, below)) above)

-- a record is found after a change as it is then, and not where it is removed
pub numbered-after : (s : State) (change : StepChange) → Valid s → Fits s change
    → AllByRecursion (λ work. work_numbered work.seq (changed_state change s).works ≡ then_of change work) s.works
numbered-after s change valid fits =
    let left = filter_map (then_of change) s.works in
    let above = next-above s.next change.placed fits.placed in
    All-with2 s.works (λ work below is.
    ap (work_numbered work.seq) (records-after s change valid fits)
    ∙ find-append (λ (w : Record). eqb w.seq work.seq) left change.placed
    ∙ ap (option_or (work_numbered work.seq left)) (new-none s.next work.seq change.placed above below) ∙ or-none (work_numbered work.seq left) ∙ is)
    valid.works.numbers (left-numbered change s.works (WorksAscend-in_order s.works valid.works.in_order))

-- ---- whether one has succeeded after a change

succeeded-other : (number : ℕ) (work : Record) (found : Option Record) (rest : List Record) → HasItsNumber work found → eqb work.seq number ≡ false
    → has_succeeded (cons_option found rest) number ≡ has_succeeded rest number
succeeded-other number work None rest seq other = refl
succeeded-other number work (Some new) rest seq other =
    let miss : eqb new.seq number ≡ false = ap (λ n. eqb n number) (seq new refl) ∙ other in
    rw miss refl

-- a number that a change doesn't touch
left-succeeded : (change : StepChange) (number : ℕ) (works : List Record) → touches change number ≡ false
    → has_succeeded (filter_map (then_of change) works) number ≡ has_succeeded works number
left-succeeded change number [] untouched = refl
left-succeeded change number (work ∷ works) untouched =
    let rest = filter_map (then_of change) works in
    let same = left-succeeded change number works untouched in
    let here : Bool → Bool = λ b. (b && is_succeeded work.phase) || has_succeeded works number in
    elim (cases_Bool (eqb work.seq number)) [
      | inl e ↦
          let stays : touches change work.seq ≡ false = ap (touches change) (eqb-true work.seq number e) ∙ untouched in
          ap (λ found. has_succeeded (cons_option found rest) number) (then-untouched change work stays)
          ∙ ap (λ b. (eqb work.seq number && is_succeeded work.phase) || b) same
      | inr e ↦ succeeded-other number work (then_of change work) rest (then-seq change work) e ∙ same ∙ sym (ap here e)
    ]

-- none of the new records has a number below the first one's
new-not : (next : ℕ) (number : ℕ) (placed : List Record) → AllByRecursion (λ work. next ≤ work.seq) placed → number < next
    → has_succeeded placed number ≡ false
new-not next number placed above below =
    list_any-false (λ (work : Record). eqb work.seq number && is_succeeded work.phase) placed
    (All-weaker placed (λ work more. ap (λ b. b && is_succeeded work.phase) (ne_eqb work.seq number (λ e. absurd (omega (arith, below))))) above)

-- what a change doesn't touch has succeeded after it where it had before
pub succeeded-after : (s : State) (change : StepChange) → Valid s → Fits s change → (number : ℕ) → touches change number ≡ false → number < s.next
    → has_succeeded (changed_state change s).works number ≡ has_succeeded s.works number
succeeded-after s change valid fits number untouched below =
    let left = filter_map (then_of change) s.works in
    ap (λ (works : List Record). has_succeeded works number) (records-after s change valid fits)
    ∙ list_any-append (λ (work : Record). eqb work.seq number && is_succeeded work.phase) left change.placed
    ∙ ap (λ b. has_succeeded left number || b)
    (new-not s.next number change.placed (next-above s.next change.placed fits.placed) below) ∙ or-false (has_succeeded left number)
    ∙ left-succeeded change number s.works untouched
