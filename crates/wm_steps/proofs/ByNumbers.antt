-- The records that a change gives for others are found by the numbers beyond which nothing changes.
use Rattle.std.proofs.Common.{◌≡◌, ℕ, ◌+◌, ◌<◌, false, eqb, List, [], ◌∷◌, filter_map, slice_get, Option, Some, None, option_map, refl, sym, ◌∙◌, ap, subst, arith, zero, suc, inl, inr}
use Rattle.std.specs.List.{cons_option, AllByRecursion}
use Rattle.std.proofs.lemmas.Bool.{cases_Bool, cases_order, eq-eqb, eqb-true, ne_eqb}
use Rattle.std.proofs.lemmas.Option.{none-some, same_Some}
use Rattle.wm_collections.proofs.Lists.{All-weaker, All-with2, filter_map-same, find-passes}
use Rattle.wm_collections.specs.Lists.{is_among, AllLater, NumbersAscend}
use Rattle.wm_machine.proofs.Runnings.{WorksAscend, WorksAscend-in_order}
use Rattle.wm_machine.specs.Input.{work_numbered}
use Rattle.wm_machine.specs.Valid.{IsBefore}
use Rattle.wm_machine.specs.declared.record.Record.{Record}
use Rattle.wm_steps.proofs.Lookups.{All-at}
use Rattle.wm_changes.specs.Replacements.{at_index, by_numbers, replacement_of, replacements}
use Rattle.wm_changes.specs.declared.change.Replacement.{Replacement}

-- nothing changes but records of these numbers
abbrev pub ChangesAmong : (Record → Option Record) → List ℕ → List Record → Type 0
ChangesAmong change numbers works = AllByRecursion (λ work. is_among numbers work.seq ≡ false → change work ≡ None) works

-- ---- the record of one number

replacement-missed : (change : Record → Option Record) (number i : ℕ) (works : List Record) → AllByRecursion (λ work. number < work.seq) works
    → replacement_of change i works number ≡ None
replacement-missed change number i [] above = refl
replacement-missed change number i (work ∷ works) above =
    let miss = ne_eqb work.seq number (λ e. absurd (omega (arith, above.0))) in
    rw miss (replacement-missed change number (i + 1) works above.1)

-- the one that the change gives for the record that is found at an index
pub replacement-at : (change : Record → Option Record) (i : ℕ) (works : List Record) (index : ℕ) (work : Record) → WorksAscend works
    → slice_get works index ≡ Some work
    → replacement_of change i works work.seq ≡ option_map (λ (new : Record). record { index = i + index; work = new }) (change work)
replacement-at change i [] index work ascend is = absurd (none-some work is)
replacement-at change i (first ∷ works) zero work ascend is =
    let same : first ≡ work = same_Some first work is in
    let here : i ≡ i + 0 = omega arith in
    rw (same, eq-eqb work.seq work.seq refl)
    (ap (λ (n : ℕ). option_map (λ (new : Record). record { index = n; work = new }) (change work)) here)
replacement-at change i (first ∷ works) (suc index) work ascend is =
    let above = All-at (λ later. first.seq < later.seq) works index work ascend.0 is in
    let other = ne_eqb first.seq work.seq (λ e. absurd (omega arith)) in
    let behind : i + 1 + index ≡ i + suc index = omega arith in
    rw other (replacement-at change (i + 1) works index work ascend.1 is
    ∙ ap (λ (n : ℕ). option_map (λ (new : Record). record { index = n; work = new }) (change work)) behind)

-- that of the one that is found at an index by its number
pub replacement-found : (change : Record → Option Record) (number : ℕ) (works : List Record) (index : ℕ) (work : Record) → AllLater IsBefore works
    → work_numbered number works ≡ slice_get works index → slice_get works index ≡ Some work
    → replacement_of change 0 works number ≡ option_map (λ (new : Record). record { index = index; work = new }) (change work)
replacement-found change number works index work in_order found at =
    let hit = find-passes (λ (one : Record). eqb one.seq number) works work (found ∙ at) in
    let here : 0 + index ≡ index = omega arith in
    ap (replacement_of change 0 works) (sym (eqb-true work.seq number hit))
    ∙ replacement-at change 0 works index work (WorksAscend-in_order works in_order) at
    ∙ ap (λ (n : ℕ). option_map (λ (new : Record). record { index = n; work = new }) (change work)) here

-- and none where none is found
pub replacement-none : (change : Record → Option Record) (number i : ℕ) (works : List Record) → work_numbered number works ≡ None
    → replacement_of change i works number ≡ None
replacement-none change number i [] none = refl
replacement-none change number i (work ∷ works) none = elim (cases_Bool (eqb work.seq number)) [
  | inl hit ↦ let found : Some work ≡ None = rw hit at none in absurd (none-some work (sym found))
  | inr miss ↦ rw miss (replacement-none change number (i + 1) works (rw miss at none))
]

-- ---- those of several

none-changed : (change : Record → Option Record) (i : ℕ) (works : List Record) → AllByRecursion (λ work. change work ≡ None) works
    → replacements change i works ≡ []
none-changed change i [] none = refl
none-changed change i (work ∷ works) none = rw (none.0) (none-changed change (i + 1) works none.1)

index-first : (i : ℕ) (found : Option Record) (later : List Replacement)
    → at_index i found later ≡ cons_option (option_map (λ (new : Record). record { index = i; work = new }) found) later
index-first i None later = refl
index-first i (Some new) later = refl

nothing-found : (change : Record → Option Record) (i : ℕ) (numbers : List ℕ) → filter_map (replacement_of change i []) numbers ≡ []
nothing-found change i [] = refl
nothing-found change i (number ∷ numbers) = nothing-found change i numbers

-- greater numbers are found behind a record
behind-first : (change : Record → Option Record) (i : ℕ) (work : Record) (works : List Record) (numbers : List ℕ)
    → AllByRecursion (λ number. work.seq < number) numbers
    → filter_map (replacement_of change i (work ∷ works)) numbers ≡ filter_map (replacement_of change (i + 1) works) numbers
behind-first change i work works numbers above =
    filter_map-same (replacement_of change i (work ∷ works)) (replacement_of change (i + 1) works) numbers
    (All-weaker numbers (λ number less. let miss = ne_eqb work.seq number (λ e. absurd (omega arith)) in rw miss refl) above)

-- and records above a number are none of that
among-behind : (change : Record → Option Record) (number : ℕ) (numbers : List ℕ) (works : List Record)
    → AllByRecursion (λ work. number < work.seq) works → ChangesAmong change (number ∷ numbers) works → ChangesAmong change numbers works
among-behind change number numbers works above changes =
    All-with2 works (λ work less is left. is (let miss = ne_eqb number work.seq (λ e. absurd (omega arith)) in rw miss left)) above changes

numbers-above : (least number : ℕ) (numbers : List ℕ) → least < number → AllByRecursion (λ later. number < later) numbers
    → AllByRecursion (λ later. least < later) (number ∷ numbers)
numbers-above least number numbers less above = (less, All-weaker numbers (λ later more. omega arith) above)

pub not-among : (least : ℕ) (numbers : List ℕ) → AllByRecursion (λ later. least < later) numbers → is_among numbers least ≡ false
not-among least [] above = refl
not-among least (number ∷ numbers) above =
    let miss = ne_eqb number least (λ e. absurd (omega (arith, above.0))) in
    rw miss (not-among least numbers above.1)

by_numbers-first : (change : Record → Option Record) (i : ℕ) (work : Record) (works : List Record)
    → ((numbers : List ℕ) → NumbersAscend numbers → ChangesAmong change numbers works
    → replacements change (i + 1) works ≡ filter_map (replacement_of change (i + 1) works) numbers)
    → (numbers : List ℕ) → WorksAscend (work ∷ works) → NumbersAscend numbers → ChangesAmong change numbers (work ∷ works)
    → replacements change i (work ∷ works) ≡ filter_map (replacement_of change i (work ∷ works)) numbers
by_numbers-first change i work works rest [] ascend order changes =
    none-changed change i (work ∷ works) (All-weaker (work ∷ works) (λ w is. is refl) changes)
by_numbers-first change i work works rest (number ∷ numbers) ascend order changes = elim (cases_order number work.seq) [
  | inl same ↦
      let hit = eq-eqb work.seq number (sym same) in
      let above : AllByRecursion (λ (w : Record). number < w.seq) works = rw same ascend.0 in
      let larger : AllByRecursion (λ (n : ℕ). work.seq < n) numbers = subst (λ (n : ℕ). AllByRecursion (λ (later : ℕ). n < later) numbers) same order.0 in
      rw hit (index-first i (change work) (replacements change (i + 1) works)
      ∙ ap (cons_option (option_map (λ (new : Record). record { index = i; work = new }) (change work)))
      (rest numbers order.1 (among-behind change number numbers works above changes.1)
      ∙ sym (behind-first change i work works numbers larger)))
  | inr (inl less) ↦
      let above : AllByRecursion (λ (w : Record). number < w.seq) (work ∷ works) = (less, All-weaker works (λ w more. omega arith) ascend.0) in
      let missed = replacement-missed change number i (work ∷ works) above in
      rw missed (by_numbers-first change i work works rest numbers ascend order.1 (among-behind change number numbers (work ∷ works) above changes))
  | inr (inr more) ↦
      let larger = numbers-above work.seq number numbers more order.0 in
      let stays = changes.0 (not-among work.seq (number ∷ numbers) larger) in
      ap (λ (found : Option Record). at_index i found (replacements change (i + 1) works)) stays
      ∙ (rest (number ∷ numbers) order changes.1 ∙ sym (behind-first change i work works (number ∷ numbers) larger))
]

by_numbers-from : (change : Record → Option Record) (i : ℕ) (works : List Record) (numbers : List ℕ) → WorksAscend works → NumbersAscend numbers
    → ChangesAmong change numbers works → replacements change i works ≡ filter_map (replacement_of change i works) numbers
by_numbers-from change i [] numbers ascend order changes = sym (nothing-found change i numbers)
by_numbers-from change i (work ∷ works) numbers ascend order changes =
    by_numbers-first change i work works (λ rest. by_numbers-from change (i + 1) works rest ascend.1) numbers ascend order changes

-- where nothing changes but records of these numbers, which ascend, the replacements are those for the records of these numbers
pub replacements-numbered : (change : Record → Option Record) (numbers : List ℕ) (works : List Record) → WorksAscend works → NumbersAscend numbers
    → ChangesAmong change numbers works → replacements change 0 works ≡ by_numbers change numbers works
replacements-numbered change numbers works ascend order changes = by_numbers-from change 0 works numbers ascend order changes
