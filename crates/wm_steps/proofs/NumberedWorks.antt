-- The works that are found by numbers, where both ascend, are those whose numbers are among them.
use Rattle.std.proofs.Common.{◌≡◌, ℕ, ◌<◌, Bool, eqb, List, [], ◌∷◌, filter, Option, None, refl, sym, ◌∙◌, ap, subst, arith, inl, inr}
use Rattle.std.specs.List.{cons_option, AllByRecursion}
use Rattle.std.proofs.lemmas.Bool.{cases_order, eq-eqb, ne_eqb}
use Rattle.wm_collections.proofs.Lists.{All-any, All-weaker, filter-none, filter-same, filter_map-same, find-fails}
use Rattle.wm_collections.specs.Lists.{is_among, NumbersAscend}
use Rattle.wm_machine.proofs.Runnings.{WorksAscend}
use Rattle.wm_machine.specs.Input.{work_numbered}
use Rattle.wm_machine.specs.declared.record.Record.{Record}
use Rattle.wm_steps.proofs.ByNumbers.{not-among}
use Rattle.wm_steps.specs.Numbers.{numbered}

-- whether a work's number is one of these
abbrev is_of : List ℕ → Record → Bool
is_of numbers work = is_among numbers work.seq

nothing-found : (numbers : List ℕ) → numbered [] numbers ≡ []
nothing-found [] = refl
nothing-found (number ∷ numbers) = nothing-found numbers

none-above : (number : ℕ) (works : List Record) → AllByRecursion (λ work. number < work.seq) works → work_numbered number works ≡ None
none-above number works above =
    find-fails (λ (work : Record). eqb work.seq number) works (All-weaker works (λ work more. ne_eqb work.seq number (λ e. absurd (omega arith))) above)

-- greater numbers are found behind a work
found-behind : (work : Record) (works : List Record) (numbers : List ℕ) → AllByRecursion (λ number. work.seq < number) numbers
    → numbered (work ∷ works) numbers ≡ numbered works numbers
found-behind work works numbers above =
    filter_map-same (λ number. work_numbered number (work ∷ works)) (λ number. work_numbered number works) numbers
    (All-weaker numbers (λ number less. let miss = ne_eqb work.seq number (λ e. absurd (omega arith)) in rw miss refl) above)

-- a number below all works is none of theirs
behind-number : (number : ℕ) (numbers : List ℕ) (works : List Record) → AllByRecursion (λ work. number < work.seq) works
    → filter (is_of numbers) works ≡ filter (is_of (number ∷ numbers)) works
behind-number number numbers works above =
    filter-same (is_of numbers) (is_of (number ∷ numbers)) works
    (All-weaker works (λ work less. let miss = ne_eqb number work.seq (λ e. absurd (omega arith)) in rw miss refl) above)

numbered-first : (work : Record) (works : List Record) → ((numbers : List ℕ) → NumbersAscend numbers → numbered works numbers ≡ filter (is_of numbers) works)
    → (numbers : List ℕ) → WorksAscend (work ∷ works) → NumbersAscend numbers → numbered (work ∷ works) numbers ≡ filter (is_of numbers) (work ∷ works)
numbered-first work works rest [] ascend order = sym (filter-none (is_of []) (work ∷ works) (All-any (work ∷ works) (λ w. refl)))
numbered-first work works rest (number ∷ numbers) ascend order = elim (cases_order number work.seq) [
  | inl same ↦
      let hit = eq-eqb work.seq number (sym same) in
      let here = eq-eqb number work.seq same in
      let above : AllByRecursion (λ (w : Record). number < w.seq) works = rw same ascend.0 in
      let larger : AllByRecursion (λ (n : ℕ). work.seq < n) numbers = subst (λ (n : ℕ). AllByRecursion (λ (later : ℕ). n < later) numbers) same order.0 in
      let later : numbered (work ∷ works) numbers ≡ filter (is_of (number ∷ numbers)) works =
      found-behind work works numbers larger ∙ rest numbers order.1 ∙ behind-number number numbers works above in
      rw (hit, here) (ap (λ (list : List Record). work ∷ list) later)
  | inr (inl less) ↦
      let above : AllByRecursion (λ (w : Record). number < w.seq) (work ∷ works) = (less, All-weaker works (λ w more. omega arith) ascend.0) in
      ap (λ (found : Option Record). cons_option found (numbered (work ∷ works) numbers)) (none-above number (work ∷ works) above)
      ∙ numbered-first work works rest numbers ascend order.1 ∙ behind-number number numbers (work ∷ works) above
  | inr (inr more) ↦
      let larger : AllByRecursion (λ (n : ℕ). work.seq < n) (number ∷ numbers) = (more, All-weaker numbers (λ later below. omega arith) order.0) in
      let miss = not-among work.seq (number ∷ numbers) larger in
      found-behind work works (number ∷ numbers) larger ∙ rest (number ∷ numbers) order ∙ sym (rw miss refl)
]

-- the works that are found by numbers are those of these numbers
pub numbered-are : (works : List Record) (numbers : List ℕ) → WorksAscend works → NumbersAscend numbers
    → numbered works numbers ≡ filter (λ work. is_among numbers work.seq) works
numbered-are [] numbers ascend order = nothing-found numbers
numbered-are (work ∷ works) numbers ascend order =
    numbered-first work works (λ rest. numbered-are works rest ascend.1) numbers ascend order

-- and so they are those that pass a test, where that is passed by just those of these numbers
pub numbered-passing : (test : Record → Bool) (works : List Record) (numbers : List ℕ) → WorksAscend works → NumbersAscend numbers
    → AllByRecursion (λ work. is_among numbers work.seq ≡ test work) works → numbered works numbers ≡ filter test works
numbered-passing test works numbers ascend order same =
    numbered-are works numbers ascend order ∙ filter-same (λ work. is_among numbers work.seq) test works same
