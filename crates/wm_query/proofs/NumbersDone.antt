-- Whether the record of a number has succeeded.
use Rattle.std.proofs.Common.{◌≡◌, ℕ, ◌<◌, Bool, true, false, ◌||◌, eqb, List, [], ◌∷◌, Option, Some, None, refl, sym, ◌∙◌, ap, subst, arith, inl, inr}
use Rattle.std.specs.List.{AllByRecursion}
use Rattle.std.proofs.lemmas.Bool.{cases_Bool, eqb-true, ne_eqb}
use Rattle.wm_collections.specs.Lists.{AllLater}
use Rattle.wm_machine.proofs.Runnings.{WorksAscend, WorksAscend-in_order}
use Rattle.wm_machine.specs.First.{has_succeeded, is_succeeded}
use Rattle.wm_machine.specs.Input.{work_numbered}
use Rattle.wm_machine.specs.Valid.{IsBefore}
use Rattle.wm_machine.specs.declared.record.Record.{Record}

abbrev pub has_done : Option Record → Bool
has_done None = false
has_done (Some work) = is_succeeded work.phase

none-later : (number : ℕ) (works : List Record) → AllByRecursion (λ later. number < later.seq) works → has_succeeded works number ≡ false
none-later number [] later = refl
none-later number (work ∷ works) later =
    let more = later.0 in
    let miss = ne_eqb work.seq number (λ e. absurd (omega arith)) in
    rw miss (none-later number works later.1)

or-last : (a : Bool) → (a || false) ≡ a
or-last true = refl
or-last false = refl

-- a number has succeeded where its record has
pub has_succeeded-numbered : (number : ℕ) (works : List Record) → WorksAscend works → has_done (work_numbered number works) ≡ has_succeeded works number
has_succeeded-numbered number [] ascend = refl
has_succeeded-numbered number (work ∷ works) ascend = elim (cases_Bool (eqb work.seq number)) [
  | inl e ↦
      let same = eqb-true work.seq number e in
      let none = none-later number works (subst (λ n. AllByRecursion (λ later. n < later.seq) works) same ascend.0) in
      rw (e, none) (sym (or-last (is_succeeded work.phase)))
  | inr e ↦ rw e (has_succeeded-numbered number works ascend.1)
]

-- and so by what was found for it
pub succeeded-found : (number : ℕ) (works : List Record) (found : Option Record) → AllLater IsBefore works → found ≡ work_numbered number works
    → has_done found ≡ has_succeeded works number
succeeded-found number works found order is = ap has_done is ∙ has_succeeded-numbered number works (WorksAscend-in_order works order)
