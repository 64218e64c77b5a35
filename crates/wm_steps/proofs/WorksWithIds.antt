-- The work of an id is that of the number found by the id, among works of different ids in ascending number.
use Rattle.std.proofs.Common.{◌≡◌, ℕ, ◌<◌, List, [], ◌∷◌, slice_get, length, Option, Some, None, option_map, refl, sym, ◌∙◌, ap, subst, arith, inl, inr, MatchOption}
use Rattle.std.specs.List.{AllByRecursion}
use Rattle.std.specs.Str.{bytes_eq}
use Rattle.std.proofs.lemmas.Bool.{cases_Bool, eq-eqb, ne_eqb}
use Rattle.wm_collections.specs.Lists.{AllLater}
use Rattle.wm_collections.proofs.Lists.{All-find, All-weaker}
use Rattle.wm_machine.specs.Cancelled.{work_with_id}
use Rattle.wm_machine.specs.Input.{work_numbered}
use Rattle.wm_machine.specs.Valid.{IsBefore}
use Rattle.wm_machine.specs.declared.record.Record.{Record}
use Rattle.wm_steps.proofs.IdNumbers.{number_with_id}

numbered-later : (work later : Record) (works : List Record) → work.seq < later.seq → work_numbered later.seq (work ∷ works) ≡ work_numbered later.seq works
numbered-later work later works below = let miss = ne_eqb work.seq later.seq (λ e. absurd (omega (arith, below, e))) in rw miss refl

-- what is found by an id has a number above that of each before
found-above : (number : ℕ) (works : List Record) (id : List ℕ) (later : Record) → AllByRecursion (λ (w : Record). number < w.seq) works
    → work_with_id works id ≡ Some later → number < later.seq
found-above number works id later above found = All-find (λ (w : Record). number < w.seq) (λ (w : Record). bytes_eq w.request.id id) works later found above

numbered-found : (works : List Record) (id : List ℕ) (found : Record) → AllLater IsBefore works → work_with_id works id ≡ Some found
    → work_numbered found.seq works ≡ Some found
numbered-found [] id found order is = absurd cc
numbered-found (work ∷ works) id found order is =
    elim (cases_Bool (bytes_eq work.request.id id)) as (λ _. work_numbered found.seq (work ∷ works) ≡ Some found) [
      | inl here ↦
          (let itself : work ≡ found = same_found (rw here at is) in
          subst (λ (w : Record). work_numbered w.seq (work ∷ works) ≡ Some w) itself (rw (eq-eqb work.seq work.seq refl) refl))
      | inr other ↦
          (let later : work_with_id works id ≡ Some found = rw other at is in
          numbered-later work found works (found-above work.seq works id found (All-weaker works (λ w is. is.number) order.0) later)
          ∙ numbered-found works id found order.1 later)
    ] where
      same_found : Some work ≡ Some found → work ≡ found
      same_found e = cc

pub numbered-with_id : (works : List Record) (id : List ℕ) (number : ℕ) (found : Option Record) → AllLater IsBefore works → work_with_id works id ≡ found
    → Some number ≡ option_map (λ (work : Record). work.seq) found → work_numbered number works ≡ found
numbered-with_id works id number None order is has = absurd cc
numbered-with_id works id number (Some work) order is has =
    let same : number ≡ work.seq = cc in
    ap (λ n. work_numbered n works) same ∙ numbered-found works id work order is

-- the index of the work of the number is that of the work of the id
pub index-found : (works : List Record) (id : List ℕ) (number : ℕ) (index : Option ℕ) → AllLater IsBefore works → Some number ≡ number_with_id works id
    → MatchOption index (work_numbered number works ≡ None) (λ i. (i < length works) × (work_numbered number works ≡ slice_get works i))
    → MatchOption index (work_with_id works id ≡ None) (λ i. (i < length works) × (work_with_id works id ≡ slice_get works i))
index-found works id number index order has found =
    subst (λ (of : Option Record). MatchOption index (of ≡ None) (λ i. (i < length works) × (of ≡ slice_get works i)))
    (numbered-with_id works id number (work_with_id works id) order refl has) found
