-- One record or run of a list, found by its number and changed at its index.
use Rattle.std.proofs.Common.{◌≡◌, ℕ, zero, suc, ◌<◌, Bool, true, false, cond, eqb, ltb, List, [], ◌∷◌, length, find, set, slice_get, Option, Some, None, MatchOption, Bor, refl, sym, ◌∙◌, ap, subst, arith}
use Rattle.std.specs.Prelude.{IfSome, IsSomeAnd}
use Rattle.std.specs.List.{AllByRecursion, position, position_or_len}
use Rattle.std.specs.Option.{option_copied}
use Rattle.std.proofs.lemmas.Bool.{eq-eqb, eqb-true, ltb-true, ltb-false, ne_eqb}
use Rattle.std.proofs.lemmas.List.Folds.{find_at}
use Rattle.std.proofs.lemmas.Option.{cond_some, none-some, same_Some, slice_get_past}
use Rattle.wm_collections.proofs.Lists.{All-stored, find-passes}
use Rattle.wm_collections.proofs.Lists as lists
use Rattle.wm_machine.proofs.Runnings.{WorksAscend}
use Rattle.wm_machine.specs.Input.{work_numbered}
use Rattle.wm_machine.specs.Runs.{changed_work}
use Rattle.wm_collections.specs.Lists.{HasOne}
use Rattle.wm_machine.specs.declared.record.Record.{Record}

-- ---- what stands at an index

-- what holds of each holds of the one at an index
pub All-at : {T : Type 0} (P : T → Type 0) (xs : List T) (i : ℕ) (x : T) → AllByRecursion P xs → slice_get xs i ≡ Some x → P x
All-at P [] i x all is = absurd (none-some x is)
All-at P (y ∷ xs) zero x all is = subst P (same_Some y x is) all.0
All-at P (y ∷ xs) (suc i) x all is = All-at P xs i x all.1 is

-- what is said of the one at an index holds of it
pub at-some : {T : Type 0} (P : T → Type 0) (xs : List T) (i : ℕ) (x : T) → slice_get xs i ≡ Some x → IsSomeAnd (slice_get xs i) P → P x
at-some {T} P xs i x at some = subst (λ (o : Option T). IsSomeAnd o P) at some

-- the one at an index is one of the list
pub stored-at : {T : Type 0} (xs : List T) (i : ℕ) (x : T) → slice_get xs i ≡ Some x → HasOne (λ y. y ≡ x) xs
stored-at xs i x at = All-at (λ z. HasOne (λ y. y ≡ z) xs) xs i x (All-stored xs) at

-- the record that is found by a number is the one of its own
pub found-there : (number : ℕ) (works : List Record) (found : Option (Bor Record)) → option_copied found ≡ work_numbered number works
    → IfSome found (λ work. work_numbered work.now.seq works ≡ Some work.now)
found-there number works None is = tt
found-there number works (Some work) is =
    let same : work.now.seq ≡ number = eqb-true work.now.seq number (find-passes (λ (w : Record). eqb w.seq number) works work.now (sym is)) in
    ap (λ n. work_numbered n works) same ∙ sym is

-- where a search gives none, none is found
find-none : {T : Type 0} (test : T → Bool) (xs : List T) → position test xs ≡ None → find test xs ≡ None
find-none test xs none =
    let n = position_or_len test xs in
    find_at test xs ∙ (elim (ltb n (length xs)) as (λ b. ltb n (length xs) ≡ b → cond b (Some n) None ≡ None → slice_get xs n ≡ None) [
      | true ↦ λ e is. absurd (none-some n (sym is))
      | false ↦ λ e is. slice_get_past xs n (ltb-false n (length xs) e)
    ]) refl none

-- the first place at which a test passes, or the length
pub found-place : {T : Type 0} (test : T → Bool) (xs : List T) (place : ℕ) → Some place ≡ position test xs → place ≡ position_or_len test xs
found-place test xs place is = sym (cond_some (ltb (position_or_len test xs) (length xs)) (position_or_len test xs) place (sym is)).1

past-all : {T : Type 0} (test : T → Bool) (xs : List T) → AllByRecursion (λ x. test x ≡ false) xs → length xs ≡ position_or_len test xs
past-all test [] fails = refl
past-all test (x ∷ xs) fails = let rest = past-all test xs fails.1 in rw (fails.0) (omega (arith, rest))

pub no-place : {T : Type 0} (test : T → Bool) (xs : List T) → None ≡ position test xs → length xs ≡ position_or_len test xs
no-place test xs none = past-all test xs (lists.find-none test xs (find-none test xs (sym none)))

-- what a search by a test gives
pub searched : {T : Type 0} (test : T → Bool) (xs : List T) (found : Option ℕ) → found ≡ position test xs
    → MatchOption found (find test xs ≡ None) (λ i. (i < length xs) × (find test xs ≡ slice_get xs i))
searched test xs None is = find-none test xs (sym is)
searched test xs (Some i) is =
    let there = cond_some (ltb (position_or_len test xs) (length xs)) (position_or_len test xs) i (sym is) in
    (subst (λ n. n < length xs) there.1 (ltb-true _ _ there.0), find_at test xs ∙ ap (slice_get xs) there.1)

-- ---- records

-- the records after this one have other numbers
changed_work-later : (change : Record → Record) (seq : ℕ) (works : List Record) → AllByRecursion (λ later. seq < later.seq) works
    → changed_work change seq works ≡ works
changed_work-later change seq [] above = refl
changed_work-later change seq (work ∷ works) above =
    let other = ne_eqb work.seq seq (λ e. absurd (omega (arith, above.0))) in
    rw other (ap (λ rest. work ∷ rest) (changed_work-later change seq works above.1))

-- the record of a number is changed at its index
pub changed_work-at : (change : Record → Record) (works : List Record) (i : ℕ) (work : Record) → WorksAscend works → slice_get works i ≡ Some work
    → changed_work change work.seq works ≡ set works i (change work)
changed_work-at change [] i work ascend is = absurd (none-some work is)
changed_work-at change (first ∷ works) zero work ascend is =
    let same : first ≡ work = same_Some first work is in
    let hit = eq-eqb work.seq work.seq refl in
    rw (same, hit) (ap (λ rest. change work ∷ rest)
    (changed_work-later change work.seq works (subst (λ (w : Record). AllByRecursion (λ later. w.seq < later.seq) works) same ascend.0)))
changed_work-at change (first ∷ works) (suc i) work ascend is =
    let above = All-at (λ later. first.seq < later.seq) works i work ascend.0 is in
    let other = ne_eqb first.seq work.seq (λ e. absurd (omega arith)) in
    rw other (ap (λ rest. first ∷ rest) (changed_work-at change works i work ascend.1 is))
