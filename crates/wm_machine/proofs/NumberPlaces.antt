-- The place of a number among records in ascending number.
use Rattle.std.proofs.Common.{◌≡◌, ℕ, zero, suc, ◌<◌, List, [], ◌∷◌, length, get_or, slice_get, Option, None, Result, Ok, Err, nat_cmp, refl, sym, arith}
use Rattle.std.specs.List.Sorted.{IsBinarySearchResult, IsSearchInRange}
use Rattle.std.proofs.lemmas.Bool.{eq-eqb, ne_eqb}
use Rattle.wm_collections.proofs.Places.{above-at, place-found, place-none}
use Rattle.wm_machine.proofs.Runnings.{WorksAscend}
use Rattle.wm_machine.specs.Input.{work_numbered}
use Rattle.wm_machine.specs.declared.record.Record.{Record}

-- it stands where a record has the number
numbered-at : (number : ℕ) (works : List Record) (i : ℕ) (d : Record) → WorksAscend works → i < length works → (get_or works i d).seq ≡ number
    → slice_get works i ≡ work_numbered number works
numbered-at number [] i d ascend within is = absurd (omega arith)
numbered-at number (work ∷ works) zero d ascend within is = let hit = eq-eqb work.seq number is in rw hit refl
numbered-at number (work ∷ works) (suc i) d ascend within is =
    let more = above-at (λ (w : Record). w.seq) work.seq works i d ascend.0 (omega arith) in
    let miss = ne_eqb work.seq number (λ e. absurd (omega arith)) in
    rw miss (numbered-at number works i d ascend.1 (omega arith) is)

-- none is found where none has the number
numbered-none : (number : ℕ) (works : List Record) → ((i : ℕ) (d : Record) → i < length works → (get_or works i d).seq ≡ number → ⊥)
    → work_numbered number works ≡ None
numbered-none number [] differ = refl
numbered-none number (work ∷ works) differ =
    let miss = ne_eqb work.seq number (λ e. absurd (differ 0 work (omega arith) e)) in
    rw miss (numbered-none number works (λ i d within is. differ (suc i) d (omega arith) is))

-- the record at the place that a search answers
abbrev pub record_at : List Record → Result ℕ ℕ → Option Record
record_at works (Ok i) = slice_get works i
record_at works (Err i) = None

-- a binary search by the numbers finds the record of a number
pub numbered-search : (number : ℕ) (works : List Record) (answer : Result ℕ ℕ) → WorksAscend works → IsSearchInRange answer (length works)
    → IsBinarySearchResult (λ work. nat_cmp work.seq number) works answer → record_at works answer ≡ work_numbered number works
numbered-search number [] (Ok i) ascend range is = absurd (omega arith)
numbered-search number (work ∷ works) (Ok i) ascend range is =
    numbered-at number (work ∷ works) i work ascend range (place-found (λ (w : Record). w.seq) number (work ∷ works) i work is)
numbered-search number works (Err i) ascend range is =
    sym (numbered-none number works (λ k d within same. place-none (λ (w : Record). w.seq) number works i k d ascend range is within same))
