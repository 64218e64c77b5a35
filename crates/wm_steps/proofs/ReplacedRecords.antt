-- Records that take the place of others keep the numbers, those that are removed leave the others, and those that are placed have greater numbers.
use Rattle.std.proofs.Common.{◌≡◌, ℕ, zero, suc, ◌+◌, ◌<◌, ◌≤◌, pos, List, [], ◌∷◌, length, map, set, slice_get, Some, refl, sym, ◌∙◌, ap, subst, arith}
use Rattle.std.specs.List.{AllByRecursion}
use Rattle.std.proofs.lemmas.Bool.{ne_eqb}
use Rattle.std.proofs.lemmas.Int.{ints}
use Rattle.std.proofs.lemmas.List.{length-map}
use Rattle.std.proofs.lemmas.Option.{none-some, same_Some, slice_get_within}
use Rattle.wm_collections.proofs.Lists.{All-weaker}
use Rattle.wm_keeper.specs.declared.row.Row.{Row}
use Rattle.wm_machine.proofs.Runnings.{WorksAscend}
use Rattle.wm_machine.specs.Rows.{row_of}
use Rattle.wm_machine.specs.declared.record.Record.{Record}
use Rattle.wm_changes.specs.StepChanges.{other_works, seqs_of, with_replaced, HaveNextNumbers, KeepsPlace, KeepsRow}
use Rattle.wm_changes.specs.declared.change.Replacement.{Replacement}

-- ---- a record that takes the place of one of its number

abbrev pub KeepsNumber : List Record → Replacement → Type 0
KeepsNumber works replaced = slice_get (seqs_of works) replaced.index ≡ Some replaced.work.seq

number-of_place : (works : List Record) (i : ℕ) (new : Record) → KeepsPlace works (record { index = i; work = new })
    → slice_get (seqs_of works) i ≡ Some new.seq
number-of_place [] i new keeps = absurd keeps
number-of_place (work ∷ works) zero new keeps = ap (λ (n : ℕ). Some n) (sym keeps.seq)
number-of_place (work ∷ works) (suc i) new keeps = number-of_place works i new keeps

-- one that keeps a node has its number
pub keeps_number : (works : List Record) (replaced : Replacement) → KeepsPlace works replaced → KeepsNumber works replaced
keeps_number works replaced keeps = number-of_place works replaced.index replaced.work keeps

-- what holds of each number holds of the one at an index
pub All-seq : (P : ℕ → Type 0) (works : List Record) (i number : ℕ) → AllByRecursion (λ work. P work.seq) works → slice_get (seqs_of works) i ≡ Some number
    → P number
All-seq P [] i number all is = absurd (none-some number is)
All-seq P (work ∷ works) zero number all is = subst P (same_Some work.seq number is) all.0
All-seq P (work ∷ works) (suc i) number all is = All-seq P works i number all.1 is

pub seqs-set : (works : List Record) (i : ℕ) (new : Record) → slice_get (seqs_of works) i ≡ Some new.seq → seqs_of (set works i new) ≡ seqs_of works
seqs-set [] i new is = refl
seqs-set (work ∷ works) zero new is = ap (λ number. number ∷ seqs_of works) (sym (same_Some work.seq new.seq is))
seqs-set (work ∷ works) (suc i) new is = ap (λ rest. work.seq ∷ rest) (seqs-set works i new is)

pub All-set : (P : ℕ → Type 0) (works : List Record) (i : ℕ) (new : Record) → slice_get (seqs_of works) i ≡ Some new.seq
    → AllByRecursion (λ work. P work.seq) works → AllByRecursion (λ work. P work.seq) (set works i new)
All-set P [] i new is all = tt
All-set P (work ∷ works) zero new is all = (subst P (same_Some work.seq new.seq is) all.0, all.1)
All-set P (work ∷ works) (suc i) new is all = (all.0, All-set P works i new is all.1)

pub WorksAscend-set : (works : List Record) (i : ℕ) (new : Record) → slice_get (seqs_of works) i ≡ Some new.seq → WorksAscend works
    → WorksAscend (set works i new)
WorksAscend-set [] i new is ascend = tt
WorksAscend-set (work ∷ works) zero new is ascend =
    (subst (λ number. AllByRecursion (λ later. number < later.seq) works) (same_Some work.seq new.seq is) ascend.0, ascend.1)
WorksAscend-set (work ∷ works) (suc i) new is ascend = (All-set (λ number. work.seq < number) works i new is ascend.0, WorksAscend-set works i new is ascend.1)

-- the others keep their numbers
pub still_keep : (works : List Record) (replaced : Replacement) (later : List Replacement) → AllByRecursion (KeepsNumber works) (replaced ∷ later)
    → AllByRecursion (KeepsNumber (set works replaced.index replaced.work)) later
still_keep works replaced later keep =
    subst (λ numbers. AllByRecursion (λ r. slice_get numbers r.index ≡ Some r.work.seq) later) (sym (seqs-set works replaced.index replaced.work keep.0)) keep.1

-- records that take the place of others leave the numbers as they are, and so ascending
pub seqs-replaced : (replaced : List Replacement) (works : List Record) → AllByRecursion (KeepsNumber works) replaced
    → seqs_of (with_replaced replaced works) ≡ seqs_of works
seqs-replaced [] works keep = refl
seqs-replaced (replaced ∷ later) works keep =
    seqs-replaced later (set works replaced.index replaced.work) (still_keep works replaced later keep)
    ∙ seqs-set works replaced.index replaced.work keep.0

pub WorksAscend-replaced : (replaced : List Replacement) (works : List Record) → AllByRecursion (KeepsNumber works) replaced → WorksAscend works
    → WorksAscend (with_replaced replaced works)
WorksAscend-replaced [] works keep ascend = ascend
WorksAscend-replaced (replaced ∷ later) works keep ascend =
    WorksAscend-replaced later (set works replaced.index replaced.work) (still_keep works replaced later keep)
    (WorksAscend-set works replaced.index replaced.work keep.0 ascend)

-- ---- a record that takes the place of one of its row

-- a record of the same row has the same number
pub number-kept : (works : List Record) (i : ℕ) (new : Record) → slice_get (map row_of works) i ≡ Some (row_of new) → slice_get (seqs_of works) i ≡ Some new.seq
number-kept [] i new is = absurd (none-some (row_of new) is)
number-kept (work ∷ works) zero new is =
    let row : row_of work ≡ row_of new = same_Some (row_of work) (row_of new) is in
    let number : pos work.seq ≡ pos new.seq = ap (λ (r : Row). r.seq) row in
    let same : work.seq ≡ new.seq = omega (arith, ints) in
    ap (λ (n : ℕ). Some n) same
number-kept (work ∷ works) (suc i) new is = number-kept works i new is

pub rows-set : (works : List Record) (i : ℕ) (new : Record) → slice_get (map row_of works) i ≡ Some (row_of new)
    → map row_of (set works i new) ≡ map row_of works
rows-set [] i new is = refl
rows-set (work ∷ works) zero new is = ap (λ (row : Row). row ∷ map row_of works) (sym (same_Some (row_of work) (row_of new) is))
rows-set (work ∷ works) (suc i) new is = ap (λ rest. row_of work ∷ rest) (rows-set works i new is)

-- records that tell something keep their numbers too
pub told_keep : (works : List Record) (told : List Replacement) → AllByRecursion (KeepsRow works) told → AllByRecursion (KeepsNumber works) told
told_keep works told keep = All-weaker told (λ r is. number-kept works r.index r.work is) keep

-- the records that are replaced are there
pub replaced_within : (works : List Record) (replaced : List Replacement) → AllByRecursion (KeepsPlace works) replaced
    → AllByRecursion (λ r. r.index < length works) replaced
replaced_within works replaced keep =
    All-weaker replaced (λ r is.
    omega (arith, slice_get_within (seqs_of works) r.index r.work.seq (keeps_number works r is), length-map works (λ (work : Record). work.seq))) keep

-- and so are those that tell something
pub told_within : (works : List Record) (told : List Replacement) → AllByRecursion (KeepsRow works) told → AllByRecursion (λ r. r.index < length works) told
told_within works told keep =
    All-weaker told (λ r is. omega (arith, slice_get_within (map row_of works) r.index (row_of r.work) is, length-map works row_of)) keep

-- ---- records that are removed, and those that are placed

-- records above a number stay
pub other_works-above : (number : ℕ) (works : List Record) → AllByRecursion (λ later. number < later.seq) works → other_works number works ≡ works
other_works-above number [] above = refl
other_works-above number (work ∷ works) above =
    let other = ne_eqb work.seq number (λ e. absurd (omega (arith, above.0))) in
    rw other (ap (λ rest. work ∷ rest) (other_works-above number works above.1))

-- new records have the next number, or a greater one
pub next-above : (next : ℕ) (placed : List Record) → HaveNextNumbers next placed → AllByRecursion (λ work. next ≤ work.seq) placed
next-above next [] numbered = tt
next-above next (work ∷ placed) numbered = (
  omega (arith, numbered.0),
  All-weaker placed (λ w is. omega arith) (next-above (next + 1) placed numbered.1),
)
