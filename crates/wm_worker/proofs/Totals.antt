-- The numbers that stock workers give are in their types.
use Rattle.std.proofs.Common.{◌≡◌, ℕ, ℤ, pos, negsuc, ◌+◌, ◌*◌, ◌≤◌, ◌+ℤ◌, nat_abs, true, List, [], ◌∷◌, length, codes, map, fold, Option, Some, None, IfSome, unwrap_or, FitsSigned, true≢false, sym, arith}
use Rattle.std.specs.Prelude.{find, int_lt}
use Rattle.std.proofs.lemmas.Bool.{cond_both, ltb-true}
use Rattle.std.proofs.lemmas.Int.{fits_signed_from_abs, ints}
use Rattle.std.proofs.lemmas.List.Sums.{sum_by-cons}
use Rattle.std.specs.Int.{w32, w64}
use Rattle.std.specs.List.{AllByRecursion, sum_by}
use Rattle.wm_collections.proofs.Options.{found, map_of, then_of}
use Rattle.wm_data.specs.Entries.{is_at, value_at}
use Rattle.wm_data.specs.InType.{AreInType, IsInType}
use Rattle.wm_data.specs.Size.{entry_size, payload, size_of}
use Rattle.wm_data.specs.declared.data.DataEntry.{DataEntry}
use Rattle.wm_data.specs.declared.value.Value.{Value}
use Rattle.wm_data.specs.declared.value.Value.TheVariants as value
use Rattle.wm_worker.specs.Answers.{int_of, number_of, sum_of, summand, turns_of}

-- ---- an Int of the input

number_in_type : (v : Value) → IsInType v → IfSome (number_of v) (FitsSigned w32)
number_in_type (value.Int n) is = is
number_in_type _ is = tt

int_in_type : (input : List DataEntry) (key : List ℕ) → AreInType input → IfSome (int_of input key) (FitsSigned w32)
int_in_type input key are =
    let there = found (λ (entry : DataEntry). IsInType entry.value) (is_at key) input are in
    let is = map_of (λ (entry : DataEntry). IsInType entry.value) IsInType _ (find (is_at key) input) there (λ entry is. is) in
    then_of IsInType (FitsSigned w32) number_of (value_at key input) is number_in_type

one_or : (o : Option ℤ) → IfSome o (FitsSigned w32) → FitsSigned w32 (unwrap_or o (pos 1))
one_or None is = record { sfits = omega arith }
one_or (Some n) is = is

-- how many turns there are to count
pub turns_in_type : (input : List DataEntry) → AreInType input → FitsSigned w32 (turns_of input)
turns_in_type input are =
    let turns = unwrap_or (int_of input (codes "turns")) (pos 1) in
    cond_both (int_lt turns (pos 1)) (pos 1) turns (FitsSigned w32) (λ e. record { sfits = omega arith }) (λ e. one_or _ (int_in_type input _ are))

-- a number below one that is in its type
pub below_in_type : (k : ℕ) (n : ℤ) → int_lt (pos k) n ≡ true → FitsSigned w32 n → FitsSigned w32 (pos k)
below_in_type k (pos m) less is = record { sfits = omega (arith, ltb-true k m less, is.sfits) }
below_in_type k (negsuc m) less is = absurd (true≢false (sym less))

-- ---- the sum

-- a total that begins with a number
total-bound : (first : ℤ) (ns : List ℤ) → AllByRecursion (FitsSigned w32) ns → nat_abs (fold ◌+ℤ◌ first ns) ≤ nat_abs first + 2147483648 * length ns
total-bound first [] are = omega arith
total-bound first (n ∷ ns) are = omega (arith, ints, are.0.sfits, total-bound (first +ℤ n) ns are.1)

summand-bound : (v : Value) → IsInType v → nat_abs (summand v) ≤ 2147483648 * payload v
summand-bound (value.Int n) is = omega (arith, ints, is.sfits)
summand-bound (value.Ints ns) is = omega (arith, total-bound (pos 0) ns is)
summand-bound _ is = omega arith

sum-bound : (first : ℤ) (input : List DataEntry) → AreInType input
    → nat_abs (fold ◌+ℤ◌ first (map (λ entry. summand entry.value) input)) ≤ nat_abs first + 2147483648 * sum_by entry_size input
sum-bound first [] are = omega arith
sum-bound first (entry ∷ input) are =
    rw (sum_by-cons entry_size entry input)
    (omega (arith, ints, summand-bound entry.value are.0, sum-bound (first +ℤ summand entry.value) input are.1))

-- Data is so small that its sum is a Long's number
pub sum_in_type : (input : List DataEntry) → size_of input ≤ 10240 → AreInType input → FitsSigned w64 (sum_of input)
sum_in_type input small are = fits_signed_from_abs w64 (sum_of input) (omega (arith, small, sum-bound (pos 0) input are))
