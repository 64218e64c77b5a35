-- Tests of numbers, two tests together, and counts of them.
use Rattle.std.proofs.Common.{◌≡◌, ◌≢◌, ℕ, ◌==◌, ◌&&◌, Bool, true, false, not, List, [], ◌∷◌, refl, sym, arith, if◌then◌else◌}
use Rattle.std.proofs.lemmas.Bool.{ne_eqb}
use Rattle.std.proofs.lemmas.Bool.Decides.{nat_tests}
use Rattle.std.specs.List.{AllByRecursion, list_any}
use Rattle.std.specs.Ordering.{is_eq, nat_cmp}
use Rattle.wm_collections.specs.Lists.{is_among}

pub eq-swap : (a b : ℕ) → (a == b) ≡ (b == a)
eq-swap a b = grind (arith, nat_tests)

-- a search by a number finds where it is equal
pub same-test : (number key : ℕ) → is_eq (nat_cmp number key) ≡ (key == number)
same-test number key = grind (arith, nat_tests)

pub both-not : (b m : Bool) → b ≡ true → (m && not b) ≡ false
both-not true true is = refl
both-not true false is = refl
both-not false m is = absurd cc

pub both-is : (b m : Bool) → b ≡ false → (m && not b) ≡ m
both-is false true is = refl
both-is false false is = refl
both-is true m is = absurd cc

-- a second test is asked only where the first passes
pub under : (a b c : Bool) → (a ≡ true → b ≡ c) → (a && b) ≡ (a && c)
under true b c same = same refl
under false b c same = refl

pub any-and : {T : Type 0} (test : T → Bool) (c : Bool) (xs : List T) → list_any (λ x. test x && c) xs ≡ (list_any test xs && c)
any-and test c [] = refl
any-and test c (x ∷ xs) = let rest = any-and test c xs in grind (arith, rest)

pub among-none : (number : ℕ) (numbers : List ℕ) → AllByRecursion (λ n. number ≢ n) numbers → is_among numbers number ≡ false
among-none number [] others = refl
among-none number (n ∷ numbers) others =
    let apart : (n == number) ≡ false = ne_eqb n number (λ e. others.0 (sym e)) in rw apart (among-none number numbers others.1)

-- a test as the number that it counts for
abbrev pub one_if : Bool → ℕ
one_if b = if b then 1 else 0
