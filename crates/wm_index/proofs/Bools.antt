-- Tests of numbers and texts, and two tests together.
use Rattle.std.proofs.Common.{◌≡◌, ℕ, ◌==◌, ◌&&◌, ◌||◌, Bool, true, false, not, List, [], ◌∷◌, refl, arith}
use Rattle.std.proofs.lemmas.Bool.Decides.{nat_tests}
use Rattle.std.proofs.lemmas.Slice.Eq.{bytes_eq-Decides}
use Rattle.std.specs.List.{list_any}
use Rattle.std.specs.Ordering.{is_eq, nat_cmp}
use Rattle.std.specs.Str.{bytes_eq}

-- a search by a number finds where it is equal
pub same-test : (number key : ℕ) → is_eq (nat_cmp number key) ≡ (key == number)
same-test number key = grind (arith, nat_tests)

pub at-test : (number key : ℕ) → is_eq (nat_cmp number key) ≡ (number == key)
at-test number key = grind (arith, nat_tests)

pub bytes-same : (one other : List ℕ) → bytes_eq one other ≡ true → one ≡ other
bytes-same one other same = (bytes_eq-Decides one other).0 same

pub bytes-refl : (text : List ℕ) → bytes_eq text text ≡ true
bytes-refl text = (bytes_eq-Decides text text).1 refl

pub or-comm : (a b : Bool) → (a || b) ≡ (b || a)
or-comm true true = refl
or-comm true false = refl
or-comm false true = refl
or-comm false false = refl

-- a test that is added to others under one condition
pub or-under : (old s a b : Bool) → ((old || (s && a)) || (s && b)) ≡ (old || (s && (a || b)))
or-under true s a b = refl
or-under false true a b = refl
or-under false false a b = refl

pub not-under : (old s a b : Bool) → ((old && not (s && a)) && not (s && b)) ≡ (old && not (s && (a || b)))
not-under true true true b = refl
not-under true true false b = refl
not-under true false a b = refl
not-under false s a b = refl

-- a second test is asked only where the first passes
pub under : (a b c : Bool) → (a ≡ true → b ≡ c) → (a && b) ≡ (a && c)
under true b c same = same refl
under false b c same = refl

pub and-not : (a : Bool) → (a && not a) ≡ false
and-not true = refl
and-not false = refl

pub any-and : {T : Type 0} (test : T → Bool) (c : Bool) (xs : List T) → list_any (λ x. test x && c) xs ≡ (list_any test xs && c)
any-and test c [] = refl
any-and test c (x ∷ xs) = let rest = any-and test c xs in grind (arith, rest)
