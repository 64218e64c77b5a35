-- Whether any element of a list passes a test that is made of others.
use Rattle.std.proofs.Common.{◌≡◌, ◌&&◌, ◌||◌, ℕ, Bool, true, false, eqb, List, [], ◌∷◌, filter, refl, sym, ◌∙◌, ap, inl, inr}
use Rattle.std.specs.List.{list_any}
use Rattle.std.proofs.lemmas.Bool.{and_right, cases_Bool, eq-eqb, eqb-false, eqb-true, ne_eqb}
use Rattle.wm_collections.specs.Lists.{is_among}
use Rattle.wm_collections.proofs.Lists.{All-any, list_any-agree, list_any-kept}

or-swap : (a b c d : Bool) → ((a || b) || (c || d)) ≡ ((a || c) || (b || d))
or-swap true b c d = refl
or-swap false true true d = refl
or-swap false true false d = refl
or-swap false false true d = refl
or-swap false false false d = refl

and-out : (a b c : Bool) → ((a && b) || (a && c)) ≡ (a && (b || c))
and-out true b c = refl
and-out false b c = refl

-- one of two tests
pub any-or : {T : Type 0} (test other : T → Bool) (xs : List T) → list_any (λ x. test x || other x) xs ≡ (list_any test xs || list_any other xs)
any-or test other [] = refl
any-or test other (x ∷ xs) = ap (λ b. (test x || other x) || b) (any-or test other xs) ∙ or-swap (test x) (other x) (list_any test xs) (list_any other xs)

-- a test beside one that is the same for all
pub any-under : {T : Type 0} (test : T → Bool) (b : Bool) (xs : List T) → list_any (λ x. b && test x) xs ≡ (b && list_any test xs)
any-under test b [] = sym (and_right b false refl)
any-under test b (x ∷ xs) = ap (λ rest. (b && test x) || rest) (any-under test b xs) ∙ and-out b (test x) (list_any test xs)

pub none-any : {T : Type 0} (xs : List T) → list_any (λ x. false) xs ≡ false
none-any [] = refl
none-any (x ∷ xs) = none-any xs

-- a test of two elements, either way round
pub any-swap : {T U : Type 0} (test : T → U → Bool) (xs : List T) (ys : List U)
    → list_any (λ x. list_any (test x) ys) xs ≡ list_any (λ y. list_any (λ x. test x y) xs) ys
any-swap test [] ys = sym (none-any ys)
any-swap test (x ∷ xs) ys = ap (λ rest. list_any (test x) ys || rest) (any-swap test xs ys) ∙ sym (any-or (test x) (λ y. list_any (λ x. test x y) xs) ys)

only-kept : (keep : ℕ → Bool) (one number : ℕ) → keep number ≡ true → (eqb one number && keep one) ≡ eqb one number
only-kept keep one number kept = elim (cases_Bool (eqb one number)) [
  | inl hit ↦ let there = ap keep (eqb-true one number hit) ∙ kept in rw (hit, there) refl
  | inr miss ↦ rw miss refl
]

-- a number that is kept is among those that are kept where it is among all
pub among-kept : (keep : ℕ → Bool) (numbers : List ℕ) (number : ℕ) → keep number ≡ true → is_among (filter keep numbers) number ≡ is_among numbers number
among-kept keep numbers number kept =
    list_any-kept (λ one. eqb one number) keep numbers
    ∙ list_any-agree (λ one. eqb one number && keep one) (λ one. eqb one number) numbers (All-any numbers (λ one. only-kept keep one number kept))
