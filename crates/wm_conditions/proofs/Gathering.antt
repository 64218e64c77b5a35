-- How the bits of constraints are set, one place after another, and which of them are new.
use Rattle.std.proofs.Common.{◌≡◌, inl, inr, ℕ, ◌+◌, ◌-◌, ◌*◌, ◌%◌, ◌^◌, ◌<◌, ◌≤◌, ◌==◌, ◌&&◌, Bool, true, false, not, nat_lt, min, sym, ap, subst, ◌∙◌, arith, bit_and, bit_or}
use Rattle.std.specs.Int.{bit_at, bit_not}
use Rattle.std.proofs.lemmas.Bool.{cases_Bool, eqb-true, eqb-false}
use Rattle.std.proofs.lemmas.Bool.Decides.{nat_tests}
use Rattle.std.proofs.lemmas.Nat.Bits.{bit_at-lt, bit_at_and, bit_at_not, bit_at_set_other, bit_at_set_same}
use Rattle.wm_conditions.specs.Met.{met}
use Rattle.wm_conditions.specs.Signatures.{constraints_of, has_bit, signature, AreBitsOf, AreMet}
use Rattle.wm_conditions.specs.declared.conditions.Conditions.{Conditions}
use Rattle.wm_conditions.specs.declared.conditions.Constraints.{Constraints}
use Rattle.wm_conditions.proofs.Inverses.{signature-back, signature-low}
use mir.Syntax.{w128}

-- the bits of the numbers before one that pass a test are set, and no other
abbrev pub AreUpTo : (ℕ → Bool) → ℕ → ℕ → Type 0
AreUpTo test count bits = (place : ℕ) → has_bit bits place ≡ (nat_lt place count && test place)

-- of constraints by their number
abbrev pub meets : Conditions → ℕ → Bool
meets d number = met (constraints_of number) d

not_yet : (test : Bool) (n : ℕ) → (nat_lt n n && test) ≡ false
not_yet test n = grind (arith, nat_tests)

here : (test : Bool) (n : ℕ) → (nat_lt n (n + 1) && test) ≡ test
here test n = grind (arith, nat_tests)

elsewhere : (test : Bool) (n place : ℕ) → (place ≡ n → ⊥) → (nat_lt place n && test) ≡ (nat_lt place (n + 1) && test)
elsewhere test n place apart =
    let same : nat_lt place n ≡ nat_lt place (n + 1) = grind (arith, nat_tests) in
    ap (λ b. b && test) same

pub one-set : (test : ℕ → Bool) (n bits : ℕ) → n < 128 → AreUpTo test n bits → test n ≡ true → AreUpTo test (n + 1) (bit_or bits (1 * 2 ^ n % 2 ^ 128))
one-set test n bits within are passes place =
    elim (cases_Bool (place == n)) as (λ _. has_bit (bit_or bits (1 * 2 ^ n % 2 ^ 128)) place ≡ (nat_lt place (n + 1) && test place)) [
      | inl is ↦ subst (λ p. has_bit (bit_or bits (1 * 2 ^ n % 2 ^ 128)) p ≡ (nat_lt p (n + 1) && test p)) (sym (eqb-true place n is))
          (ap (λ bit. bit == 1) (bit_at_set_same w128 bits n within) ∙ sym (here (test n) n ∙ passes))
      | inr other ↦ ap (λ bit. bit == 1) (bit_at_set_other w128 bits n within place (eqb-false place n other)) ∙ are place
          ∙ elsewhere (test place) n place (eqb-false place n other)
    ]

pub none-set : (test : ℕ → Bool) (n bits : ℕ) → AreUpTo test n bits → test n ≡ false → AreUpTo test (n + 1) bits
none-set test n bits are fails place =
    elim (cases_Bool (place == n)) as (λ _. has_bit bits place ≡ (nat_lt place (n + 1) && test place)) [
      | inl is ↦ subst (λ p. has_bit bits p ≡ (nat_lt p (n + 1) && test p)) (sym (eqb-true place n is))
          (are n ∙ not_yet (test n) n ∙ sym (here (test n) n ∙ fails))
      | inr other ↦ are place ∙ elsewhere (test place) n place (eqb-false place n other)
    ]

inside : (test : Bool) (n : ℕ) → n ≤ 79 → (nat_lt n 80 && test) ≡ test
inside test n low = grind (arith, nat_tests)

outside : (test : Bool) (n : ℕ) → 80 ≤ n → (nat_lt n 80 && test) ≡ false
outside test n high = grind (arith, nat_tests)

pub all-set : (d : Conditions) (bits : ℕ) → AreUpTo (meets d) 80 bits → AreMet d bits
all-set d bits are = record {
  each = λ c. are (signature c) ∙ inside (meets d (signature c)) (signature c) (signature-low c) ∙ ap (λ c. met c d) (signature-back c);
  no_other = λ place high. are place ∙ outside (meets d place) place high;
}

-- of bits those that aren't among others
both : (a b : ℕ) → a < 2 → b < 2 → (min a (1 - b) == 1) ≡ ((a == 1) && not (b == 1))
both a b a_low b_low = grind (arith, nat_tests)

neither : (a b : ℕ) → a < 2 → (a == 1) ≡ false → (min a b == 1) ≡ false
neither a b low unset = grind (arith, nat_tests)

but : (these those place : ℕ) → those < 2 ^ 128 → place < 128 → has_bit (bit_and these (bit_not w128 those)) place ≡ (has_bit these place && not (has_bit those place))
but these those place fits within =
    ap (λ bit. bit == 1) (bit_at_and these (bit_not w128 those) place ∙ ap (min (bit_at these place)) (bit_at_not w128 those place fits within))
    ∙ both (bit_at these place) (bit_at those place) (bit_at-lt these place) (bit_at-lt those place)

none_there : (these those place : ℕ) → has_bit these place ≡ false → has_bit (bit_and these those) place ≡ false
none_there these those place unset =
    ap (λ bit. bit == 1) (bit_at_and these those place) ∙ neither (bit_at these place) (bit_at those place) (bit_at-lt these place) unset

pub difference : (these those : ℕ) (one other : Constraints → Bool) → those < 2 ^ 128 → AreBitsOf one these → AreBitsOf other those
    → AreBitsOf (λ c. one c && not (other c)) (bit_and these (bit_not w128 those))
difference these those one other fits are others = record {
  each = λ c. (let low = signature-low c in but these those (signature c) fits (omega (arith, low))
      ∙ ap (λ b. b && not (has_bit those (signature c))) (are.each c) ∙ ap (λ b. one c && not b) (others.each c));
  no_other = λ place high. none_there these (bit_not w128 those) place (are.no_other place high);
}
