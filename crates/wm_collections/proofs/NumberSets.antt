-- How numbers come into a set, and a set into a list.
use Rattle.std.proofs.Common.{◌≡◌, ℕ, ◌+◌, ◌<◌, ◌==◌, ◌||◌, Bool, true, false, cond, List, [], ◌∷◌, ◌++◌, length, get_or, map, take, refl, sym, ap, ◌∙◌, arith, Bor}
use Rattle.std.proofs.lemmas.Bool.Decides.{nat_tests}
use Rattle.std.proofs.lemmas.List.{append-nil, take_more}
use Rattle.std.proofs.lemmas.List.Folds.{list_any-append}
use Rattle.std.proofs.lemmas.Map.Keys.{sorted_head, sorted_tail}
use Rattle.std.specs.BTreeMap.{is_at}
use Rattle.std.specs.BTreeSet.{BTreeSet, IsOrdered, Updates}
use Rattle.std.specs.List.Sorted.{IsStrictlySortedBy}
use Rattle.std.specs.Map.Iter.{deref}
use Rattle.std.specs.Ordering.{is_eq, nat_cmp}
use Rattle.std.specs.declared.cmp.Ordering.TheVariants.{Less}
use Rattle.wm_collections.specs.Lists.{is_among, AllLater}
use Rattle.wm_collections.specs.Sets.{has_number, AreAdded, AreMerged, IsListOf}
use Rattle.wm_collections.proofs.Lists.{All-any, All-weaker, list_any-agree}

one-case : (o n : Bool) → cond n true o ≡ (o || (n || false))
one-case true true = refl
one-case true false = refl
one-case false true = refl
one-case false false = refl

or-grouped : (a b c : Bool) → ((a || b) || c) ≡ (a || (b || c))
or-grouped true b c = refl
or-grouped false b c = refl

-- one number more
pub added-one : (old new : BTreeSet ℕ) (one : ℕ) → Updates nat_cmp old new one true → AreAdded (one ∷ []) old new
added-one old new one updates = λ number.
    let test : is_eq (nat_cmp one number) ≡ (one == number) = grind (arith, nat_tests) in
    updates.0 number ∙ ap (λ b. cond b true (has_number old number)) test ∙ one-case (has_number old number) (one == number)

pub added-more : (others : List ℕ) (i : ℕ) → i < length others → (first old new : BTreeSet ℕ) → AreAdded (take i others) first old
    → Updates nat_cmp old new (get_or others i 0) true → AreAdded (take (i + 1) others) first new
added-more others i within first old new so_far updates = λ number.
    rw (take_more others i 0 within, list_any-append)
    (added-one old new (get_or others i 0) updates number ∙ ap (λ b. b || is_among (get_or others i 0 ∷ []) number) (so_far number)
    ∙ or-grouped (has_number first number) (is_among (take i others) number) (is_among (get_or others i 0 ∷ []) number))

-- the list of a set to which both were added
pub merged-are : (one other list : List ℕ) (first second third : BTreeSet ℕ) → ((number : ℕ) → has_number first number ≡ false) → AreAdded one first second
    → AreAdded other second third → IsListOf third list → AreMerged one other list
merged-are one other list first second third none one_in other_in are = record {
  ascending = are.ascending;
  each = λ number. are.each number ∙ other_in number
      ∙ ap (λ b. b || is_among other number) (one_in number ∙ ap (λ b. b || is_among one number) (none number));
}

-- ---- the numbers of a set

rises : (one later : ℕ) → nat_cmp one later ≡ Less → one < later
rises one later less = grind (arith, nat_tests)

rise-each : (numbers : List ℕ) → IsStrictlySortedBy nat_cmp numbers → AllLater (λ one later. one < later) numbers
rise-each [] sorted = tt
rise-each (number ∷ numbers) sorted = (
  All-weaker numbers (rises number) (sorted_head nat_cmp number numbers sorted),
  rise-each numbers (sorted_tail nat_cmp number numbers sorted),
)

same-test : (number key : ℕ) → (key == number) ≡ is_at (nat_cmp number) key
same-test number key = grind (arith, nat_tests)

pub list-is : (numbers : BTreeSet ℕ) (list : List ℕ) → IsOrdered nat_cmp numbers → list ≡ numbers.keys → IsListOf numbers list
list-is numbers list ordered is = rw is record {
  ascending = rise-each numbers.keys ordered;
  each = λ number. list_any-agree (λ one. one == number) (is_at (nat_cmp number)) numbers.keys (All-any numbers.keys (same-test number));
}

pub list-all : (numbers : BTreeSet ℕ) (yielded : List (Bor ℕ)) (rest all list : List ℕ) → map deref yielded ++ rest ≡ all → all ≡ numbers.keys → rest ≡ []
    → list ≡ map deref yielded → list ≡ numbers.keys
list-all numbers yielded rest all list split whole none is =
    is ∙ sym (append-nil (map deref yielded)) ∙ ap (λ more. map deref yielded ++ more) (sym none) ∙ split ∙ whole
