-- Where the calls of all passes are as many as the entries, the places of each pass are all of its number.
use Rattle.std.proofs.Common.{◌≡◌, ℕ, suc, ◌+◌, ◌≤◌, ◌==◌, cond, Bool, true, false, List, [], ◌∷◌, map, sum, length, refl, sym, ap, ◌∙◌, arith, eq-eqb, ne_eqb}
use Rattle.std.specs.List.{AllByRecursion}
use Rattle.std.proofs.lemmas.List.Sums.{sum_by-cons}
use mathlib.Core.Logic.{dite}
use native.Mathlib.Decide.{ℕ_discrete}
use Rattle.wm_collections.specs.Lists.{AllLater}
use Rattle.wm_collections.proofs.Lists.{All-weaker, All-with2}
use Rattle.wm_callers.specs.Closing.{FitsIn, IsBefore}
use Rattle.wm_callers.specs.PassState.{PassState}
use Rattle.wm_callers.specs.Places.{places_from, places_of, ArePart}
use Rattle.wm_callers.specs.declared.entry.Signed.{Signed}
use Rattle.wm_callers.proofs.Lists.{part-begins, part-length, part-whole, places-begin}

-- ---- sums over the passes

abbrev total : (PassState → ℕ) → List PassState → ℕ
total f [] = 0
total f (pass ∷ passes) = f pass + total f passes

total-sum : (f : PassState → ℕ) (passes : List PassState) → sum (map f passes) ≡ total f passes
total-sum f [] = refl
total-sum f (pass ∷ passes) = sum_by-cons (λ n. n) (f pass) (map f passes) ∙ ap (λ n. f pass + n) (total-sum f passes)

total-add : (f g h : PassState → ℕ) (passes : List PassState) → ((pass : PassState) → f pass ≡ g pass + h pass) → total f passes ≡ total g passes + total h passes
total-add f g h [] each = refl
total-add f g h (pass ∷ passes) each = omega (arith, each pass, total-add f g h passes each)

total-zero : (f : PassState → ℕ) (passes : List PassState) → AllByRecursion (λ pass. f pass ≡ 0) passes → total f passes ≡ 0
total-zero f [] all = refl
total-zero f (pass ∷ passes) all = omega (arith, all.0, total-zero f passes all.1)

total-less : (f g : PassState → ℕ) (passes : List PassState) → AllByRecursion (λ pass. f pass ≤ g pass) passes → total f passes ≤ total g passes
total-less f g [] all = omega arith
total-less f g (pass ∷ passes) all = omega (arith, all.0, total-less f g passes all.1)

-- none is less than another one that it isn't above, where their sums are the same
total-same : (f g : PassState → ℕ) (passes : List PassState) → AllByRecursion (λ pass. f pass ≤ g pass) passes → total g passes ≤ total f passes
    → AllByRecursion (λ pass. g pass ≤ f pass) passes
total-same f g [] all less = tt
total-same f g (pass ∷ passes) all less =
    (omega (arith, less, all.0, total-less f g passes all.1), total-same f g passes all.1 (omega (arith, less, all.0)))

-- ---- places

abbrev weight : Bool → ℕ
weight true = 1
weight false = 0

abbrev hits : Signed → PassState → ℕ
hits entry pass = weight (entry.caller == pass.number)

abbrev count_of : ℕ → List Signed → PassState → ℕ
count_of place all pass = length (places_from pass.number place all)

count-cons : (place : ℕ) (entry : Signed) (all : List Signed) (pass : PassState) → count_of place (entry ∷ all) pass ≡ hits entry pass + count_of (suc place) all pass
count-cons place entry all pass = by_test (entry.caller == pass.number)
  where
    by_test : (test : Bool)
        → length (cond test (place ∷ places_from pass.number (suc place) all) (places_from pass.number (suc place) all)) ≡ weight test + length (places_from pass.number (suc place) all)
    by_test true = omega arith
    by_test false = omega arith

-- an entry is of one pass at most
hits-once : (entry : Signed) (passes : List PassState) → AllLater IsBefore passes → total (hits entry) passes ≤ 1
hits-once entry [] ascends = omega arith
hits-once entry (pass ∷ passes) ascends =
    let rest = hits-once entry passes ascends.1 in
    dite (ℕ_discrete entry.caller pass.number)
    (λ same. let one : hits entry pass ≡ 1 = ap weight (eq-eqb entry.caller pass.number same) in
    let none = total-zero (hits entry) passes (All-weaker passes (λ later before. ap weight (ne_eqb entry.caller later.number (λ is. absurd (omega (arith, before, same, is))))) ascends.0) in
    omega (arith, one, none))
    (λ other. let none : hits entry pass ≡ 0 = ap weight (ne_eqb entry.caller pass.number other) in omega (arith, none, rest))

counts-few : (place : ℕ) (all : List Signed) (passes : List PassState) → AllLater IsBefore passes → total (count_of place all) passes ≤ length all
counts-few place [] passes ascends = omega (arith, total-zero (count_of place []) passes (all_zero passes))
  where
    all_zero : (ones : List PassState) → AllByRecursion (λ pass. count_of place [] pass ≡ 0) ones
    all_zero [] = tt
    all_zero (pass ∷ ones) = (refl, all_zero ones)
counts-few place (entry ∷ all) passes ascends =
    omega (
      arith,
      total-add (count_of place (entry ∷ all)) (hits entry) (count_of (suc place) all) passes (count-cons place entry all),
      hits-once entry passes ascends,
      counts-few (suc place) all passes ascends,
    )

-- the places of a pass among all of its number
own_part : (all : List Signed) (pass : PassState) → FitsIn all pass → ArePart pass.mine (places_of pass.number all)
own_part all pass fits = part-begins pass.mine (places_of pass.number pass.seen) (places_of pass.number all) fits.mine_is (places-begin pass.number pass.seen all fits.seen_is)

pub places-all : (all : List Signed) (passes : List PassState) → AllByRecursion (FitsIn all) passes → AllLater IsBefore passes
    → sum (map (λ pass. length pass.mine) passes) ≡ length all → AllByRecursion (λ pass. places_of pass.number all ≡ pass.mine) passes
places-all all passes fits ascends whole =
    let parts = All-weaker {Q = λ pass. ArePart pass.mine (places_of pass.number all)} passes (λ pass f. own_part all pass f) fits in
    let fewer = All-weaker {Q = λ pass. length pass.mine ≤ count_of 0 all pass} passes (λ pass part. part-length pass.mine (places_of pass.number all) part) parts in
    let sums : total (λ pass. length pass.mine) passes ≡ length all = sym (total-sum (λ pass. length pass.mine) passes) ∙ whole in
    let less : total (count_of 0 all) passes ≤ total (λ pass. length pass.mine) passes = omega (arith, counts-few 0 all passes ascends, sums) in
    let same = total-same (λ pass. length pass.mine) (count_of 0 all) passes fewer less in
    All-with2 passes (λ pass part le. sym (part-whole pass.mine (places_of pass.number all) part le)) parts same
