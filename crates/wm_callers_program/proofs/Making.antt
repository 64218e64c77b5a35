-- What a caller made, in what it saw and in the whole history.
use Rattle.std.proofs.Common.{◌≡◌, ℕ, zero, suc, ◌+◌, ◌<◌, ◌==◌, cond, Bool, true, false, List, [], ◌∷◌, ◌++◌, map, length, slice_get, option_to_list, Some, refl, sym, ap, subst, ◌∙◌, inl, inr, arith, append_assoc, length-append}
use Rattle.std.specs.List.{AllByRecursion}
use Rattle.std.proofs.lemmas.List.{map-append}
use mathlib.Core.List.{IsPrefix}
use Rattle.wm_collections.proofs.Lists.{All-weaker}
use Rattle.wm_callers.specs.Calls.{IsCalled}
use Rattle.wm_callers.specs.PassState.{PassState}
use Rattle.wm_callers.specs.Places.{places_from, places_of, ArePart}
use Rattle.wm_callers.specs.declared.entry.Signed.{Signed}
use Rattle.wm_callers.specs.declared.pass.Receipt.{Receipt}
use Rattle.wm_callers_program.specs.Made.{entries_at, entries_by, line_of, lines_by, made_by}
use Rattle.wm_machine.specs.declared.command.Command.{Command}

-- ---- look-ups

get-at : (front : List Signed) (x : Signed) (back : List Signed) → slice_get (front ++ x ∷ back) (length front) ≡ Some x
get-at [] x back = refl
get-at (y ∷ front) x back = get-at front x back

get-front : (xs ys : List Signed) (k : ℕ) → k < length xs → slice_get (xs ++ ys) k ≡ slice_get xs k
get-front [] ys k below = absurd (omega (arith, below))
get-front (x ∷ xs) ys zero below = refl
get-front (x ∷ xs) ys (suc k) below = get-front xs ys k (omega (arith, below))

entries-append : (xs ys : List ℕ) (all : List Signed) → entries_at (xs ++ ys) all ≡ entries_at xs all ++ entries_at ys all
entries-append [] ys all = refl
entries-append (x ∷ xs) ys all =
    ap (λ rest. option_to_list (slice_get all x) ++ rest) (entries-append xs ys all) ∙ sym (append_assoc (option_to_list (slice_get all x)) (entries_at xs all) (entries_at ys all))

entries-front : (places : List ℕ) (xs ys : List Signed) → AllByRecursion (λ k. k < length xs) places → entries_at places (xs ++ ys) ≡ entries_at places xs
entries-front [] xs ys all = refl
entries-front (k ∷ places) xs ys all = λ i. option_to_list (get-front xs ys k all.0 i) ++ entries-front places xs ys all.1 i

part-All : (P : ℕ → Type 0) (xs ys : List ℕ) → ArePart xs ys → AllByRecursion P ys → AllByRecursion P xs
part-All P [] ys part all = tt
part-All P (x ∷ xs) [] part all = absurd part
part-All P (x ∷ xs) (y ∷ ys) (inl both) all = (subst P (sym both.0) all.0, part-All P xs ys both.1 all.1)
part-All P (x ∷ xs) (y ∷ ys) (inr part) all = part-All P (x ∷ xs) ys part all.1

places-below : (number place : ℕ) (all : List Signed) → AllByRecursion (λ k. k < place + length all) (places_from number place all)
places-below number place [] = tt
places-below number place (e ∷ all) =
    by_test (omega arith) (All-weaker (places_from number (suc place) all) (λ k below. omega (arith, below)) (places-below number (suc place) all)) (e.caller == number)
  where
    by_test : place < place + length (e ∷ all) → AllByRecursion (λ k. k < place + length (e ∷ all)) (places_from number (suc place) all) → (test : Bool)
        → AllByRecursion (λ k. k < place + length (e ∷ all)) (cond test (place ∷ places_from number (suc place) all) (places_from number (suc place) all))
    by_test here rest true = (here, rest)
    by_test here rest false = rest

own-below : (number : ℕ) (mine : List ℕ) (seen : List Signed) → ArePart mine (places_of number seen) → AllByRecursion (λ k. k < length seen) mine
own-below number mine seen part =
    let all = All-weaker {Q = λ k. k < length seen} (places_of number seen) (λ k below. omega (arith, below)) (places-below number 0 seen) in
    part-All (λ k. k < length seen) mine (places_of number seen) part all

-- ---- a call

-- what a call makes is its line, after what was made before
pub made-called : (line : ℕ) (command : Command) (receipt : Receipt) (old new : PassState) → IsCalled line command receipt old new
    → ArePart old.mine (places_of old.number old.seen)
    → lines_by new ≡ lines_by old ++ record { number = line; command = command } ∷ []
made-called line command receipt old new called part =
    let entry : Signed = record { caller = old.number; line = line; command = command; reply = receipt.reply } in
    let before_it = old.seen ++ called.between in
    let below = own-below old.number old.mine old.seen part in
    let seen : new.seen ≡ old.seen ++ (called.between ++ entry ∷ []) = called.seen_is ∙ append_assoc old.seen called.between (entry ∷ []) in
    let olds : entries_at old.mine new.seen ≡ made_by old = ap (entries_at old.mine) seen ∙ entries-front old.mine old.seen (called.between ++ entry ∷ []) below in
    let last : slice_get new.seen receipt.place ≡ Some entry = (λ i. slice_get (called.seen_is i) (called.place_is i)) ∙ get-at before_it entry [] in
    let both : made_by new ≡ entries_at old.mine new.seen ++ entries_at (receipt.place ∷ []) new.seen =
    ap (λ m. entries_at m new.seen) called.mine_is ∙ entries-append old.mine (receipt.place ∷ []) new.seen in
    let made : made_by new ≡ made_by old ++ entry ∷ [] = both ∙ (λ i. olds i ++ (option_to_list (last i) ++ [])) in
    ap (map line_of) made ∙ map-append line_of (made_by old) (entry ∷ [])

-- ---- the whole history

entries-places : (number place : ℕ) (front back : List Signed) → length front ≡ place → entries_at (places_from number place back) (front ++ back) ≡ entries_by number back
entries-places number place front [] at = refl
entries-places number place front (e ∷ back) at =
    let here : slice_get (front ++ e ∷ back) place ≡ Some e = ap (slice_get (front ++ e ∷ back)) (sym at) ∙ get-at front e back in
    let longer : length (front ++ e ∷ []) ≡ suc place = omega (arith, length-append front (e ∷ []), at) in
    let whole : (front ++ e ∷ []) ++ back ≡ front ++ e ∷ back = append_assoc front (e ∷ []) back in
    let rest = entries-places number (suc place) (front ++ e ∷ []) back longer in
    by_test here (ap (entries_at (places_from number (suc place) back)) (sym whole) ∙ rest) (e.caller == number)
  where
    by_test : slice_get (front ++ e ∷ back) place ≡ Some e → entries_at (places_from number (suc place) back) (front ++ e ∷ back) ≡ entries_by number back → (test : Bool)
        → entries_at (cond test (place ∷ places_from number (suc place) back) (places_from number (suc place) back)) (front ++ e ∷ back)
        ≡ cond test (e ∷ entries_by number back) (entries_by number back)
    by_test here rest true = λ i. option_to_list (here i) ++ rest i
    by_test here rest false = rest

-- what a pass made is what the history has of its number
pub made-whole : (all : List Signed) (pass : PassState) → IsPrefix pass.seen all → places_of pass.number all ≡ pass.mine → ArePart pass.mine (places_of pass.number pass.seen)
    → entries_by pass.number all ≡ made_by pass
made-whole all pass begins whole part =
    sym (entries-places pass.number 0 [] all refl) ∙ (λ i. entries_at (whole i) (sym begins.1 i))
    ∙ entries-front pass.mine pass.seen begins.0 (own-below pass.number pass.mine pass.seen part)
