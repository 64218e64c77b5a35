-- Passes and lots that are put together into callers, and taken apart again.
use Rattle.std.proofs.Common.{◌≡◌, ℕ, zero, suc, ◌+◌, ◌<◌, List, [], ◌∷◌, ◌++◌, map, sum, reverse, length, Option, Some, None, refl, sym, ap, ap₂, ◌∙◌, arith, append_assoc, length-append}
use Rattle.std.proofs.lemmas.List.{map-append, reverse-append}
use Rattle.std.proofs.lemmas.List.Sums.{sum_by-append}
use Rattle.wm_collections.proofs.Lists.{All-push}
use Rattle.wm_callers.specs.Closing.{fresh_pass, fresh_passes}
use Rattle.wm_callers.specs.PassState.{PassState}
use Rattle.wm_callers_program.proofs.Dealing.{numbers-push}
use Rattle.wm_callers_program.specs.Calls.{worse, HaveCalled}
use Rattle.wm_callers_program.specs.Lines.{dealt, lines_for, numbers_from, AskedLine}
use Rattle.wm_callers_program.specs.Serving.{HasCalled, HasCalledAll, IsServed}
use Rattle.wm_callers_program.specs.declared.caller.Caller.{Caller}
use Rattle.wm_engine.specs.declared.trouble.Trouble.{Trouble}
use Rattle.wm_engine.specs.declared.trouble.Trouble.TheVariants.{KeeperFault, Memory}

-- ---- lists

-- two lists are the same whose last elements are taken off, and so are these
push-same : {T : Type 0} (xs ys : List T) (x y : T) → xs ++ x ∷ [] ≡ ys ++ y ∷ [] → (xs ≡ ys) × (x ≡ y)
push-same [] [] x y is = (refl, cc (is))
push-same [] (z ∷ ys) x y is = absurd (omega (arith, ap length is, length-append ys (y ∷ [])))
push-same (w ∷ xs) [] x y is = absurd (omega (arith, ap length is, length-append xs (x ∷ [])))
push-same (w ∷ xs) (z ∷ ys) x y is =
    let heads : w ≡ z = cc (is) in
    let rest = push-same xs ys x y (cc (is)) in
    (ap₂ ◌∷◌ heads rest.0, rest.1)

-- what goes from the end of one list to the end of another
pub moved-over : (rest others : List ℕ) (n : ℕ) → rest ++ reverse (others ++ n ∷ []) ≡ (rest ++ n ∷ []) ++ reverse others
moved-over rest others n = ap (λ l. rest ++ l) (reverse-append others (n ∷ [])) ∙ sym (append_assoc rest (n ∷ []) (reverse others))

-- ---- a pass and a lot are taken off

pub pass-popped : (all rest : List PassState) (pass : PassState) → all ≡ rest ++ pass ∷ [] → all ≡ fresh_passes (length all)
    → (rest ≡ fresh_passes (length rest)) × (pass ≡ fresh_pass (length rest))
pass-popped all rest pass is fresh =
    let count : length all ≡ suc (length rest) = omega (arith, ap length is, length-append rest (pass ∷ [])) in
    push-same rest (fresh_passes (length rest)) pass (fresh_pass (length rest)) (sym is ∙ fresh ∙ ap fresh_passes count)

pub lot-popped : (callers count : ℕ) (lines : List AskedLine) (all rest : List (List AskedLine)) (lot : List AskedLine) → all ≡ rest ++ lot ∷ []
    → all ≡ map (λ number. lines_for callers number lines) (numbers_from 0 (suc count))
    → (rest ≡ map (λ number. lines_for callers number lines) (numbers_from 0 count)) × (lot ≡ lines_for callers count lines)
lot-popped callers count lines all rest lot is dealt =
    let f : ℕ → List AskedLine = λ number. lines_for callers number lines in
    let at : 0 + count ≡ count = omega arith in
    push-same rest (map f (numbers_from 0 count)) lot (f count)
    (sym is ∙ dealt ∙ ap (map f) (numbers-push 0 count) ∙ map-append f (numbers_from 0 count) ((0 + count) ∷ []) ∙ ap (λ n. map f (numbers_from 0 count) ++ f n ∷ []) at)

pub fresh-length : (count : ℕ) → length (fresh_passes count) ≡ count
fresh-length zero = refl
fresh-length (suc count) = omega (arith, length-append (fresh_passes count) (fresh_pass count ∷ []), fresh-length count)

-- the numbers of the passes that are left, and then those of the callers, are the same
pub numbers-paired : {J : Type 0} (count : ℕ) (paired : List (Caller J)) (caller : Caller J) → caller.pass.number ≡ count
    → numbers_from 0 count ++ reverse (map (λ (c : Caller J). c.pass.number) (paired ++ caller ∷ []))
    ≡ numbers_from 0 (suc count) ++ reverse (map (λ (c : Caller J). c.pass.number) paired)
numbers-paired {J} count paired caller is =
    let number : Caller J → ℕ = λ c. c.pass.number in
    let at : count ≡ 0 + count = omega arith in
    ap (λ l. numbers_from 0 count ++ reverse l) (map-append number paired (caller ∷ []))
    ∙ moved-over (numbers_from 0 count) (map number paired) caller.pass.number
    ∙ ap (λ l. l ++ reverse (map number paired)) (ap (λ n. numbers_from 0 count ++ n ∷ []) (is ∙ at) ∙ sym (numbers-push 0 count))

-- ---- a pass is taken out

pub numbers-parted : {J : Type 0} (passes : List PassState) (rest : List (Caller J)) (caller : Caller J)
    → map (λ (p : PassState). p.number) (passes ++ caller.pass ∷ []) ++ reverse (map (λ (c : Caller J). c.pass.number) rest)
    ≡ map (λ (p : PassState). p.number) passes ++ reverse (map (λ (c : Caller J). c.pass.number) (rest ++ caller ∷ []))
numbers-parted {J} passes rest caller =
    let number : Caller J → ℕ = λ c. c.pass.number in
    let own : PassState → ℕ = λ p. p.number in
    ap (λ l. l ++ reverse (map number rest)) (map-append own passes (caller.pass ∷ []))
    ∙ sym (moved-over (map own passes) (map number rest) caller.pass.number)
    ∙ ap (λ l. map own passes ++ reverse l) (sym (map-append number rest (caller ∷ [])))

-- none of two is a refusal where none counts
worse-none : (one other : Option Trouble) → worse one other ≡ None → (one ≡ None) × (other ≡ None)
worse-none None other is = (refl, is)
worse-none (Some KeeperFault) other is = absurd cc
worse-none (Some Memory) None is = absurd cc
worse-none (Some Memory) (Some trouble) is = absurd cc

-- where the keeper refused, it refused one of two
worse-keeper : (P : Type 0) (one other : Option Trouble) → worse one other ≡ Some KeeperFault → (one ≡ Some KeeperFault → P) → (other ≡ Some KeeperFault → P) → P
worse-keeper P None other is first second = second is
worse-keeper P (Some KeeperFault) other is first second = first refl
worse-keeper P (Some Memory) None is first second = first is
worse-keeper P (Some Memory) (Some trouble) is first second = second is

pub parted-more : {J : Type 0} (count : ℕ) (lines : List AskedLine) (refused : Option Trouble) (passes : List PassState) (caller : Caller J)
    → IsServed count lines caller → HaveCalled count lines refused passes → HaveCalled count lines (worse refused caller.refused) (passes ++ caller.pass ∷ [])
parted-more count lines refused passes caller served have =
    let sums = sum_by-append (λ n. n) (map (λ (p : PassState). p.units) passes) (caller.pass.units ∷ []) in
    let all : sum (map (λ (p : PassState). p.units) (passes ++ caller.pass ∷ [])) ≡ sum (map (λ (p : PassState). p.units) passes) + caller.pass.units =
    ap sum (map-append (λ (p : PassState). p.units) passes (caller.pass ∷ [])) ∙ omega (arith, sums) in
    record {
      called = All-push (HasCalled count lines) passes caller.pass have.called served.called;
      whole = λ none.
          let both = worse-none refused caller.refused none in
          All-push (HasCalledAll count lines) passes caller.pass (have.whole both.0) (served.whole both.1);
      fault = λ keeper.
          worse-keeper (0 < sum (map (λ (p : PassState). p.units) (passes ++ caller.pass ∷ []))) refused caller.refused keeper
          (λ first. let some = have.fault first in omega (arith, all, some)) (λ second. let some = served.fault second in omega (arith, all, some));
    }
