-- What the log of a desk that was closed has of the lines of its callers.
use Rattle.std.proofs.Common.{◌≡◌, ℕ, zero, suc, ◌+◌, ◌-◌, ◌<◌, ◌≤◌, ◌==◌, cond, Bool, true, false, List, [], ◌∷◌, ◌++◌, map, sum, length, Option, refl, sym, ap, ap₂, subst, ◌∙◌, arith, eq-eqb, ne_eqb, eqb-true}
use Rattle.std.specs.List.{filter, AllByRecursion}
use Rattle.std.proofs.lemmas.List.Sums.{sum_by-cons}
use Rattle.wm_collections.proofs.Lists.{All-front, All-map, All-weaker, All-with2, All-with3}
use Rattle.wm_collections.specs.Lists.{AllLater}
use mathlib.Core.List.{IsPrefix}
use mathlib.Core.Logic.{dite}
use native.Mathlib.Decide.{ℕ_discrete}
use Rattle.wm_callers.specs.Closing.{IsBefore, IsClosed}
use Rattle.wm_callers.specs.History.{asked_by, asked_in, Asked}
use Rattle.wm_callers.specs.Inputs.{DeskInputs}
use Rattle.wm_callers.specs.PassState.{PassState}
use Rattle.wm_callers.specs.Places.{places_from, places_of}
use Rattle.wm_callers.specs.Told.{TableTold}
use Rattle.wm_callers.specs.declared.entry.Signed.{Signed}
use Rattle.wm_callers_program.proofs.Making.{made-whole}
use Rattle.wm_callers_program.specs.Calls.{lines_in, HaveCalled, IsCalledOut}
use Rattle.wm_callers_program.specs.Lines.{caller_of, lines_for, numbers_from, AskedLine}
use Rattle.wm_callers_program.specs.Made.{entries_by, line_of, made_by}
use Rattle.wm_machine.specs.declared.event.Event.{Event}
use Rattle.wm_machine.specs.declared.event.Event.TheVariants as event
use Rattle.wm_engine.specs.declared.trouble.Trouble.{Trouble}

-- ---- numbers

-- what is so of all numbers is so of each
number-in : (P : ℕ → Type 0) (first count number : ℕ) → AllByRecursion P (numbers_from first count) → first ≤ number → number < first + count → P number
number-in P first zero number all from below = absurd (omega (arith, from, below))
number-in P first (suc count) number all from below =
    dite (ℕ_discrete first number) (λ is. subst P is all.0) (λ isnt. number-in P (suc first) count number all.1 (omega (arith, from, isnt)) (omega (arith, below)))

numbers-above : (first bound count : ℕ) → bound ≤ first → AllByRecursion (λ n. bound ≤ n) (numbers_from first count)
numbers-above first bound zero above = tt
numbers-above first bound (suc count) above = (above, numbers-above (suc first) bound count (omega (arith, above)))

numbers-later : (first count : ℕ) → AllLater (λ n m. n < m) (numbers_from first count)
numbers-later first zero = tt
numbers-later first (suc count) = (All-weaker (numbers_from (suc first) count) (λ n above. omega (arith, above)) (numbers-above (suc first) (suc first) count (omega arith)), numbers-later (suc first) count)

unmap-All : (number : ℕ) (passes : List PassState) → AllByRecursion (λ n. number < n) (map (λ (p : PassState). p.number) passes) → AllByRecursion (λ pass. number < pass.number) passes
unmap-All number [] all = tt
unmap-All number (pass ∷ passes) all = (all.0, unmap-All number passes all.1)

unmap-later : (passes : List PassState) → AllLater (λ n m. n < m) (map (λ (p : PassState). p.number) passes) → AllLater IsBefore passes
unmap-later [] later = tt
unmap-later (pass ∷ passes) later = (unmap-All pass.number passes later.0, unmap-later passes later.1)

pub passes-ascend : (count : ℕ) (passes : List PassState) → map (λ (p : PassState). p.number) passes ≡ numbers_from 0 count → AllLater IsBefore passes
passes-ascend count passes are = unmap-later passes (subst (AllLater (λ n m. n < m)) (sym are) (numbers-later 0 count))

-- ---- each entry is of one of the callers

-- how many entries are of a number
abbrev count_of : List Signed → ℕ → ℕ
count_of all number = length (entries_by number all)

abbrev total : List Signed → List ℕ → ℕ
total all [] = 0
total all (number ∷ numbers) = count_of all number + total all numbers

abbrev weigh : Bool → ℕ
weigh true = 1
weigh false = 0

-- how often a caller is among some numbers
abbrev hits : ℕ → List ℕ → ℕ
hits caller [] = 0
hits caller (number ∷ numbers) = weigh (caller == number) + hits caller numbers

hits-none : (caller first count : ℕ) → caller < first → hits caller (numbers_from first count) ≡ 0
hits-none caller first zero below = refl
hits-none caller first (suc count) below =
    let other : (caller == first) ≡ false = ne_eqb caller first (λ is. absurd (omega (arith, below, is))) in
    let rest = hits-none caller (suc first) count (omega (arith, below)) in
    (λ i. weigh (other i) + rest i)

hits-once : (caller first count : ℕ) → hits caller (numbers_from first count) ≤ 1
hits-once caller first zero = omega arith
hits-once caller first (suc count) =
    dite (ℕ_discrete caller first)
    (λ is. let none = hits-none caller (suc first) count (omega (arith, is)) in
    let one : weigh (caller == first) ≡ 1 = ap weigh (eq-eqb caller first is) in
    omega (arith, none, one))
    (λ isnt. let none : weigh (caller == first) ≡ 0 = ap weigh (ne_eqb caller first isnt) in
    omega (arith, none, hits-once caller (suc first) count))

-- one that is among them is below their end
hits-below : (caller first count : ℕ) → hits caller (numbers_from first count) ≡ 1 → caller < first + count
hits-below caller first zero one = absurd (omega (arith, one))
hits-below caller first (suc count) one =
    dite (ℕ_discrete caller first) (λ is. omega (arith, is))
    (λ isnt. let none : weigh (caller == first) ≡ 0 = ap weigh (ne_eqb caller first isnt) in
    let rest = hits-below caller (suc first) count (omega (arith, one, none)) in omega (arith, rest))

count-cons : (e : Signed) (all : List Signed) (number : ℕ) → count_of (e ∷ all) number ≡ weigh (e.caller == number) + count_of all number
count-cons e all number = by_test (e.caller == number)
  where
    by_test : (test : Bool) → length (cond test (e ∷ entries_by number all) (entries_by number all)) ≡ weigh test + length (entries_by number all)
    by_test true = omega arith
    by_test false = omega arith

total-cons : (e : Signed) (all : List Signed) (numbers : List ℕ) → total (e ∷ all) numbers ≡ hits e.caller numbers + total all numbers
total-cons e all [] = refl
total-cons e all (number ∷ numbers) = omega (arith, count-cons e all number, total-cons e all numbers)

total-nothing : (numbers : List ℕ) → total [] numbers ≡ 0
total-nothing [] = refl
total-nothing (number ∷ numbers) = omega (arith, total-nothing numbers)

total-few : (all : List Signed) (count : ℕ) → total all (numbers_from 0 count) ≤ length all
total-few [] count = omega (arith, total-nothing (numbers_from 0 count))
total-few (e ∷ all) count = omega (arith, total-cons e all (numbers_from 0 count), hits-once e.caller 0 count, total-few all count)

-- where the entries of these callers are all, each entry is of one of them
total-known : (all : List Signed) (count : ℕ) → total all (numbers_from 0 count) ≡ length all → AllByRecursion (λ e. e.caller < count) all
total-known [] count whole = tt
total-known (e ∷ all) count whole =
    let cons = total-cons e all (numbers_from 0 count) in
    let once = hits-once e.caller 0 count in
    let few = total-few all count in
    let hit : hits e.caller (numbers_from 0 count) ≡ 1 = omega (arith, whole, cons, once, few) in
    let below = hits-below e.caller 0 count hit in
    (omega (arith, below), total-known all count (omega (arith, whole, cons, hit)))

places-count : (number place : ℕ) (all : List Signed) → length (places_from number place all) ≡ length (entries_by number all)
places-count number place [] = refl
places-count number place (e ∷ all) = by_test (places-count number (suc place) all) (e.caller == number)
  where
    by_test : length (places_from number (suc place) all) ≡ length (entries_by number all) → (test : Bool) → length (cond test (place ∷ places_from number (suc place) all) (places_from number (suc place) all))
        ≡ length (cond test (e ∷ entries_by number all) (entries_by number all))
    by_test rest true = ap suc rest
    by_test rest false = rest

passes-total : (all : List Signed) (passes : List PassState) → AllByRecursion (λ pass. places_of pass.number all ≡ pass.mine) passes
    → sum (map (λ (p : PassState). length p.mine) passes) ≡ total all (map (λ (p : PassState). p.number) passes)
passes-total all [] mine = refl
passes-total all (pass ∷ passes) mine =
    let rest = passes-total all passes mine.1 in
    let count : length pass.mine ≡ count_of all pass.number = sym (ap length mine.0) ∙ places-count pass.number 0 all in
    omega (arith, sum_by-cons (λ n. n) (length pass.mine) (map (λ (p : PassState). length p.mine) passes), rest, count)

-- ---- the lines of an entry's caller

filter-own : {A : Type 0} (test : A → Bool) (xs : List A) → AllByRecursion (λ x. test x ≡ true) (filter test xs)
filter-own test [] = tt
filter-own {A} test (x ∷ xs) = by_test (test x) refl (filter-own test xs)
  where
    by_test : (b : Bool) → test x ≡ b → AllByRecursion (λ y. test y ≡ true) (filter test xs) → AllByRecursion (λ y. test y ≡ true) (cond b (x ∷ filter test xs) (filter test xs))
    by_test true is rest = (is, rest)
    by_test false is rest = rest

-- the lines of each caller's entries go to it
abbrev OwnLines : ℕ → List Signed → Type 0
OwnLines count all = (number : ℕ) → number < count → AllByRecursion (λ line. (caller_of count line == number) ≡ true) (map line_of (entries_by number all))

owned : (count : ℕ) (all : List Signed) → AllByRecursion (λ e. e.caller < count) all → OwnLines count all → AllByRecursion (λ e. caller_of count (line_of e) ≡ e.caller) all
owned count [] known own = tt
owned count (e ∷ all) known own =
    let here = subst (λ test. AllByRecursion (λ line. (caller_of count line == e.caller) ≡ true) (map line_of (cond test (e ∷ entries_by e.caller all) (entries_by e.caller all))))
    (eq-eqb e.caller e.caller refl) (own e.caller known.0) in
    (eqb-true (caller_of count (line_of e)) e.caller here.0, owned count all known.1 (λ number below. by_test number (e.caller == number) (own number below)))
  where
    by_test : (number : ℕ) (test : Bool) → AllByRecursion (λ line. (caller_of count line == number) ≡ true) (map line_of (cond test (e ∷ entries_by number all) (entries_by number all)))
        → AllByRecursion (λ line. (caller_of count line == number) ≡ true) (map line_of (entries_by number all))
    by_test number true all = all.1
    by_test number false all = all

-- so the lines that go to a caller are those of its entries
own-lines : (count number : ℕ) (all : List Signed) → AllByRecursion (λ e. caller_of count (line_of e) ≡ e.caller) all
    → lines_for count number (map line_of all) ≡ map line_of (entries_by number all)
own-lines count number [] own = refl
own-lines count number (e ∷ all) own =
    ap (λ caller. cond (caller == number) (line_of e ∷ lines_for count number (map line_of all)) (lines_for count number (map line_of all))) own.0
    ∙ by_test (e.caller == number) (own-lines count number all own.1)
  where
    by_test : (test : Bool) → lines_for count number (map line_of all) ≡ map line_of (entries_by number all)
        → cond test (line_of e ∷ lines_for count number (map line_of all)) (lines_for count number (map line_of all)) ≡ map line_of (cond test (e ∷ entries_by number all) (entries_by number all))
    by_test true rest = ap (λ l. line_of e ∷ l) rest
    by_test false rest = rest

own-numbers : (count : ℕ) (all : List Signed) → AllByRecursion (λ e. caller_of count (line_of e) ≡ e.caller) all
    → map (λ (e : Signed). e.caller) all ≡ map (caller_of count) (map line_of all)
own-numbers count [] own = refl
own-numbers count (e ∷ all) own = ap₂ ◌∷◌ (sym own.0) (own-numbers count all own.1)

-- ---- the log

abbrev forget : Asked → AskedLine
forget asked = record { number = asked.line; command = asked.command }

lines-asked : (log : List Event) → map forget (asked_in log) ≡ lines_in log
lines-asked [] = refl
lines-asked (event.Command line asked reply ∷ log) = ap (λ l. record { number = line; command = asked } ∷ l) (lines-asked log)
lines-asked (event.Start run seq instance input ∷ log) = lines-asked log
lines-asked (event.StartFailed seq cause ∷ log) = lines-asked log
lines-asked (event.Turn run progress ∷ log) = lines-asked log
lines-asked (event.Finish run end ∷ log) = lines-asked log
lines-asked (event.TimedOut run ∷ log) = lines-asked log
lines-asked (event.Late run ∷ log) = lines-asked log

lines-signed : (all : List Signed) → map forget (map asked_by all) ≡ map line_of all
lines-signed [] = refl
lines-signed (e ∷ all) = ap (λ l. line_of e ∷ l) (lines-signed all)

-- ---- the end

-- of a desk that was closed, whose passes are those of callers of these lines
pub called-out : (desk : DeskInputs) (passes : List PassState) (numbers : List ℕ) (told : TableTold) (count : ℕ) (lines : List AskedLine) (refused : Option Trouble)
    → IsClosed desk passes numbers told → HaveCalled count lines refused passes → map (λ (p : PassState). p.number) passes ≡ numbers_from 0 count
    → IsCalledOut count lines refused numbers told.log desk.faults told.faults
called-out desk passes numbers told count lines refused closed have are =
    let all = closed.all in
    let made = All-with3 {S = λ pass. entries_by pass.number all ≡ made_by pass} passes (λ pass begins whole called. made-whole all pass begins whole called.own_places) closed.seen closed.mine have.called in
    let front : (number : ℕ) → Type 0 = λ number. IsPrefix (map line_of (entries_by number all)) (lines_for count number lines) in
    let fronts = subst (AllByRecursion front) are (All-map front (λ (p : PassState). p.number) passes (λ pass is. is)
    (All-with2 {R = λ pass. front pass.number} passes (λ pass is called. (called.front.0, ap (λ l. map line_of l ++ called.front.0) is ∙ called.front.1)) made have.called)) in
    let each : (number : ℕ) → number < count → front number = λ number below. number-in front 0 count number fronts (omega arith) (omega (arith, below)) in
    let whole : total all (numbers_from 0 count) ≡ length all = ap (total all) (sym are) ∙ sym (passes-total all passes closed.mine) ∙ closed.counted in
    let own = owned count all (total-known all count whole) (λ number below.
    let prefix = each number below in
    All-front (λ line. (caller_of count line == number) ≡ true) (map line_of (entries_by number all)) prefix.0
    (subst (AllByRecursion (λ line. (caller_of count line == number) ≡ true)) (sym prefix.1) (filter-own (λ line. caller_of count line == number) lines))) in
    let logged : lines_in told.log ≡ map line_of all = sym (lines-asked told.log) ∙ ap (map forget) (sym closed.stands.commands) ∙ lines-signed all in
    let ours : (number : ℕ) → lines_for count number (lines_in told.log) ≡ map line_of (entries_by number all) =
    λ number. ap (lines_for count number) logged ∙ own-lines count number all own in
    record {
      calls = record {
        numbers_are = sym closed.stands.numbers ∙ own-numbers count all own ∙ ap (map (caller_of count)) (sym logged);
        fronts = λ number below. let prefix = each number below in (prefix.0, ap (λ l. l ++ prefix.0) (ours number) ∙ prefix.1);
      };
      whole = λ none number below.
          let all_of : (number : ℕ) → Type 0 = λ number. map line_of (entries_by number all) ≡ lines_for count number lines in
          let each_all = subst (AllByRecursion all_of) are (All-map all_of (λ (p : PassState). p.number) passes (λ pass is. is)
          (All-with2 {R = λ pass. all_of pass.number} passes (λ pass is called. ap (map line_of) is ∙ called) made (have.whole none))) in
          ours number ∙ number-in all_of 0 count number each_all (omega arith) (omega (arith, below));
      alone = closed.stands.alone;
      fault = λ keeper. let some = have.fault keeper in record { later = closed.later; rose = omega (arith, closed.faults, some) };
      later = closed.later;
    }
