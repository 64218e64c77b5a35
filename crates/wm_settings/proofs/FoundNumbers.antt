-- The numbers of works that are found one after another, by ids, names or tags.
use Rattle.std.proofs.Common.{◌≡◌, ℕ, ◌+◌, ◌<◌, ◌≤◌, ◌==◌, ◌||◌, ◌&&◌, Bool, true, false, List, [], ◌∷◌, filter, get_or, length, take, refl, sym, ◌∙◌, ap}
use Rattle.std.specs.BTreeSet.{BTreeSet}
use Rattle.std.specs.List.{list_any}
use Rattle.std.specs.Str.{bytes_eq}
use Rattle.std.proofs.lemmas.List.{take_all}
use Rattle.std.proofs.lemmas.List.Folds.{list_any_more}
use Rattle.std.proofs.lemmas.Slice.Eq.{bytes_eq-Decides}
use Rattle.wm_collections.specs.Lists.{is_among, AllLater}
use Rattle.wm_collections.proofs.Ascending.{ascending-same}
use Rattle.wm_collections.proofs.Lists.{All-any, AllLater-filter, AllLater-map, filter-same, list_any-agree, list_any-kept, list_any_after}
use Rattle.wm_collections.specs.Sets.{has_number, IsListOf, AreAdded}
use Rattle.wm_machine.proofs.Runnings.{WorksAscend-in_order}
use Rattle.wm_machine.specs.Group.{numbers_in}
use Rattle.wm_machine.specs.Valid.{IsBefore}
use Rattle.wm_machine.specs.declared.record.Record.{Record}
use Rattle.wm_settings.specs.WorkSets.{HasNumbersOf}
use Rattle.wm_steps.proofs.Tests.{any-swap}

-- ---- one after another

-- what was asked for so far finds these numbers
abbrev pub IsFoundBy : {T : Type 0} → (T → List ℕ) → List T → BTreeSet ℕ → Type 0
IsFoundBy found asked numbers = (number : ℕ) → has_number numbers number ≡ list_any (λ x. is_among (found x) number) asked

-- with one more
pub found-more : {T : Type 0} (found : T → List ℕ) (asked : List T) (i : ℕ) (one : T) → i < length asked → one ≡ get_or asked i one
    → (old new : BTreeSet ℕ) → IsFoundBy found (take i asked) old → AreAdded (found one) old new → IsFoundBy found (take (i + 1) asked) new
found-more found asked i one within is old new so_far added = λ number.
    added number ∙ ap (λ b. b || is_among (found one) number) (so_far number)
    ∙ ap (λ x. list_any (λ y. is_among (found y) number) (take i asked) || is_among (found x) number) is
    ∙ sym (list_any_more (λ x. is_among (found x) number) asked i one within)

-- ---- all that are found

and-any : {T : Type 0} (b : Bool) (test : T → Bool) (xs : List T) → list_any (λ x. b && test x) xs ≡ (b && list_any test xs)
and-any true test xs = refl
and-any false test [] = refl
and-any false test (x ∷ xs) = and-any false test xs

among-filter : (test : Record → Bool) (works : List Record) (number : ℕ)
    → is_among (numbers_in (filter test works)) number ≡ list_any (λ (work : Record). work.seq == number && test work) works
among-filter test works number =
    list_any_after (λ one. one == number) (λ (work : Record). work.seq) (filter test works)
    ∙ list_any-kept (λ (work : Record). work.seq == number) test works

-- a number is found where it is one of a work that has one of what is asked for
among-any : {T : Type 0} (test : T → Record → Bool) (asked : List T) (works : List Record) (number : ℕ)
    → list_any (λ x. is_among (numbers_in (filter (test x) works)) number) asked
    ≡ is_among (numbers_in (filter (λ work. list_any (λ x. test x work) asked) works)) number
among-any test asked works number =
    list_any-agree (λ x. is_among (numbers_in (filter (test x) works)) number) (λ x. list_any (λ (work : Record). work.seq == number && test x work) works) asked
    (All-any asked (λ x. among-filter (test x) works number))
    ∙ any-swap (λ x (work : Record). work.seq == number && test x work) asked works
    ∙ list_any-agree (λ (work : Record). list_any (λ x. work.seq == number && test x work) asked)
    (λ (work : Record). work.seq == number && list_any (λ x. test x work) asked) works
    (All-any works (λ work. and-any (work.seq == number) (λ x. test x work) asked))
    ∙ sym (among-filter (λ work. list_any (λ x. test x work) asked) works number)

-- so the set has the numbers of all these works
pub found-all : {T : Type 0} (test : T → Record → Bool) (asked : List T) (i : ℕ) (works : List Record) (numbers : BTreeSet ℕ) → length asked ≤ i
    → IsFoundBy (λ x. numbers_in (filter (test x) works)) (take i asked) numbers
    → HasNumbersOf (filter (λ work. list_any (λ x. test x work) asked) works) numbers
found-all test asked i works numbers whole found = λ number.
    found number ∙ ap (list_any (λ x. is_among (numbers_in (filter (test x) works)) number)) (take_all i asked whole)
    ∙ among-any test asked works number

-- and its list is theirs
pub listed-are : (test : Record → Bool) (works : List Record) (numbers : BTreeSet ℕ) (list : List ℕ) → AllLater IsBefore works → IsListOf numbers list
    → HasNumbersOf (filter test works) numbers → list ≡ numbers_in (filter test works)
listed-are test works numbers list order is has =
    ascending-same list (numbers_in (filter test works)) is.ascending
    (AllLater-map (λ one later. one < later) (λ (work : Record). work.seq) (filter test works) (λ x y less. less)
    (AllLater-filter (λ one later. one.seq < later.seq) test works (WorksAscend-in_order works order)))
    (λ number. is.each number ∙ has number)

-- ---- by an id

either : (a b : Bool) → (a ≡ true → b ≡ true) → (b ≡ true → a ≡ true) → a ≡ b
either true b one other = sym (one refl)
either false true one other = other refl
either false false one other = refl

pub bytes-swap : (one other : List ℕ) → bytes_eq one other ≡ bytes_eq other one
bytes-swap one other =
    either (bytes_eq one other) (bytes_eq other one) (λ e. (bytes_eq-Decides other one).1 (sym ((bytes_eq-Decides one other).0 e)))
    (λ e. (bytes_eq-Decides one other).1 (sym ((bytes_eq-Decides other one).0 e)))

-- the works of an id, whichever of the two ids comes first
pub ids-swap : (works : List Record) (id : List ℕ)
    → numbers_in (filter (λ work. bytes_eq work.request.id id) works) ≡ numbers_in (filter (λ work. bytes_eq id work.request.id) works)
ids-swap works id =
    ap numbers_in (filter-same (λ (work : Record). bytes_eq work.request.id id) (λ (work : Record). bytes_eq id work.request.id) works
    (All-any works (λ work. bytes-swap work.request.id id)))
