-- Works that are looked up by their numbers, among records in ascending number.
use Rattle.std.proofs.Common.{◌≡◌, ◌||◌, ◌&&◌, ℕ, ◌<◌, Bool, true, false, cond, List, [], ◌∷◌, filter, find, Option, Some, None, option_map, refl, sym, ◌∙◌, ap, arith}
use Rattle.std.specs.List.{AllByRecursion, list_any}
use Rattle.std.proofs.lemmas.Bool.{eq-eqb, ne_eqb, or_left}
use Rattle.wm_collections.specs.Lists.{AllLater, is_among}
use Rattle.wm_collections.proofs.Lists.{All-find, All-kept, All-with2, filter-same}
use Rattle.wm_machine.proofs.Runnings.{WorksAscend, WorksAscend-in_order}
use Rattle.wm_machine.specs.Group.{numbers_in}
use Rattle.wm_machine.specs.Input.{work_numbered}
use Rattle.wm_machine.specs.Valid.{IsBefore}
use Rattle.wm_machine.specs.declared.record.Record.{Record}
use Rattle.wm_unique.specs.Plans.{AreNumbersOf, grouped, numbered_passes, passes}

-- ---- each work is found by its number

abbrev AreFound : List Record → List Record → Type 0
AreFound works members = AllByRecursion (λ member. work_numbered member.seq works ≡ Some member) members

found-first : (work : Record) (works : List Record) → work_numbered work.seq (work ∷ works) ≡ Some work
found-first work works = let hit = eq-eqb work.seq work.seq refl in rw hit refl

found-later : (work later : Record) (works : List Record) → work.seq < later.seq → work_numbered later.seq works ≡ Some later
    → work_numbered later.seq (work ∷ works) ≡ Some later
found-later work later works below found = let miss = ne_eqb work.seq later.seq (λ e. absurd (omega arith)) in rw miss found

found_each : (works : List Record) → WorksAscend works → AreFound works works
found_each [] ascend = tt
found_each (work ∷ works) ascend = (
  found-first work works,
  All-with2 works (λ later below one. found-later work later works below one) ascend.0 (found_each works ascend.1),
)

found_grouped : (works : List Record) (numbers : List ℕ) → AllLater IsBefore works → AreFound works (grouped works numbers)
found_grouped works numbers in_order = All-kept _ (λ work. is_among numbers work.seq) works (found_each works (WorksAscend-in_order works in_order))

-- ---- what is asked of each number is asked of its work

passes-found : (test : Record → Bool) (works : List Record) (member : Record) → work_numbered member.seq works ≡ Some member
    → numbered_passes test works member.seq ≡ test member
passes-found test works member found = ap (passes test) found

any_found : (test : Record → Bool) (works members : List Record) → AreFound works members
    → list_any (numbered_passes test works) (numbers_in members) ≡ list_any test members
any_found test works [] found = refl
any_found test works (member ∷ members) found =
    ap (λ b. b || list_any (numbered_passes test works) (numbers_in members)) (passes-found test works member found.0)
    ∙ ap (λ b. test member || b) (any_found test works members found.1)

picked : (b : Bool) (member : Record) (number : Option ℕ) (found : Option Record) → number ≡ option_map (λ (work : Record). work.seq) found
    → cond b (Some member.seq) number ≡ option_map (λ (work : Record). work.seq) (cond b (Some member) found)
picked true member number found e = refl
picked false member number found e = e

find_found : (test : Record → Bool) (works members : List Record) → AreFound works members
    → find (numbered_passes test works) (numbers_in members) ≡ option_map (λ (work : Record). work.seq) (find test members)
find_found test works [] found = refl
find_found test works (member ∷ members) found =
    ap (λ b. cond b (Some member.seq) (find (numbered_passes test works) (numbers_in members))) (passes-found test works member found.0)
    ∙ picked (test member) member (find (numbered_passes test works) (numbers_in members)) (find test members) (find_found test works members found.1)

kept : (b : Bool) (member : Record) (numbers : List ℕ) (members : List Record) → numbers ≡ numbers_in members
    → cond b (member.seq ∷ numbers) numbers ≡ numbers_in (cond b (member ∷ members) members)
kept true member numbers members e = ap (λ list. member.seq ∷ list) e
kept false member numbers members e = e

filter_found : (test : Record → Bool) (works members : List Record) → AreFound works members
    → filter (numbered_passes test works) (numbers_in members) ≡ numbers_in (filter test members)
filter_found test works [] found = refl
filter_found test works (member ∷ members) found =
    let rest = filter (numbered_passes test works) (numbers_in members) in
    ap (λ b. cond b (member.seq ∷ rest) rest) (passes-found test works member found.0)
    ∙ kept (test member) member rest (filter test members) (filter_found test works members found.1)

module _ (test : Record → Bool) (works : List Record) (numbers : List ℕ) (in_order : AllLater IsBefore works) (are : AreNumbersOf works numbers) where
  -- one of the works of these numbers passes
  pub any_numbered : list_any (numbered_passes test works) numbers ≡ list_any test (grouped works numbers)
  any_numbered = ap (list_any (numbered_passes test works)) are ∙ any_found test works (grouped works numbers) (found_grouped works numbers in_order)

  -- the first of them that passes, by its number
  pub find_numbered : find (numbered_passes test works) numbers ≡ option_map (λ (work : Record). work.seq) (find test (grouped works numbers))
  find_numbered = ap (find (numbered_passes test works)) are ∙ find_found test works (grouped works numbers) (found_grouped works numbers in_order)

  -- those that pass, by their numbers
  pub filter_numbered : filter (numbered_passes test works) numbers ≡ numbers_in (filter test (grouped works numbers))
  filter_numbered = ap (filter (numbered_passes test works)) are ∙ filter_found test works (grouped works numbers) (found_grouped works numbers in_order)

found-by : (test : Record → Bool) (works members : List Record) (number : ℕ) (found : Option Record) → AreFound works members
    → find test members ≡ found → Some number ≡ option_map (λ (work : Record). work.seq) found → work_numbered number works ≡ found
found-by test works members number None all is has = absurd (cc)
found-by test works members number (Some member) all is has =
    let same : number ≡ member.seq = cc in
    ap (λ n. work_numbered n works) same ∙ All-find _ test members member is all

-- the work of the number of the first that passes is that work
pub numbered_found : (test : Record → Bool) (works : List Record) (numbers : List ℕ) (number : ℕ) → AllLater IsBefore works
    → Some number ≡ option_map (λ (work : Record). work.seq) (find test (grouped works numbers))
    → work_numbered number works ≡ find test (grouped works numbers)
numbered_found test works numbers number in_order has =
    found-by test works (grouped works numbers) number (find test (grouped works numbers)) (found_grouped works numbers in_order) refl has

-- ---- the works of the numbers of those that pass a test are those

none_among : (number : ℕ) (members : List Record) → AllByRecursion (λ work. number < work.seq) members → is_among (numbers_in members) number ≡ false
none_among number [] all = refl
none_among number (member ∷ members) all =
    let below = all.0 in
    ap (λ b. b || is_among (numbers_in members) number) (ne_eqb member.seq number (λ e. absurd (omega arith))) ∙ none_among number members all.1

among-first : (b : Bool) (work : Record) (members : List Record) → is_among (numbers_in members) work.seq ≡ false
    → is_among (numbers_in (cond b (work ∷ members) members)) work.seq ≡ b
among-first true work members none = or_left _ _ (eq-eqb work.seq work.seq refl)
among-first false work members none = none

among-later : (b : Bool) (work later : Record) (members : List Record) → work.seq < later.seq
    → is_among (numbers_in (cond b (work ∷ members) members)) later.seq ≡ is_among (numbers_in members) later.seq
among-later true work later members below = ap (λ b. b || is_among (numbers_in members) later.seq) (ne_eqb work.seq later.seq (λ e. absurd (omega arith)))
among-later false work later members below = refl

-- a number is among those of the works that pass where its work does
pub among_filter : (test : Record → Bool) (works : List Record) → WorksAscend works
    → AllByRecursion (λ work. is_among (numbers_in (filter test works)) work.seq ≡ test work) works
among_filter test [] ascend = tt
among_filter test (work ∷ works) ascend =
    let rest = filter test works in (
      among-first (test work) work rest (none_among work.seq rest (All-kept _ test works ascend.0)),
      All-with2 works (λ later below among. among-later (test work) work later rest below ∙ among) ascend.0 (among_filter test works ascend.1),
    )

-- the works of the numbers of a group are the group
pub grouped_filter : (test : Record → Bool) (works : List Record) → AllLater IsBefore works → grouped works (numbers_in (filter test works)) ≡ filter test works
grouped_filter test works in_order =
    filter-same (λ work. is_among (numbers_in (filter test works)) work.seq) test works (among_filter test works (WorksAscend-in_order works in_order))

-- and so its numbers are numbers of works
pub numbers_filter : (test : Record → Bool) (works : List Record) → AllLater IsBefore works → AreNumbersOf works (numbers_in (filter test works))
numbers_filter test works in_order = sym (ap numbers_in (grouped_filter test works in_order))

filter-twice : {T : Type 0} (test : T → Bool) (b : Bool) (x : T) (xs ys : List T) → filter test xs ≡ ys
    → filter test (cond b (x ∷ xs) xs) ≡ cond (b && test x) (x ∷ ys) ys
filter-twice test true x xs ys e = ap (λ list. cond (test x) (x ∷ list) list) e
filter-twice test false x xs ys e = e

-- what passes two tests, one after the other
pub filter_both : {T : Type 0} (one other : T → Bool) (xs : List T) → filter other (filter one xs) ≡ filter (λ x. one x && other x) xs
filter_both one other [] = refl
filter_both one other (x ∷ xs) = filter-twice other (one x) x (filter one xs) (filter (λ x. one x && other x) xs) (filter_both one other xs)

-- the works of the numbers of those that pass another test, too
pub grouped_part : (test : Record → Bool) (works : List Record) (numbers : List ℕ) → AllLater IsBefore works
    → grouped works (numbers_in (filter test (grouped works numbers))) ≡ filter test (grouped works numbers)
grouped_part test works numbers in_order =
    let both = filter_both (λ work. is_among numbers work.seq) test works in
    ap (λ list. grouped works (numbers_in list)) both ∙ grouped_filter (λ work. is_among numbers work.seq && test work) works in_order ∙ sym both

-- a test of the numbers is one of the works
pub numbers_passing : (test : ℕ → Bool) (members : List Record) → filter test (numbers_in members) ≡ numbers_in (filter (λ work. test work.seq) members)
numbers_passing test [] = refl
numbers_passing test (member ∷ members) =
    kept (test member.seq) member (filter test (numbers_in members)) (filter (λ work. test work.seq) members) (numbers_passing test members)

-- none has a number
pub none_found : (found : Option Record) → None ≡ option_map (λ (work : Record). work.seq) found → None ≡ found
none_found None none = refl
none_found (Some member) none = absurd (cc)
