-- The last works of a unique name: they have its leaves, and what comes after them tells how far they can be taken back.
use Rattle.std.proofs.Common.{◌≡◌, ℕ, zero, suc, ◌+◌, ◌<◌, ◌≤◌, ◌&&◌, Bool, true, false, not, cond, eqb, ltb, List, [], ◌∷◌, drop, filter, get_or, length, refl, sym, ◌∙◌, ap, subst, arith, inl, inr}
use Rattle.std.specs.List.{AllByRecursion, list_any}
use Rattle.std.proofs.lemmas.Bool.{cases_Bool, eq-eqb, eqb-true, false≢true, ltb-false, ltb-true, or_cases}
use Rattle.std.proofs.lemmas.List.{drop_more}
use Rattle.std.proofs.lemmas.Option.{same_Some}
use Rattle.wm_collections.proofs.Lists.{All-from_filter, All-kept, All-map, All-passing, All-stored, All-weaker, All-with2, AllLater-filter, AllLater-map, any_passes, filter-same, HasOne-with, list_any_after, list_any-filter, list_any-kept, list_any-one, list_any-stored, map-filter, one_gives}
use Rattle.wm_collections.specs.Lists.{AllLater, HasOne, is_among, NumbersAscend}
use Rattle.wm_graph.specs.Descendants.{dependents}
use Rattle.wm_graph.specs.Nodes.{NodeFields}
use Rattle.wm_machine.proofs.Runnings.{WorksAscend, WorksAscend-in_order}
use Rattle.wm_machine.specs.Group.{is_name, is_prior_of, leaves_of, members_of, numbers_in}
use Rattle.wm_machine.specs.Input.{work_numbered}
use Rattle.wm_machine.specs.Valid.{Valid}
use Rattle.wm_machine.specs.declared.record.Record.{Record}
use Rattle.wm_machine.specs.declared.state.State.{State}
use Rattle.wm_steps.proofs.Moves.{numbered-stored}
use Rattle.wm_steps.specs.Covers.{members_from, AreLast, IsMark}
use Rattle.wm_changes.specs.Nodes.{is_there, node_of, nodes_of}

-- ---- the leaves

-- what passes two tests, one after the other
filter-then : {T : Type 0} (one other : T → Bool) (xs : List T) → filter other (filter one xs) ≡ filter (λ x. one x && other x) xs
filter-then one other [] = refl
filter-then {T} one other (x ∷ xs) =
    let rest = filter-then one other xs in
    elim (cases_Bool (one x)) as (λ _. filter other (filter one (x ∷ xs)) ≡ filter (λ y. one y && other y) (x ∷ xs)) [
      | inl is ↦ rw is (ap (λ (list : List T). cond (other x) (x ∷ list) list) rest)
      | inr isnt ↦ rw isnt rest
    ]

-- each prerequisite has a smaller number
abbrev pub NameEarlier : List Record → Type 0
NameEarlier works = AllByRecursion (λ work. AllByRecursion (λ number. number < work.seq) work.prior) works

pub names-earlier : (s : State) (name : List ℕ) → Valid s → NameEarlier (members_of s.works name)
names-earlier s name valid =
    All-kept _ (λ work. is_name name work.name) s.works
    (All-weaker s.works (λ work is. All-weaker work.prior (λ n both. both.1) is.prior.earlier) valid.works.records)

below : (bound number : ℕ) (numbers : List ℕ) → AllByRecursion (λ n. n < bound) numbers → is_among numbers number ≡ true → number < bound
below bound number numbers all among =
    one_gives numbers (λ n less is. let same = eqb-true n number is in omega (arith, less, same)) all (any_passes (λ n. eqb n number) numbers among)

not-among : (bound number : ℕ) (numbers : List ℕ) → AllByRecursion (λ n. n < bound) numbers → bound ≤ number → is_among numbers number ≡ false
not-among bound number numbers all more =
    elim (cases_Bool (is_among numbers number)) as (λ _. is_among numbers number ≡ false) [
      | inl is ↦ (let less = below bound number numbers all is in absurd (omega (arith, less, more)))
      | inr isnt ↦ isnt
    ]

and-left : (a b : Bool) → (a && b) ≡ true → a ≡ true
and-left true b both = refl
and-left false b both = both

AllLater-drop : {T : Type 0} (R : T → T → Type 0) (xs : List T) (i : ℕ) → AllLater R xs → AllLater R (drop i xs)
AllLater-drop R [] zero later = tt
AllLater-drop R [] (suc i) later = tt
AllLater-drop R (x ∷ xs) zero later = later
AllLater-drop R (x ∷ xs) (suc i) later = AllLater-drop R xs i later.1

All-dropped : {T : Type 0} (P : T → Type 0) (xs : List T) (i : ℕ) → AllByRecursion P xs → AllByRecursion P (drop i xs)
All-dropped P [] zero all = tt
All-dropped P [] (suc i) all = tt
All-dropped P (x ∷ xs) zero all = all
All-dropped P (x ∷ xs) (suc i) all = All-dropped P xs i all.1

before-mark : (b : Bool) (n mark : ℕ) → (not b ≡ true → mark ≤ n) → ltb n mark ≡ true → false ≡ not b
before-mark true n mark leaf less = refl
before-mark false n mark leaf less = let more = leaf refl in let is = ltb-true n mark less in absurd (omega (arith, more, is))

module _ (mark : ℕ) (members : List Record) (earlier : NameEarlier members) where
  -- what comes after a member from the mark on is there itself
  prior-from : (work : Record) → ltb work.seq mark ≡ false → is_prior_of (members_from mark members) work ≡ is_prior_of members work
  prior-from work from =
      let more = ltb-false work.seq mark from in
      list_any-filter (λ member. is_among member.prior work.seq) (λ member. not (ltb member.seq mark)) members
      (All-weaker members (λ member names gone. elim (cases_Bool (ltb member.seq mark)) as (λ _. is_among member.prior work.seq ≡ false) [
        | inl is ↦ (let less = ltb-true member.seq mark is in not-among member.seq work.seq member.prior names (omega (arith, more, less)))
        | inr isnt ↦ absurd (false≢true (sym gone ∙ ap not isnt))
      ]) earlier)

  agrees : (work : Record) → (not (is_prior_of members work) ≡ true → mark ≤ work.seq)
      → (not (ltb work.seq mark) && not (is_prior_of (members_from mark members) work)) ≡ not (is_prior_of members work)
  agrees work leaf =
      elim (cases_Bool (ltb work.seq mark)) as (λ _. (not (ltb work.seq mark) && not (is_prior_of (members_from mark members) work)) ≡ not (is_prior_of members work)) [
        | inl is ↦ ap (λ b. not b && not (is_prior_of (members_from mark members) work)) is ∙ before-mark (is_prior_of members work) work.seq mark leaf is
        | inr isnt ↦ ap (λ b. not b && not (is_prior_of (members_from mark members) work)) isnt ∙ ap not (prior-from work isnt)
      ]

  -- where no leaf comes before a number, the members from it on have the leaves
  pub leaves-from : AllByRecursion (λ leaf. mark ≤ leaf.seq) (leaves_of members) → leaves_of (members_from mark members) ≡ leaves_of members
  leaves-from above =
      filter-then (λ work. not (ltb work.seq mark)) (λ work. not (is_prior_of (members_from mark members) work)) members
      ∙ filter-same (λ work. not (ltb work.seq mark) && not (is_prior_of (members_from mark members) work)) (λ work. not (is_prior_of members work)) members
      (All-weaker members (λ work leaf. agrees work leaf)
      (All-from_filter (λ work. mark ≤ work.seq) (λ work. not (is_prior_of members work)) members above))

-- the numbers from one on are those of the members from it on
pub members-numbered : (mark : ℕ) (members : List Record)
    → filter (λ number. not (ltb number mark)) (numbers_in members) ≡ numbers_in (members_from mark members)
members-numbered mark members = sym (map-filter (λ (work : Record). work.seq) (λ number. not (ltb number mark)) members)

pub members-ascend : (s : State) (name : List ℕ) (numbers : List ℕ) → Valid s → numbers ≡ numbers_in (members_of s.works name) → NumbersAscend numbers
members-ascend s name numbers valid are =
    subst NumbersAscend (sym are)
    (AllLater-map (λ one later. one < later) (λ (work : Record). work.seq) (members_of s.works name) (λ x y less. less)
    (AllLater-filter (λ one later. one.seq < later.seq) (λ work. is_name name work.name) s.works (WorksAscend-in_order s.works valid.works.in_order)))

-- so they are the last
pub last-are : (s : State) (name : List ℕ) (mark : ℕ) (numbers : List ℕ) → Valid s → IsMark s name mark
    → numbers ≡ numbers_in (members_from mark (members_of s.works name)) → AreLast (members_of s.works name) numbers
last-are s name mark numbers valid is are = record {
  mark = mark;
  are = are;
  leaves = leaves-from mark (members_of s.works name) (names-earlier s name valid) is.leaves;
}

-- ---- what is asked of the last members

module _ (s : State) (name : List ℕ) (numbers : List ℕ) (valid : Valid s) (last : AreLast (members_of s.works name) numbers) where
  abbrev works : List Record
  works = s.works

  abbrev members : List Record
  members = members_of works name

  abbrev those : List Record
  those = members_from last.mark members

  ascend : WorksAscend works
  ascend = WorksAscend-in_order works valid.works.in_order

  pub last-ascend : NumbersAscend numbers
  last-ascend =
      subst NumbersAscend (sym last.are)
      (AllLater-map (λ one later. one < later) (λ (work : Record). work.seq) those (λ x y less. less)
      (AllLater-filter (λ one later. one.seq < later.seq) (λ work. not (ltb work.seq last.mark)) members
      (AllLater-filter (λ one later. one.seq < later.seq) (λ work. is_name name work.name) works ascend)))

  -- each leaf is among them
  pub leaves-among : AllByRecursion (λ leaf. is_among numbers leaf.seq ≡ true) (leaves_of members)
  leaves-among =
      subst (λ (leaves : List Record). AllByRecursion (λ leaf. is_among numbers leaf.seq ≡ true) leaves) last.leaves
      (All-kept _ (λ work. not (is_prior_of those work)) those
      (All-weaker those (λ work stored.
      ap (λ list. is_among list work.seq) last.are ∙ list_any_after (λ one. eqb one work.seq) (λ (w : Record). w.seq) those
      ∙ list_any-stored (λ (w : Record). eqb w.seq work.seq) those work stored (eq-eqb work.seq work.seq refl)) (All-stored those)))

  -- one of them is a member
  stored-members : AllByRecursion (λ member. HasOne (λ y. y ≡ member) works × (is_name name member.name ≡ true)) those
  stored-members =
      All-kept _ (λ work. not (ltb work.seq last.mark)) members
      (All-with2 members (λ work stored named. (stored, named)) (All-kept _ (λ work. is_name name work.name) works (All-stored works))
      (All-passing (λ work. is_name name work.name) works))

  listed-named : (work : Record) → HasOne (λ y. y ≡ work) works → is_among numbers work.seq ≡ true → is_name name work.name ≡ true
  listed-named work stored among =
      let listed : list_any (λ (w : Record). eqb w.seq work.seq) those ≡ true =
      sym (ap (λ list. is_among list work.seq) last.are ∙ list_any_after (λ one. eqb one work.seq) (λ (w : Record). w.seq) those) ∙ among in
      one_gives those (λ member both is.
      let number = eqb-true member.seq work.seq is in
      let same : member ≡ work =
      same_Some member work (sym (numbered-stored works member ascend both.0) ∙ ap (λ n. work_numbered n works) number ∙ numbered-stored works work ascend stored) in
      subst (λ (w : Record). is_name name w.name ≡ true) same both.1) stored-members (any_passes (λ (w : Record). eqb w.seq work.seq) those listed)

  named-after : (number : ℕ) (work : Record) → HasOne (λ y. y ≡ work) works
      → (is_among numbers work.seq && is_among (filter (is_there works) work.prior) number) ≡ true → (is_among work.prior number && is_name name work.name) ≡ true
  named-after number work stored both = after (is_among numbers work.seq) refl both
    where
      kept : is_among (filter (is_there works) work.prior) number ≡ true → is_among work.prior number ≡ true
      kept is =
          list_any-one (λ n. eqb n number) work.prior
          (HasOne-with work.prior (λ n u both. and-left (eqb n number) (is_there works n) both) (All-stored work.prior)
          (any_passes (λ n. eqb n number && is_there works n) work.prior (sym (list_any-kept (λ n. eqb n number) (is_there works) work.prior) ∙ is)))

      after : (b : Bool) → is_among numbers work.seq ≡ b → (b && is_among (filter (is_there works) work.prior) number) ≡ true
          → (is_among work.prior number && is_name name work.name) ≡ true
      after true is rest = rw (kept rest) (listed-named work stored is)
      after false is rest = absurd (false≢true rest)

  -- a number of which one comes after is that of a prerequisite of a member
  pub prior-known : (number : ℕ) → list_any (is_among numbers) (dependents (nodes_of works) number) ≡ true
      → list_any (λ member. is_among member.prior number) members ≡ true
  prior-known number found =
      let nodes = filter (λ (node : NodeFields). is_among node.before number) (nodes_of works) in
      let one : list_any (λ (work : Record). is_among numbers work.seq && is_among (filter (is_there works) work.prior) number) works ≡ true =
      sym (list_any_after (is_among numbers) (λ (node : NodeFields). node.seq) nodes
      ∙ list_any-kept (λ (node : NodeFields). is_among numbers node.seq) (λ (node : NodeFields). is_among node.before number) (nodes_of works)
      ∙ list_any_after (λ (node : NodeFields). is_among numbers node.seq && is_among node.before number) (node_of works) works) ∙ found in
      list_any-kept (λ (member : Record). is_among member.prior number) (λ work. is_name name work.name) works
      ∙ list_any-one (λ (work : Record). is_among work.prior number && is_name name work.name) works
      (HasOne-with works (λ work stored both. named-after number work stored both) (All-stored works)
      (any_passes (λ (work : Record). is_among numbers work.seq && is_among (filter (is_there works) work.prior) number) works one))

  -- ---- up to the first that isn't a prerequisite

  abbrev HaveLeaves : List ℕ → Type 0
  HaveLeaves list = AllByRecursion (λ leaf. is_among list leaf.seq ≡ true) (leaves_of members)

  passed : (number : ℕ) (rest : List ℕ) → list_any (λ member. is_among member.prior number) members ≡ true → HaveLeaves (number ∷ rest) → HaveLeaves rest
  passed number rest prior all =
      All-with2 (leaves_of members) (λ leaf among last. elim (or_cases (eqb number leaf.seq) (is_among rest leaf.seq) among) as (λ _. is_among rest leaf.seq ≡ true) [
        | inl is ↦
            (let same = eqb-true number leaf.seq is in
            absurd (false≢true (ap not (sym prior) ∙ ap (λ n. not (list_any (λ (member : Record). is_among member.prior n) members)) same ∙ last)))
        | inr later ↦ later
      ]) all (All-passing (λ work. not (is_prior_of members work)) members)

  -- one more is passed
  pub leaves-past : (i : ℕ) → i < length numbers → list_any (is_among numbers) (dependents (nodes_of works) (get_or numbers i 0)) ≡ true
      → HaveLeaves (drop i numbers) → HaveLeaves (drop (i + 1) numbers)
  leaves-past i within found all =
      passed (get_or numbers i 0) (drop (i + 1) numbers) (prior-known (get_or numbers i 0) found) (subst HaveLeaves (drop_more numbers i 0 within) all)

  from-first : (number : ℕ) (rest : List ℕ) (n : ℕ) → NumbersAscend (number ∷ rest) → is_among (number ∷ rest) n ≡ true → number ≤ n
  from-first number rest n order among = elim (or_cases (eqb number n) (is_among rest n) among) as (λ _. number ≤ n) [
    | inl is ↦ (let same = eqb-true number n is in omega (arith, same))
    | inr later ↦
        one_gives rest (λ m less is. let same = eqb-true m n is in omega (arith, less, same)) order.0 (any_passes (λ m. eqb m n) rest later)
  ]

  numbers-below : AllByRecursion (λ n. n < s.next) numbers
  numbers-below =
      subst (λ list. AllByRecursion (λ n. n < s.next) list) (sym last.are)
      (All-map _ (λ (work : Record). work.seq) those (λ work less. less)
      (All-kept _ (λ work. not (ltb work.seq last.mark)) members (All-kept _ (λ work. is_name name work.name) works valid.works.numbers)))

  -- the first that is left may be the mark
  pub mark-first : (i : ℕ) → i < length numbers → HaveLeaves (drop i numbers) → IsMark s name (get_or numbers i 0)
  mark-first i within all =
      let number = get_or numbers i 0 in
      let rest = drop (i + 1) numbers in
      let split = drop_more numbers i 0 within in
      let order = subst NumbersAscend split (AllLater-drop (λ one later. one < later) numbers i last-ascend) in
      let less = (subst (λ list. AllByRecursion (λ n. n < s.next) list) split (All-dropped (λ n. n < s.next) numbers i numbers-below)).0 in
      record {
        leaves = All-weaker (leaves_of members) (λ leaf among. from-first number rest leaf.seq order among) (subst HaveLeaves split all);
        next = omega (arith, less);
      }
