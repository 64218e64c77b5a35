-- The list of the works after one is added, taken away or changed, and what is found in it.
use Rattle.std.proofs.Common.{◌≡◌, ℕ, ◌<◌, ◌==◌, ◌&&◌, ◌||◌, Bool, true, false, not, cond, List, [], ◌∷◌, filter, find, is_none, is_some, refl, sym, ap, subst, ◌∙◌, arith, inl, inr, Option, Some, None, option_map}
use Rattle.std.proofs.Math.Bool.{or-false}
use Rattle.std.proofs.lemmas.Bool.{and_from, and_right, cases_Bool, eq-eqb, eqb-true, false≢true, ne_eqb, or_left, or_parts, or_right}
use Rattle.std.proofs.lemmas.Bool.Decides.{nat_tests}
use Rattle.std.proofs.lemmas.Map.Keys.{sorted_head, sorted_tail}
use Rattle.std.specs.BTreeMap.{insert_entry, is_at}
use Rattle.std.specs.List.{AllByRecursion, list_any}
use Rattle.std.specs.List.Sorted.{IsStrictlySortedBy}
use Rattle.std.specs.Map.{keys_of, remove_entry, set_value}
use Rattle.std.specs.Option.{option_map_or}
use Rattle.std.specs.Ordering.{nat_cmp}
use Rattle.std.specs.Prelude.{nat_lt}
use Rattle.std.specs.declared.cmp.Ordering.TheVariants.{Greater, Less}
use Rattle.wm_collections.specs.Lists.{is_among}
use Rattle.wm_collections.proofs.Lists.{All-weaker, AllLater-filter, AllLater-map, filter-each, find-fails, list_any-false, list_any-kept, list_any_after}
use Rattle.wm_index.specs.Entries.{changed_at, has_seq, has_unidentified, identified, numbers_of, with_entry, without, Entry}
use Rattle.wm_collections.specs.Lists.{NumbersAscend}
use Rattle.wm_index.specs.Works.{at, entries_of, entry_of, AreAscending, Kept}
use Rattle.wm_collections.proofs.Ascending.{ascending-same}
use Rattle.wm_index.proofs.Bools.{same-test}

less-is : (a b : ℕ) → nat_cmp a b ≡ Less → a < b
less-is a b is = grind (arith, nat_tests)

above-keys : (seq : ℕ) (works : List (ℕ × Kept)) → AllByRecursion (λ key. nat_cmp seq key ≡ Less) (keys_of works) → AllByRecursion (λ entry. seq < entry.seq) (entries_of works)
above-keys seq [] above = tt
above-keys seq (work ∷ works) above = (less-is seq work.0 above.0, above-keys seq works above.1)

-- keys in order are numbers in order
pub sorted-ascends : (works : List (ℕ × Kept)) → IsStrictlySortedBy nat_cmp (keys_of works) → AreAscending (entries_of works)
sorted-ascends [] sorted = tt
sorted-ascends (work ∷ works) sorted =
    (above-keys work.0 works (sorted_head nat_cmp work.0 (keys_of works) sorted), sorted-ascends works (sorted_tail nat_cmp work.0 (keys_of works) sorted))

-- ---- one more

is-greater : (seq key : ℕ) → nat_lt seq key ≡ false → (key == seq) ≡ false → nat_cmp seq key ≡ Greater
is-greater seq key less same = grind (arith, nat_tests)

is-less : (seq key : ℕ) → nat_lt seq key ≡ true → nat_cmp seq key ≡ Less
is-less seq key less = grind (arith, nat_tests)

pub inserted : (seq : ℕ) (kept : Kept) (works : List (ℕ × Kept)) → has_seq (entries_of works) seq ≡ false
    → entries_of (insert_entry nat_cmp works seq kept) ≡ with_entry (entry_of (seq, kept)) (entries_of works)
inserted seq kept [] absent = refl
inserted seq kept (work ∷ works) absent =
    let parts = or_parts (work.0 == seq) (has_seq (entries_of works) seq) absent in
    elim (cases_Bool (nat_lt seq work.0))
    as (λ _. entries_of (insert_entry nat_cmp (work ∷ works) seq kept) ≡ with_entry (entry_of (seq, kept)) (entries_of (work ∷ works))) [
      | inl less ↦ rw (is-less seq work.0 less, less) refl
      | inr more ↦ rw (is-greater seq work.0 more parts.0, more) (ap (λ rest. entry_of work ∷ rest) (inserted seq kept works parts.1))
    ]

pub absent-none : (seq : ℕ) (works : List (ℕ × Kept)) → has_seq (entries_of works) seq ≡ false → at works seq ≡ None
absent-none seq [] absent = refl
absent-none seq (work ∷ works) absent =
    let parts = or_parts (work.0 == seq) (has_seq (entries_of works) seq) absent in
    rw (same-test seq work.0, parts.0) (absent-none seq works parts.1)

pub none-absent : (seq : ℕ) (works : List (ℕ × Kept)) → at works seq ≡ None → has_seq (entries_of works) seq ≡ false
none-absent seq [] none = refl
none-absent seq (work ∷ works) none =
    elim (cases_Bool (work.0 == seq)) as (λ _. has_seq (entries_of (work ∷ works)) seq ≡ false) [
      | inl here ↦ (let some : Some work.1 ≡ None = rw (same-test seq work.0, here) at none in absurd cc)
      | inr other ↦ (let rest : at works seq ≡ None = rw (same-test seq work.0, other) at none in rw other (none-absent seq works rest))
    ]

-- a search for a number finds whether it is there
pub is-there : (seq : ℕ) (works : List (ℕ × Kept)) → is_some (at works seq) ≡ has_seq (entries_of works) seq
is-there seq [] = refl
is-there seq (work ∷ works) =
    elim (cases_Bool (work.0 == seq)) as (λ _. is_some (at (work ∷ works) seq) ≡ has_seq (entries_of (work ∷ works)) seq) [
      | inl here ↦ rw (same-test seq work.0, here) refl
      | inr other ↦ rw (same-test seq work.0, other) (is-there seq works)
    ]

some-of : (found : Option Kept) → (found ≡ None → ⊥) → (kept : Kept) × (found ≡ Some kept)
some-of None none = absurd (none refl)
some-of (Some kept) none = (kept, refl)

pub there-some : (seq : ℕ) (works : List (ℕ × Kept)) → has_seq (entries_of works) seq ≡ true → (kept : Kept) × (at works seq ≡ Some kept)
there-some seq works there = some-of (at works seq) (λ none. false≢true (sym (none-absent seq works none) ∙ there))

-- ---- one less, and one that is changed

module _ (seq : ℕ) where
  apart : (entries : List Entry) → AllByRecursion (λ entry. seq < entry.seq) entries → AllByRecursion (λ entry. (entry.seq == seq) ≡ false) entries
  apart entries above = All-weaker entries (λ entry less. ne_eqb entry.seq seq (λ e. absurd (omega (arith, less, e)))) above

  above-from : (work : ℕ × Kept) (entries : List Entry) → (work.0 == seq) ≡ true → AllByRecursion (λ entry. work.0 < entry.seq) entries
      → AllByRecursion (λ entry. (entry.seq == seq) ≡ false) entries
  above-from work entries here above = apart entries (subst (λ n. AllByRecursion (λ entry. n < entry.seq) entries) (eqb-true work.0 seq here) above)

  pub removed : (works : List (ℕ × Kept)) → AreAscending (entries_of works) → entries_of (remove_entry (is_at (nat_cmp seq)) works) ≡ without seq (entries_of works)
  removed [] up = refl
  removed (work ∷ works) up =
      elim (cases_Bool (work.0 == seq)) as (λ _. entries_of (remove_entry (is_at (nat_cmp seq)) (work ∷ works)) ≡ without seq (entries_of (work ∷ works))) [
        | inl here ↦ rw (same-test seq work.0, here)
            (sym (filter-each (λ entry. not (entry.seq == seq)) (entries_of works) (All-weaker (entries_of works) (λ entry e. ap not e) (above-from work (entries_of works) here up.0))))
        | inr other ↦ rw (same-test seq work.0, other) (ap (λ rest. entry_of work ∷ rest) (removed works up.1))
      ]

  -- none is there to take away
  pub none-removed : (works : List (ℕ × Kept)) → at works seq ≡ None → without seq (entries_of works) ≡ entries_of works
  none-removed [] none = refl
  none-removed (work ∷ works) none =
      elim (cases_Bool (work.0 == seq)) as (λ _. without seq (entries_of (work ∷ works)) ≡ entries_of (work ∷ works)) [
        | inl here ↦ (let some : Some work.1 ≡ None = rw (same-test seq work.0, here) at none in absurd cc)
        | inr other ↦
            (let rest : at works seq ≡ None = rw (same-test seq work.0, other) at none in
            rw other (ap (λ rest. entry_of work ∷ rest) (none-removed works rest)))
      ]

  module _ (change : Entry → Entry) where
    unchanged : (entries : List Entry) → AllByRecursion (λ entry. (entry.seq == seq) ≡ false) entries → changed_at change seq entries ≡ entries
    unchanged [] others = refl
    unchanged (entry ∷ entries) others = rw (others.0) (ap (λ rest. entry ∷ rest) (unchanged entries others.1))

    pub none-changed : (works : List (ℕ × Kept)) → at works seq ≡ None → changed_at change seq (entries_of works) ≡ entries_of works
    none-changed [] none = refl
    none-changed (work ∷ works) none =
        elim (cases_Bool (work.0 == seq)) as (λ _. changed_at change seq (entries_of (work ∷ works)) ≡ entries_of (work ∷ works)) [
          | inl here ↦ (let some : Some work.1 ≡ None = rw (same-test seq work.0, here) at none in absurd cc)
          | inr other ↦
              (let rest : at works seq ≡ None = rw (same-test seq work.0, other) at none in
              rw other (ap (λ rest. entry_of work ∷ rest) (none-changed works rest)))
        ]

    pub set-changed : (kept new : Kept) → entry_of (seq, new) ≡ change (entry_of (seq, kept)) → (works : List (ℕ × Kept)) → AreAscending (entries_of works)
        → at works seq ≡ Some kept → entries_of (set_value (is_at (nat_cmp seq)) works new) ≡ changed_at change seq (entries_of works)
    set-changed kept new is [] up found = absurd cc
    set-changed kept new is (work ∷ works) up found =
        elim (cases_Bool (work.0 == seq))
        as (λ _. entries_of (set_value (is_at (nat_cmp seq)) (work ∷ works) new) ≡ changed_at change seq (entries_of (work ∷ works))) [
          | inl here ↦
              (let first : Some work.1 ≡ Some kept = rw (same-test seq work.0, here) at found in
              let same : work.1 ≡ kept = cc in
              let number : work.0 ≡ seq = eqb-true work.0 seq here in
              let rest = unchanged (entries_of works) (above-from work (entries_of works) here up.0) in
              let head : entry_of (work.0, new) ≡ change (entry_of work) = ap (λ n. entry_of (n, new)) number ∙ is
              ∙ ap (λ k. change (entry_of (seq, k))) (sym same) ∙ ap (λ n. change (entry_of (n, work.1))) (sym number) in
              rw (same-test seq work.0, here, rest) (ap (λ entry. entry ∷ entries_of works) head))
          | inr other ↦
              (let rest : at works seq ≡ Some kept = rw (same-test seq work.0, other) at found in
              rw (same-test seq work.0, other) (ap (λ rest. entry_of work ∷ rest) (set-changed kept new is works up.1 rest)))
        ]

-- ---- one that comes without an id, and then gets it

absent-changed : (change : Entry → Entry) (seq : ℕ) (entries : List Entry) → has_seq entries seq ≡ false → changed_at change seq entries ≡ entries
absent-changed change seq [] absent = refl
absent-changed change seq (entry ∷ entries) absent =
    let parts = or_parts (entry.seq == seq) (has_seq entries seq) absent in
    rw (parts.0) (ap (λ rest. entry ∷ rest) (absent-changed change seq entries parts.1))

module _ (entry : Entry) where
  pub placed-there : is_none entry.id ≡ true → (entries : List Entry) → has_unidentified (with_entry entry entries) entry.seq ≡ true
  placed-there lacks [] = or_left _ _ (and_from _ _ (eq-eqb entry.seq entry.seq refl) lacks)
  placed-there lacks (other ∷ others) =
      elim (cases_Bool (nat_lt entry.seq other.seq)) as (λ _. has_unidentified (with_entry entry (other ∷ others)) entry.seq ≡ true) [
        | inl less ↦ rw less (or_left _ _ (and_from _ _ (eq-eqb entry.seq entry.seq refl) lacks))
        | inr more ↦ rw more (or_right _ _ (placed-there lacks others))
      ]

  pub placed-found : (test : Entry → Bool) → test entry ≡ false → (entries : List Entry) → find test (with_entry entry entries) ≡ find test entries
  placed-found test fails [] = rw fails refl
  placed-found test fails (other ∷ others) =
      elim (cases_Bool (nat_lt entry.seq other.seq)) as (λ _. find test (with_entry entry (other ∷ others)) ≡ find test (other ∷ others)) [
        | inl less ↦ rw (less, fails) refl
        | inr more ↦ rw more (ap (λ rest. cond (test other) (Some other) rest) (placed-found test fails others))
      ]

  pub placed-identified : (id : List ℕ) (entries : List Entry) → has_seq entries entry.seq ≡ false
      → changed_at (identified id) entry.seq (with_entry entry entries) ≡ with_entry (identified id entry) entries
  placed-identified id [] absent = rw (eq-eqb entry.seq entry.seq refl) refl
  placed-identified id (other ∷ others) absent =
      let parts = or_parts (other.seq == entry.seq) (has_seq others entry.seq) absent in
      elim (cases_Bool (nat_lt entry.seq other.seq))
      as (λ _. changed_at (identified id) entry.seq (with_entry entry (other ∷ others)) ≡ with_entry (identified id entry) (other ∷ others)) [
        | inl less ↦ rw (less, eq-eqb entry.seq entry.seq refl, parts.0) (ap (λ rest. identified id entry ∷ other ∷ rest) (absent-changed (identified id) entry.seq others parts.1))
        | inr more ↦ rw (more, parts.0) (ap (λ rest. other ∷ rest) (placed-identified id others parts.1))
      ]

-- ---- what is found

none-later : (test : Entry → Bool) (seq : ℕ) (entries : List Entry) → AllByRecursion (λ entry. (entry.seq == seq) ≡ false) entries
    → list_any (λ entry. entry.seq == seq && test entry) entries ≡ false
none-later test seq entries others = list_any-false (λ entry. entry.seq == seq && test entry) entries (All-weaker entries (λ entry e. rw e refl) others)

-- a test of the work of a number
pub at-any : (test : Entry → Bool) (seq : ℕ) (works : List (ℕ × Kept)) → AreAscending (entries_of works)
    → option_map_or (λ (kept : Kept). test (entry_of (seq, kept))) (at works seq) false ≡ list_any (λ entry. entry.seq == seq && test entry) (entries_of works)
at-any test seq [] up = refl
at-any test seq (work ∷ works) up =
    elim (cases_Bool (work.0 == seq)) as (λ _. option_map_or (λ (kept : Kept). test (entry_of (seq, kept))) (at (work ∷ works) seq) false
    ≡ list_any (λ entry. entry.seq == seq && test entry) (entries_of (work ∷ works))) [
      | inl here ↦
          (let later = none-later test seq (entries_of works) (above-from seq work (entries_of works) here up.0) in
          let number : seq ≡ work.0 = sym (eqb-true work.0 seq here) in
          rw (same-test seq work.0, here, later) (ap (λ n. test (entry_of (n, work.1))) number ∙ sym (or-false (test (entry_of work)))))
      | inr other ↦ rw (same-test seq work.0, other) (at-any test seq works up.1)
    ]

pub numbers-among : (test : Entry → Bool) (entries : List Entry) (number : ℕ)
    → is_among (numbers_of (filter test entries)) number ≡ list_any (λ entry. entry.seq == number && test entry) entries
numbers-among test entries number =
    list_any_after (λ one. one == number) (λ (entry : Entry). entry.seq) (filter test entries) ∙ list_any-kept (λ entry. entry.seq == number) test entries

-- the numbers in ascending order of the works of which a test holds
pub numbers-are : (test : Entry → Bool) (works : List (ℕ × Kept)) (numbers : List ℕ) → AreAscending (entries_of works) → NumbersAscend numbers
    → ((number : ℕ) → is_among numbers number ≡ option_map_or (λ (kept : Kept). test (entry_of (number, kept))) (at works number) false)
    → numbers ≡ numbers_of (filter test (entries_of works))
numbers-are test works numbers up ascending are =
    ascending-same numbers (numbers_of (filter test (entries_of works))) ascending
    (AllLater-map (λ one later. one < later) (λ (entry : Entry). entry.seq) (filter test (entries_of works)) (λ one later less. less)
    (AllLater-filter (λ entry later. entry.seq < later.seq) test (entries_of works) up))
    (λ number. are number ∙ at-any test number works up ∙ sym (numbers-among test (entries_of works) number))

none-found : (test : Entry → Bool) (entries : List Entry) → ((number : ℕ) → list_any (λ entry. entry.seq == number && test entry) entries ≡ false)
    → AllByRecursion (λ entry. test entry ≡ false) entries
none-found test [] none = tt
none-found test (entry ∷ entries) none =
    let here = (or_parts (entry.seq == entry.seq && test entry) _ (none entry.seq)).0 in
    ((rw (eq-eqb entry.seq entry.seq refl) at here), none-found test entries (λ number. (or_parts (entry.seq == number && test entry) _ (none number)).1))

one-found : (test : Entry → Bool) (seq : ℕ) (entries : List Entry) → ((number : ℕ) → (seq == number) ≡ list_any (λ entry. entry.seq == number && test entry) entries)
    → Some seq ≡ option_map (λ (entry : Entry). entry.seq) (find test entries)
one-found test seq [] one = absurd (false≢true (sym (one seq) ∙ eq-eqb seq seq refl))
one-found test seq (entry ∷ entries) one =
    elim (cases_Bool (test entry)) as (λ _. Some seq ≡ option_map (λ (entry : Entry). entry.seq) (find test (entry ∷ entries))) [
      | inl is ↦
          (let here : (seq == entry.seq) ≡ true = one entry.seq ∙ or_left _ _ (and_from _ _ (eq-eqb entry.seq entry.seq refl) is) in
          rw is (ap (λ n. Some n) (eqb-true seq entry.seq here)))
      | inr isnt ↦
          rw isnt (one-found test seq entries (λ number. one number
          ∙ ap (λ b. b || list_any (λ entry. entry.seq == number && test entry) entries) (and_right (entry.seq == number) (test entry) isnt)))
    ]

-- the number of the work of which a test holds, where it holds of one at most
pub found-is : (test : Entry → Bool) (works : List (ℕ × Kept)) (found : Option ℕ) → AreAscending (entries_of works)
    → ((number : ℕ) → option_map_or (λ n. n == number) found false ≡ option_map_or (λ (kept : Kept). test (entry_of (number, kept))) (at works number) false)
    → found ≡ option_map (λ (entry : Entry). entry.seq) (find test (entries_of works))
found-is test works None up are =
    sym (ap (option_map (λ (entry : Entry). entry.seq)) (find-fails test (entries_of works)
    (none-found test (entries_of works) (λ number. sym (are number ∙ at-any test number works up)))))
found-is test works (Some seq) up are = one-found test seq (entries_of works) (λ number. are number ∙ at-any test number works up)
