-- The first of the entries is the first of the works.
use Rattle.std.proofs.Common.{◌≡◌, ◌⊎◌, ℕ, ◌<◌, ◌≤◌, ◌==◌, ◌&&◌, ◌||◌, Bool, true, false, not, List, [], ◌∷◌, filter, refl, sym, ap, subst, ◌∙◌, arith, Option, Some, None, inl, inr, nat_lt, IsSomeAnd, MatchOption}
use Rattle.std.proofs.lemmas.Bool.{and_from, and_parts, cases_Bool, cond_both, false≢true}
use Rattle.std.proofs.lemmas.Bool.Decides.{nat_tests}
use Rattle.std.specs.List.{AllByRecursion}
use Rattle.wm_collections.specs.Lists.{HasOne}
use Rattle.wm_collections.proofs.Lists.{All-from_filter, All-of_one, All-stored, All-weaker, any_passes, filter-none, list_any-stored, one_gives}
use Rattle.wm_conditions.specs.Signatures.{AreMet}
use Rattle.wm_machine.specs.Due.{due_of}
use Rattle.wm_machine.specs.First.{all_met, comes_before, earlier_of, first_of, has_room, is_startable as is_work_startable, is_waiting, least}
use Rattle.wm_machine.specs.declared.record.Record.{Record}
use Rattle.wm_machine.specs.declared.state.State.{State}
use Rattle.wm_machine.proofs.Firsts.{first_of-startable, first_of-stored}
use Rattle.wm_ready.specs.Entries.{has, is_same, is_startable, Entry, IsFirst, IsFirstNumber, NonePasses}
use Rattle.wm_steps.specs.Readied.{entry_of, is_entry_of, AreBusy, AreReady, IsFirstOf}

-- ---- the order, by plain numbers

abbrev before : ℕ → ℕ → ℕ → ℕ → Bool
before due seq due_other seq_other = nat_lt due due_other || (due == due_other && nat_lt seq seq_other)

not_itself : (d s : ℕ) → before d s d s ≡ false
not_itself d s = grind (arith, nat_tests)

not_back : (d s d2 s2 : ℕ) → before d s d2 s2 ≡ true → before d2 s2 d s ≡ false
not_back d s d2 s2 is = grind (arith, nat_tests)

not_over : (d s d2 s2 d3 s3 : ℕ) → before d s d2 s2 ≡ false → before d2 s2 d3 s3 ≡ false → before d s d3 s3 ≡ false
not_over d s d2 s2 d3 s3 one other = grind (arith, nat_tests)

same-seq : (d s d2 s2 : ℕ) → before d s d2 s2 ≡ false → (d < d2) ⊎ ((d ≡ d2) × (s ≤ s2)) → s2 ≡ s
same-seq d s d2 s2 not_before earlier = grind (arith, nat_tests)

-- ---- none comes before the least

abbrev NoneBefore : Record → List Record → Type 0
NoneBefore first works = AllByRecursion (λ work. comes_before work first ≡ false) works

least-at : (work : Record) (works : List Record) (found : Option Record) → least works ≡ found
    → ((other : Record) → found ≡ Some other → NoneBefore other works) → (works ≡ [] → NoneBefore work works) → NoneBefore (earlier_of work found) (work ∷ works)
least-at work [] None is rest none = (not_itself (due_of work) work.seq, tt)
least-at work (next ∷ works) None is rest none = absurd cc
least-at work works (Some other) is rest none =
    cond_both (comes_before other work) other work (λ first. NoneBefore first (work ∷ works))
    (λ e. (not_back (due_of other) other.seq (due_of work) work.seq e, rest other refl))
    (λ e. (
      not_itself (due_of work) work.seq,
      All-weaker works (λ one no. not_over (due_of one) one.seq (due_of other) other.seq (due_of work) work.seq no e) (rest other refl),
    ))

least-first : (works : List Record) (first : Record) → least works ≡ Some first → NoneBefore first works
least-first [] first is = absurd cc
least-first (work ∷ works) first is =
    let same : earlier_of work (least works) ≡ first = cc in
    subst (λ one. NoneBefore one (work ∷ works)) same
    (least-at work works (least works) refl (λ other e. least-first works other e) (λ e. subst (NoneBefore work) (sym e) tt))

least-none : (works : List Record) → least works ≡ None → works ≡ []
least-none [] none = refl
least-none (work ∷ works) none = absurd cc

none-left : (test : Record → Bool) (works : List Record) → filter test works ≡ [] → AllByRecursion (λ work. test work ≡ false) works
none-left test [] none = tt
none-left test (work ∷ works) none =
    elim (cases_Bool (test work)) as (λ _. AllByRecursion (λ work. test work ≡ false) (work ∷ works)) [
      | inl passes ↦ absurd (let e : (work ∷ filter test works) ≡ [] = rw passes at none in cc)
      | inr fails ↦ (fails, none-left test works (rw fails at none))
    ]

pub none-startable : (s : State) → first_of s ≡ None → AllByRecursion (λ work. is_work_startable s work ≡ false) s.works
unfolding first_of
none-startable s none = none-left (is_work_startable s) s.works (least-none (filter (is_work_startable s) s.works) none)

-- ---- entries

pub same-itself : (entry : Entry) → is_same entry entry ≡ true
same-itself entry = grind (arith, nat_tests)

pub same-due : (one other : Entry) → is_same one other ≡ true → one.due ≡ other.due
same-due one other same = grind (arith, nat_tests)

same-number : (one other : Entry) → is_same one other ≡ true → one.seq ≡ other.seq
same-number one other same = grind (arith, nat_tests)

pub same-signature : (one other : Entry) → is_same one other ≡ true → one.sig ≡ other.sig
same-signature one other same = grind (arith, nat_tests)

pub same-class : (one other : Entry) → is_same one other ≡ true → one.class ≡ other.class
same-class one other same = grind (arith, nat_tests)

pub not-not : (b : Bool) → not (not b) ≡ b
not-not true = refl
not-not false = refl

module _ (names : List (List ℕ)) (s : State) (entries : List Entry) (bits : ℕ) (busy : List ℕ)
    (ready : AreReady names s.works entries) (told : AreMet s.conditions bits) (rooms : AreBusy names s.instances busy) where
  abbrev entry_for : Record → Entry
  entry_for work = entry_of names work

  startable-is : (work : Record) → is_work_startable s work ≡ (is_waiting work.phase && (all_met s.works work && is_startable s.now bits busy (entry_for work)))
  unfolding is_work_startable
  startable-is work = rw (told.each work.request.constraints, rooms work.request.class, not-not (has_room s.instances work.request.class)) refl

  grouped : (a b c : Bool) → ((a && b) && c) ≡ (a && (b && c))
  grouped true b c = refl
  grouped false b c = refl

  entry-is : (entry : Entry) (work : Record) → is_entry_of names s.works entry work ≡ (is_waiting work.phase && (all_met s.works work && is_same entry (entry_for work)))
  entry-is entry work = grouped (is_waiting work.phase) (all_met s.works work) (is_same entry (entry_for work))

  -- a startable work has an entry that passes
  entry-there : (work : Record) → HasOne (λ other. other ≡ work) s.works → is_work_startable s work ≡ true → has entries (entry_for work) ≡ true
  entry-there work stored startable =
      let parts = and_parts _ _ (sym (startable-is work) ∙ startable) in
      let met_too = and_parts _ _ parts.1 in
      ready (entry_for work)
      ∙ list_any-stored (is_entry_of names s.works (entry_for work)) s.works work stored
      (entry-is (entry_for work) work ∙ and_from _ _ parts.0 (and_from _ _ met_too.0 (same-itself (entry_for work))))

  entry-passes : (work : Record) → HasOne (λ other. other ≡ work) s.works → is_work_startable s work ≡ true → is_startable s.now bits busy (entry_for work) ≡ true
  entry-passes work stored startable =
      let parts = and_parts _ _ (sym (startable-is work) ∙ startable) in
      (and_parts _ _ parts.1).1

  -- where no entry passes, no work is startable
  none-first : NonePasses entries (is_startable s.now bits busy) → first_of s ≡ None
  unfolding first_of
  none-first none =
      ap least (filter-none (is_work_startable s) s.works
      (All-weaker s.works (λ work stored. elim (cases_Bool (is_work_startable s work)) as (λ _. is_work_startable s work ≡ false) [
        | inl startable ↦ absurd (none (entry_for work) (entry-there work stored startable) (entry-passes work stored startable))
        | inr not_startable ↦ not_startable
      ]) (All-stored s.works)))

  none-before : (first : Record) → first_of s ≡ Some first → AllByRecursion (λ work. is_work_startable s work ≡ true → comes_before work first ≡ false) s.works
  unfolding first_of
  none-before first is =
      All-from_filter (λ work. comes_before work first ≡ false) (is_work_startable s) s.works (least-first (filter (is_work_startable s) s.works) first is)

  by_found : (entry : Entry) → IsFirst entries (is_startable s.now bits busy) entry → (work : Record) → HasOne (λ other. other ≡ work) s.works
      → is_work_startable s work ≡ true → entry.due ≡ due_of work → entry.seq ≡ work.seq → (found : Option Record) → first_of s ≡ found
      → IsSomeAnd found (λ first. first.seq ≡ entry.seq)
  by_found entry first work stored startable due seq None none =
      absurd (false≢true (sym (All-of_one (λ work. is_work_startable s work ≡ false) s.works work (none-startable s none) stored) ∙ startable))
  by_found entry first work stored startable due seq (Some other) is =
      let other_stored = first_of-stored s other is in
      let other_startable = first_of-startable s other is in
      let not_before : comes_before work other ≡ false =
      All-of_one (λ work. is_work_startable s work ≡ true → comes_before work other ≡ false) s.works work (none-before other is) stored startable in
      let earlier = first.least (entry_for other) (entry-there other other_stored other_startable) (entry-passes other other_stored other_startable) in
      same-seq entry.due entry.seq (due_of other) other.seq (rw (due, seq) not_before) earlier

  -- the work of the first entry is the first
  at_work : (entry : Entry) → IsFirst entries (is_startable s.now bits busy) entry → (work : Record) → HasOne (λ other. other ≡ work) s.works
      → is_entry_of names s.works entry work ≡ true → (found : Option Record) → first_of s ≡ found → IsSomeAnd found (λ first. first.seq ≡ entry.seq)
  at_work entry first work stored is found found_is =
      let parts = and_parts _ _ (sym (entry-is entry work) ∙ is) in
      let also = and_parts _ _ parts.1 in
      let due = same-due entry (entry_for work) also.1 in
      let seq = same-number entry (entry_for work) also.1 in
      let sig = same-signature entry (entry_for work) also.1 in
      let class = same-class entry (entry_for work) also.1 in
      let passes : is_startable s.now bits busy (entry_for work) ≡ true = rw (← due, ← sig, ← class) first.passes in
      let startable : is_work_startable s work ≡ true =
      startable-is work ∙ and_from _ _ parts.0 (and_from _ _ also.0 passes) in
      by_found entry first work stored startable due seq found found_is

  pub first-is : (result : Option ℕ) → MatchOption result (NonePasses entries (is_startable s.now bits busy)) (IsFirstNumber entries (is_startable s.now bits busy))
      → IsFirstOf s result
  first-is None none = none-first none
  first-is (Some n) (entry, first, is) =
      rw is (one_gives s.works (λ work stored here. at_work entry first work stored here (first_of s) refl) (All-stored s.works)
      (any_passes (is_entry_of names s.works entry) s.works (sym (ready entry) ∙ first.there)))
