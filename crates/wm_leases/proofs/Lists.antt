-- The list of the leases after one is added, taken away or changed, and what is found in it.
use Rattle.std.proofs.Common.{◌≡◌, ℕ, ◌<◌, ◌≤◌, ◌==◌, ◌&&◌, Bool, true, false, not, cond, List, [], ◌∷◌, ◌++◌, filter, map, refl, sym, ap, subst, ◌∙◌, arith, inl, inr, IfSome, Option, Some, None, option_map}
use Rattle.std.proofs.Math.Bool.{or-false}
use Rattle.std.proofs.lemmas.Bool.{cases_Bool, eq-eqb, eqb-true, false≢true, le-leb, leb-true, ne_eqb, false_from_ne_true}
use Rattle.std.proofs.lemmas.Bool.Decides.{nat_tests}
use Rattle.std.proofs.lemmas.Map.Keys.{sorted_head, sorted_tail}
use Rattle.std.specs.BTreeMap.{insert_entry, is_at}
use Rattle.std.specs.BTreeSet.{BTreeSet}
use Rattle.std.specs.List.{AllByRecursion, list_any}
use Rattle.std.specs.List.Sorted.{IsStrictlySortedBy}
use Rattle.std.specs.Map.{keys_of, remove_entry, set_value}
use Rattle.std.specs.Option.{option_map_or}
use Rattle.std.specs.Prelude.{OnErr, Result, Ok, Err}
use Rattle.std.specs.Ordering.{is_eq, nat_cmp}
use Rattle.std.specs.declared.cmp.Ordering.TheVariants.{Greater, Less}
use Rattle.wm_collections.specs.Lists.{is_among, HasOne, NumbersAscend}
use Rattle.wm_collections.specs.Sets.{has_number, IsListOf}
use Rattle.wm_collections.proofs.Ascending.{ascending-same}
use Rattle.wm_collections.proofs.Lists.{All-weaker, All-with2, AllLater-filter, AllLater-map, filter-each, find-stored, HasOne-weaker, list_any-false, list_any-kept, list_any_after, map-twice}
use Rattle.wm_leases.specs.declared.leases.Lease.{Lease}
use Rattle.wm_leases.specs.declared.terms.Term.{Term}
use Rattle.wm_leases.specs.Ends.{ends_at, AreOverIn, HasComeFor, HasOver, IsEndMoved, Table}
use Rattle.wm_leases.specs.Leases.{changed_at, has_come, is_of, is_over, lease_of, least_end, lesser, over_at, runs_of, without, Ascend}
use Rattle.wm_leases.specs.Terms.{at, end_of, lease_at, leases_in, IsKept, IsSetAt}
use Rattle.wm_leases.proofs.Moves.{one-end}

same-test : (number key : ℕ) → is_eq (nat_cmp number key) ≡ (key == number)
same-test number key = grind (arith, nat_tests)

at-test : (number key : ℕ) → is_eq (nat_cmp number key) ≡ (number == key)
at-test number key = grind (arith, nat_tests)

less-is : (a b : ℕ) → nat_cmp a b ≡ Less → a < b
less-is a b is = grind (arith, nat_tests)

is-greater : (run key : ℕ) → key < run → nat_cmp run key ≡ Greater
is-greater run key less = grind (arith, nat_tests)

-- ---- in their order

above-keys : (run : ℕ) (terms : List (ℕ × Term)) → AllByRecursion (λ key. nat_cmp run key ≡ Less) (keys_of terms)
    → AllByRecursion (λ (lease : Lease). run < lease.run) (leases_in terms)
above-keys run [] above = tt
above-keys run (entry ∷ terms) above = (less-is run entry.0 above.0, above-keys run terms above.1)

-- keys in order are numbers in order
pub sorted-ascends : (terms : List (ℕ × Term)) → IsStrictlySortedBy nat_cmp (keys_of terms) → Ascend (leases_in terms)
sorted-ascends [] sorted = tt
sorted-ascends (entry ∷ terms) sorted =
    (above-keys entry.0 terms (sorted_head nat_cmp entry.0 (keys_of terms) sorted), sorted-ascends terms (sorted_tail nat_cmp entry.0 (keys_of terms) sorted))

apart : (run : ℕ) (leases : List Lease) → AllByRecursion (λ (lease : Lease). run < lease.run) leases → AllByRecursion (λ lease. is_of run lease ≡ false) leases
apart run leases above = All-weaker leases (λ lease less. ne_eqb lease.run run (λ e. absurd (omega (arith, less, e)))) above

above-from : (run key : ℕ) (leases : List Lease) → (key == run) ≡ true → AllByRecursion (λ (lease : Lease). key < lease.run) leases
    → AllByRecursion (λ lease. is_of run lease ≡ false) leases
above-from run key leases here above =
    apart run leases (subst (λ n. AllByRecursion (λ (lease : Lease). n < lease.run) leases) (eqb-true key run here) above)

-- the keys are the numbers of the runs
pub keys-runs : (terms : List (ℕ × Term)) → keys_of terms ≡ runs_of (leases_in terms)
keys-runs terms = sym (map-twice lease_at (λ (lease : Lease). lease.run) terms)

-- ---- one is found

pub lease-found : (run : ℕ) (terms : List (ℕ × Term)) → lease_of run (leases_in terms) ≡ option_map (λ (term : Term). lease_at (run, term)) (at terms run)
lease-found run [] = refl
lease-found run (entry ∷ terms) =
    elim (cases_Bool (entry.0 == run))
    as (λ _. lease_of run (leases_in (entry ∷ terms)) ≡ option_map (λ (term : Term). lease_at (run, term)) (at (entry ∷ terms) run)) [
      | inl here ↦ rw (same-test run entry.0, here) (ap (λ n. Some (lease_at (n, entry.1))) (eqb-true entry.0 run here))
      | inr other ↦ rw (same-test run entry.0, other) (lease-found run terms)
    ]

abbrev lease_end : Option Lease → Option ℕ
lease_end None = None
lease_end (Some lease) = lease.end

-- its end
end-found : (run : ℕ) (term : Option Term) → lease_end (option_map (λ (one : Term). lease_at (run, one)) term) ≡ end_of term
end-found run None = refl
end-found run (Some term) = refl

-- each is found by its run
each-found : (leases : List Lease) → Ascend leases → AllByRecursion (λ lease. lease_of lease.run leases ≡ Some lease) leases
each-found [] up = tt
each-found (lease ∷ leases) up = (
  rw (eq-eqb lease.run lease.run refl) refl,
  All-with2 leases (λ other above found. rw (ne_eqb lease.run other.run (λ e. absurd (omega (arith, above, e)))) found) up.0 (each-found leases up.1),
)

-- and has its end kept
pub each-end : (terms : List (ℕ × Term)) → Ascend (leases_in terms) → AllByRecursion (λ (lease : Lease). end_of (at terms lease.run) ≡ lease.end) (leases_in terms)
each-end terms up =
    All-weaker (leases_in terms)
    (λ lease found. sym (end-found lease.run (at terms lease.run)) ∙ ap lease_end (sym (lease-found lease.run terms) ∙ found))
    (each-found (leases_in terms) up)

-- one whose end is known is among them
pub end-among : (terms : List (ℕ × Term)) (run end : ℕ) → end_of (at terms run) ≡ Some end → HasOne (λ (lease : Lease). lease.end ≡ Some end) (leases_in terms)
end-among terms run end is = among (lease_of run (leases_in terms)) refl (ap lease_end (lease-found run terms) ∙ end-found run (at terms run) ∙ is)
  where
    among : (found : Option Lease) → lease_of run (leases_in terms) ≡ found → lease_end (lease_of run (leases_in terms)) ≡ Some end
        → HasOne (λ (lease : Lease). lease.end ≡ Some end) (leases_in terms)
    among None same has = let none : lease_end None ≡ Some end = rw same at has in absurd cc
    among (Some lease) same has =
        let own : lease.end ≡ Some end = rw same at has in
        HasOne-weaker (leases_in terms) (λ other one. ap (λ (x : Lease). x.end) one ∙ own) (find-stored (is_of run) (leases_in terms) lease same)

-- ---- one more

pub absent-above : (run : ℕ) (terms : List (ℕ × Term)) → AllByRecursion (λ (other : Lease). other.run < run) (leases_in terms) → at terms run ≡ None
absent-above run [] above = refl
absent-above run (entry ∷ terms) above =
    rw (same-test run entry.0, ne_eqb entry.0 run (let less = above.0 in λ e. absurd (omega (arith, less, e)))) (absent-above run terms above.1)

pub inserted-last : (run : ℕ) (term : Term) (terms : List (ℕ × Term)) → AllByRecursion (λ (other : Lease). other.run < run) (leases_in terms)
    → leases_in (insert_entry nat_cmp terms run term) ≡ leases_in terms ++ lease_at (run, term) ∷ []
inserted-last run term [] above = refl
inserted-last run term (entry ∷ terms) above =
    rw (is-greater run entry.0 above.0) (ap (λ rest. lease_at entry ∷ rest) (inserted-last run term terms above.1))

-- ---- one less, and one that is changed

module _ (run : ℕ) where
  pub removed : (terms : List (ℕ × Term)) → Ascend (leases_in terms) → leases_in (remove_entry (is_at (nat_cmp run)) terms) ≡ without run (leases_in terms)
  removed [] up = refl
  removed (entry ∷ terms) up =
      elim (cases_Bool (entry.0 == run)) as (λ _. leases_in (remove_entry (is_at (nat_cmp run)) (entry ∷ terms)) ≡ without run (leases_in (entry ∷ terms))) [
        | inl here ↦ rw (same-test run entry.0, here)
            (sym (filter-each (λ lease. not (is_of run lease)) (leases_in terms)
            (All-weaker (leases_in terms) (λ lease e. ap not e) (above-from run entry.0 (leases_in terms) here up.0))))
        | inr other ↦ rw (same-test run entry.0, other) (ap (λ rest. lease_at entry ∷ rest) (removed terms up.1))
      ]

  module _ (change : Lease → Lease) where
    unchanged : (leases : List Lease) → AllByRecursion (λ lease. is_of run lease ≡ false) leases → changed_at change run leases ≡ leases
    unchanged [] others = refl
    unchanged (lease ∷ leases) others = rw (others.0) (ap (λ rest. lease ∷ rest) (unchanged leases others.1))

    pub none-changed : (terms : List (ℕ × Term)) → at terms run ≡ None → changed_at change run (leases_in terms) ≡ leases_in terms
    none-changed [] none = refl
    none-changed (entry ∷ terms) none =
        elim (cases_Bool (entry.0 == run)) as (λ _. changed_at change run (leases_in (entry ∷ terms)) ≡ leases_in (entry ∷ terms)) [
          | inl here ↦ (let some : Some entry.1 ≡ None = rw (same-test run entry.0, here) at none in absurd cc)
          | inr other ↦
              (let rest : at terms run ≡ None = rw (same-test run entry.0, other) at none in
              rw other (ap (λ rest. lease_at entry ∷ rest) (none-changed terms rest)))
        ]

    pub set-changed : (term new : Term) → lease_at (run, new) ≡ change (lease_at (run, term)) → (terms : List (ℕ × Term)) → Ascend (leases_in terms)
        → at terms run ≡ Some term → leases_in (set_value (is_at (nat_cmp run)) terms new) ≡ changed_at change run (leases_in terms)
    set-changed term new is [] up found = absurd cc
    set-changed term new is (entry ∷ terms) up found =
        elim (cases_Bool (entry.0 == run))
        as (λ _. leases_in (set_value (is_at (nat_cmp run)) (entry ∷ terms) new) ≡ changed_at change run (leases_in (entry ∷ terms))) [
          | inl here ↦
              (let first : Some entry.1 ≡ Some term = rw (same-test run entry.0, here) at found in
              let same : entry.1 ≡ term = cc in
              let number : entry.0 ≡ run = eqb-true entry.0 run here in
              let rest = unchanged (leases_in terms) (above-from run entry.0 (leases_in terms) here up.0) in
              let head : lease_at (entry.0, new) ≡ change (lease_at entry) = ap (λ n. lease_at (n, new)) number ∙ is
              ∙ ap (λ t. change (lease_at (run, t))) (sym same) ∙ ap (λ n. change (lease_at (n, entry.1))) (sym number) in
              rw (same-test run entry.0, here, rest) (ap (λ lease. lease ∷ leases_in terms) head))
          | inr other ↦
              (let rest : at terms run ≡ Some term = rw (same-test run entry.0, other) at found in
              rw (same-test run entry.0, other) (ap (λ rest. lease_at entry ∷ rest) (set-changed term new is terms up.1 rest)))
        ]

-- ---- what is kept

module _ (run : ℕ) (term : Option Term) (old new : List (ℕ × Term)) (ends moved : Table) (kept : IsKept old ends) (set : IsSetAt run term old new)
    (up : Ascend (leases_in new)) (is : IsEndMoved run (end_of term) ends moved) where
  case-set : (same : Bool) (q end : ℕ) → cond same (ends_at end (end_of term)) (ends end q) ≡ ends_at end (end_of (cond same term (at old q)))
  case-set true q end = refl
  case-set false q end = kept.ends_are end q

  pub kept-moved : IsKept new moved
  kept-moved = record {
    ascending = up;
    ends_are = λ end q.
        is end q ∙ case-set (run == q) q end
        ∙ ap (λ found. ends_at end (end_of found)) (ap (λ b. cond b term (at old q)) (sym (at-test run q)) ∙ sym (set q));
  }

-- the ends are kept as they were
pub kept-same : (terms : List (ℕ × Term)) (old new : Table) → IsKept terms old → ((end run : ℕ) → new end run ≡ old end run) → IsKept terms new
kept-same terms old new kept same = record { ascending = kept.ascending; ends_are = λ end run. same end run ∙ kept.ends_are end run }

-- ---- those that are over

none-later : (test : Lease → Bool) (run : ℕ) (leases : List Lease) → AllByRecursion (λ lease. is_of run lease ≡ false) leases
    → list_any (λ lease. is_of run lease && test lease) leases ≡ false
none-later test run leases others = list_any-false (λ lease. is_of run lease && test lease) leases (All-weaker leases (λ lease e. rw e refl) others)

-- a test of the lease of a run
at-any : (test : Lease → Bool) (run : ℕ) (terms : List (ℕ × Term)) → Ascend (leases_in terms)
    → option_map_or (λ (term : Term). test (lease_at (run, term))) (at terms run) false ≡ list_any (λ lease. is_of run lease && test lease) (leases_in terms)
at-any test run [] up = refl
at-any test run (entry ∷ terms) up =
    elim (cases_Bool (entry.0 == run)) as (λ _. option_map_or (λ (term : Term). test (lease_at (run, term))) (at (entry ∷ terms) run) false
    ≡ list_any (λ lease. is_of run lease && test lease) (leases_in (entry ∷ terms))) [
      | inl here ↦
          (let later = none-later test run (leases_in terms) (above-from run entry.0 (leases_in terms) here up.0) in
          let number : run ≡ entry.0 = sym (eqb-true entry.0 run here) in
          rw (same-test run entry.0, here, later) (ap (λ n. test (lease_at (n, entry.1))) number ∙ sym (or-false (test (lease_at entry)))))
      | inr other ↦ rw (same-test run entry.0, other) (at-any test run terms up.1)
    ]

runs-among : (test : Lease → Bool) (leases : List Lease) (run : ℕ)
    → is_among (runs_of (filter test leases)) run ≡ list_any (λ lease. is_of run lease && test lease) leases
runs-among test leases run =
    list_any_after (λ one. one == run) (λ (lease : Lease). lease.run) (filter test leases) ∙ list_any-kept (is_of run) test leases

over-end : (moment run : ℕ) (term : Option Term) → option_map_or (λ (one : Term). is_over moment (lease_at (run, one))) term false ≡ has_come moment (end_of term)
over-end moment run None = refl
over-end moment run (Some term) = refl

-- the runs in ascending number whose ends have come
runs-over : (moment : ℕ) (terms : List (ℕ × Term)) (runs : List ℕ) → Ascend (leases_in terms) → NumbersAscend runs
    → ((run : ℕ) → is_among runs run ≡ has_come moment (end_of (at terms run))) → runs ≡ runs_of (over_at moment (leases_in terms))
runs-over moment terms runs up ascending are =
    ascending-same runs (runs_of (over_at moment (leases_in terms))) ascending
    (AllLater-map (λ one later. one < later) (λ (lease : Lease). lease.run) (over_at moment (leases_in terms)) (λ one later less. less)
    (AllLater-filter (λ one other. one.run < other.run) (is_over moment) (leases_in terms) up))
    (λ run. are run ∙ sym (over-end moment run (at terms run)) ∙ at-any (is_over moment) run terms up ∙ sym (runs-among (is_over moment) (leases_in terms) run))

comes-by : (ends : Table) (moment run : ℕ) (end : Option ℕ) → ((at : ℕ) → ends at run ≡ ends_at at end) → has_come moment end ≡ true → HasComeFor ends moment run
comes-by ends moment run None are come = absurd (false≢true come)
comes-by ends moment run (Some end) are come = record { end = end; there = are end ∙ eq-eqb end end refl; come = leb-true end moment come }

come-by : (ends : Table) (moment run : ℕ) (end : Option ℕ) → ((at : ℕ) → ends at run ≡ ends_at at end) → HasComeFor ends moment run → has_come moment end ≡ true
come-by ends moment run end are come =
    let is : end ≡ Some come.end = one-end come.end end (Some come.end) (sym (are come.end) ∙ come.there) (eq-eqb come.end come.end refl) in
    rw is (le-leb come.end moment come.come)

same-answer : (one other : Bool) → (one ≡ true → other ≡ true) → (other ≡ true → one ≡ true) → one ≡ other
same-answer true other to from = sym (to refl)
same-answer false true to from = from refl
same-answer false false to from = refl

pub over-listed : (moment : ℕ) (terms : List (ℕ × Term)) (ends : Table) (runs : BTreeSet ℕ) (list : List ℕ) → IsKept terms ends → AreOverIn ends moment runs
    → IsListOf runs list → list ≡ runs_of (over_at moment (leases_in terms))
over-listed moment terms ends runs list kept over are =
    runs-over moment terms list kept.ascending are.ascending
    (λ run. are.each run
    ∙ same-answer (has_number runs run) (has_come moment (end_of (at terms run)))
    (λ has. come-by ends moment run (end_of (at terms run)) (λ end. kept.ends_are end run) (over.come run has))
    (λ come. over.all run (comes-by ends moment run (end_of (at terms run)) (λ end. kept.ends_are end run) come)))

pub none-listed : (moment : ℕ) (terms : List (ℕ × Term)) (ends : Table) → IsKept terms ends → (HasOver ends moment → ⊥)
    → [] ≡ runs_of (over_at moment (leases_in terms))
none-listed moment terms ends kept none =
    runs-over moment terms [] kept.ascending tt
    (λ run. sym (false_from_ne_true (has_come moment (end_of (at terms run)))
    (λ come. none (run, comes-by ends moment run (end_of (at terms run)) (λ end. kept.ends_are end run) come))))

-- ---- the least end

low : (least : ℕ) (leases : List Lease) → AllByRecursion (λ (lease : Lease). IfSome lease.end (λ end. least ≤ end)) leases
    → IfSome (least_end leases) (λ end. least ≤ end)
low least [] above = tt
low least (lease ∷ leases) above = lesser-low lease.end (least_end leases) above.0 (low least leases above.1)
  where
    lesser-low : (one other : Option ℕ) → IfSome one (λ end. least ≤ end) → IfSome other (λ end. least ≤ end) → IfSome (lesser one other) (λ end. least ≤ end)
    lesser-low None other a b = b
    lesser-low (Some one) None a b = a
    lesser-low (Some one) (Some other) a b = omega (arith, a, b)

lesser-here : (least : ℕ) (other : Option ℕ) → IfSome other (λ end. least ≤ end) → lesser (Some least) other ≡ Some least
lesser-here least None above = refl
lesser-here least (Some other) above = ap Some (omega (arith, above))

lesser-there : (least : ℕ) (one : Option ℕ) → IfSome one (λ end. least ≤ end) → lesser one (Some least) ≡ Some least
lesser-there least None above = refl
lesser-there least (Some one) above = ap Some (omega (arith, above))

least-is : (least : ℕ) (leases : List Lease) → AllByRecursion (λ (lease : Lease). IfSome lease.end (λ end. least ≤ end)) leases
    → HasOne (λ (lease : Lease). lease.end ≡ Some least) leases → least_end leases ≡ Some least
least-is least [] above one = absurd one
least-is least (lease ∷ leases) above (inl is) = rw is (lesser-here least (least_end leases) (low least leases above.1))
least-is least (lease ∷ leases) above (inr one) = rw (least-is least leases above.1 one) (lesser-there least lease.end above.0)

none-ends : (leases : List Lease) → AllByRecursion (λ (lease : Lease). lease.end ≡ None) leases → least_end leases ≡ None
none-ends [] none = refl
none-ends (lease ∷ leases) none = rw (none.0, none-ends leases none.1) refl

if-above : (ends : Table) (least run : ℕ) (end : Option ℕ) → ((at : ℕ) → ends at run ≡ ends_at at end) → ((at : ℕ) → ends at run ≡ true → least ≤ at)
    → IfSome end (λ at. least ≤ at)
if-above ends least run None are above = tt
if-above ends least run (Some end) are above = above end (are end ∙ eq-eqb end end refl)

-- the least of the ends that are kept
pub least-kept : (terms : List (ℕ × Term)) (ends : Table) (least run : ℕ) → IsKept terms ends → ends least run ≡ true
    → ((at of : ℕ) → ends at of ≡ true → least ≤ at) → least_end (leases_in terms) ≡ Some least
least-kept terms ends least run kept there above =
    least-is least (leases_in terms)
    (All-weaker (leases_in terms)
    (λ lease is. subst (λ end. IfSome end (λ at. least ≤ at)) is
    (if-above ends least lease.run (end_of (at terms lease.run)) (λ end. kept.ends_are end lease.run) (λ at. above at lease.run)))
    (each-end terms kept.ascending))
    (end-among terms run least
    (one-end least (end_of (at terms run)) (Some least) (sym (kept.ends_are least run) ∙ there) (eq-eqb least least refl)))

pub none-kept : (terms : List (ℕ × Term)) (ends : Table) → IsKept terms ends → ((at of : ℕ) → ends at of ≡ false) → least_end (leases_in terms) ≡ None
none-kept terms ends kept none =
    none-ends (leases_in terms)
    (All-weaker (leases_in terms) (λ lease is. sym is ∙ no-end lease.run (end_of (at terms lease.run)) (λ end. kept.ends_are end lease.run))
    (each-end terms kept.ascending))
  where
    no-end : (run : ℕ) (end : Option ℕ) → ((at : ℕ) → ends at run ≡ ends_at at end) → end ≡ None
    no-end run None are = refl
    no-end run (Some end) are = absurd (false≢true (sym (none end run) ∙ are end ∙ eq-eqb end end refl))

-- ---- all of them, one after another

-- the leases, of which those of these runs are changed in turn
abbrev pub changed_each : (Lease → Lease) → List ℕ → List Lease → List Lease
changed_each change [] leases = leases
changed_each change (run ∷ runs) leases = changed_each change runs (changed_at change run leases)

module _ (change : Lease → Lease) (keeps : (lease : Lease) → (change lease).run ≡ lease.run) where
  -- one of no such run stays
  each-behind : (runs : List ℕ) (first : Lease) (leases : List Lease) → AllByRecursion (λ run. first.run < run) runs
      → changed_each change runs (first ∷ leases) ≡ first ∷ changed_each change runs leases
  each-behind [] first leases above = refl
  each-behind (run ∷ runs) first leases above =
      rw (ne_eqb first.run run (let less = above.0 in λ e. absurd (omega (arith, less, e)))) (each-behind runs first (changed_at change run leases) above.1)

  pub changed-all : (leases : List Lease) → Ascend leases → changed_each change (runs_of leases) leases ≡ map change leases
  changed-all [] up = refl
  changed-all (lease ∷ leases) up =
      ap (changed_each change (runs_of leases)) first
      ∙ each-behind (runs_of leases) (change lease) leases (subst (λ run. AllByRecursion (λ other. run < other) (runs_of leases)) (sym (keeps lease)) (runs-above leases up.0))
      ∙ ap (λ rest. change lease ∷ rest) (changed-all leases up.1)
    where
      first : changed_at change lease.run (lease ∷ leases) ≡ change lease ∷ leases
      first = rw (eq-eqb lease.run lease.run refl) (ap (λ rest. change lease ∷ rest) (unchanged lease.run change leases (apart lease.run leases up.0)))

      runs-above : (others : List Lease) → AllByRecursion (λ (other : Lease). lease.run < other.run) others → AllByRecursion (λ run. lease.run < run) (runs_of others)
      runs-above [] above = tt
      runs-above (other ∷ others) above = (above.0, runs-above others above.1)

-- ---- what holds whatever was answered

pub on_err : {A E : Type 0} (r : Result A E) (P : Type 0) → P → OnErr r P
on_err (Ok x) P p = tt
on_err (Err e) P p = p
