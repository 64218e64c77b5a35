-- How the counts of the nodes right after a node are lowered.
use Rattle.std.proofs.Common.{◌≡◌, ℕ, ◌<◌, ◌==◌, ◌||◌, Bool, true, false, List, [], ◌∷◌, ◌++◌, map, refl, sym, ap, subst, ◌∙◌, arith, Bor, if◌then◌else◌}
use Rattle.wm_graph.proofs.Tests.{eq-swap}
use Rattle.std.proofs.lemmas.Bool.{ne_eqb, eqb-true}
use Rattle.std.proofs.lemmas.Bool.Decides.{nat_tests}
use Rattle.std.proofs.lemmas.List.{map-append, append-nil}
use Rattle.std.proofs.lemmas.List.Folds.{list_any-append}
use Rattle.std.proofs.lemmas.List.Kept.{IsStrictlySortedBy-filter}
use Rattle.std.proofs.lemmas.Map.Keys.{sorted_head, sorted_tail}
use Rattle.std.specs.List.{AllByRecursion, list_any}
use Rattle.std.specs.List.Sorted.{IsStrictlySortedBy}
use Rattle.std.specs.Map.Iter.{deref}
use Rattle.std.specs.BTreeMap.Range.{range_contains}
use Rattle.std.specs.BTreeSet.{BTreeSet, IsOrdered}
use Rattle.std.specs.declared.cmp.Ordering.TheVariants.{Less}
use Rattle.std.specs.declared.ops.Bound.TheVariants.{Included}
use Rattle.wm_collections.specs.Lists.{AllLater}
use Rattle.wm_collections.proofs.Lists.{All-any, All-passing, All-weaker, All-with2, All-back, AllLater-map, list_any-false, list_any_after, map-same, map-twice}
use Rattle.wm_graph.proofs.Dependents.{any-from, from_number}
use Rattle.wm_graph.specs.Edges.{edge_cmp, AreAfter, AreNumbered, Edge}
use Rattle.wm_graph.specs.Kept.{lowered, lowered_after, lowered_at, lowered_where, Kept}

-- ---- each number comes once

begins : (number : ℕ) (edge : Edge) → range_contains edge_cmp (Included (number, 0)) (Included (number, 18446744073709551615)) edge ≡ true → edge.0 ≡ number
begins number edge within = grind (arith, nat_tests)

rises : (number : ℕ) (edge later : Edge) → edge.0 ≡ number → later.0 ≡ number → edge_cmp edge later ≡ Less → edge.1 < later.1
rises number edge later one other less = grind (arith, nat_tests)

rise-each : (number : ℕ) (edges : List Edge) → IsStrictlySortedBy edge_cmp edges → AllByRecursion (λ edge. edge.0 ≡ number) edges
    → AllLater (λ edge later. edge.1 < later.1) edges
rise-each number [] sorted all = tt
rise-each number (edge ∷ edges) sorted all = (
  All-with2 edges (λ later same less. rises number edge later all.0 same less) all.1 (sorted_head edge_cmp edge edges sorted),
  rise-each number edges (sorted_tail edge_cmp edge edges sorted) all.1,
)

pub from-rises : (edges : BTreeSet Edge) (number : ℕ) → IsOrdered edge_cmp edges → AllLater (λ edge later. edge.1 < later.1) (from_number edges number)
from-rises edges number ordered =
    rise-each number (from_number edges number)
    (IsStrictlySortedBy-filter edge_cmp (range_contains edge_cmp (Included (number, 0)) (Included (number, 18446744073709551615))) edges.keys ordered)
    (All-weaker (from_number edges number) (begins number)
    (All-passing (range_contains edge_cmp (Included (number, 0)) (Included (number, 18446744073709551615))) edges.keys))

below-later : (xs : List Edge) (edge : Edge) (ys : List Edge) → AllLater (λ one later. one.1 < later.1) (xs ++ edge ∷ ys) → AllByRecursion (λ one. one.1 < edge.1) xs
below-later [] edge ys rise = tt
below-later (x ∷ xs) edge ys rise = ((All-back (λ later. x.1 < later.1) xs (edge ∷ ys) rise.0).0, below-later xs edge ys rise.1)

not-yet : (xs : List Edge) (edge : Edge) (ys : List Edge) → AllLater (λ one later. one.1 < later.1) (xs ++ edge ∷ ys) → list_any (λ one. one.1 == edge.1) xs ≡ false
not-yet xs edge ys rise =
    list_any-false (λ one. one.1 == edge.1) xs
    (All-weaker xs (λ one less. ne_eqb one.1 edge.1 (λ e. absurd (omega (arith, less, e)))) (below-later xs edge ys rise))

-- ---- one more

abbrev pub among : List (Bor Edge) → ℕ → Bool
among yielded number = list_any (λ edge. edge.1 == number) (map deref yielded)

abbrev lowered_if : Bool → ℕ × Kept → ℕ × Kept
lowered_if b entry = if b then (entry.0, lowered entry.1) else entry

abbrev lowered_here : ℕ → ℕ × Kept → ℕ × Kept
lowered_here number entry = if entry.0 == number then (entry.0, lowered entry.1) else entry

one-entry : (b c : Bool) (number : ℕ) (entry : ℕ × Kept) → (entry.0 == number) ≡ c → (c ≡ true → b ≡ false)
    → lowered_here number (lowered_if b entry) ≡ lowered_if (b || (c || false)) entry
one-entry true true number entry is apart = absurd (let h = apart refl in cc)
one-entry true false number entry is apart = rw is refl
one-entry false true number entry is apart = rw is refl
one-entry false false number entry is apart = rw is refl

more : (yielded : List (Bor Edge)) (edge : Bor Edge) (number : ℕ) → among (yielded ++ edge ∷ []) number ≡ (among yielded number || ((number == edge.now.1) || false))
more yielded edge number = rw (map-append, list_any-append, eq-swap number edge.now.1) refl

pub lowered-more : (entries : List (ℕ × Kept)) (yielded : List (Bor Edge)) (edge : Bor Edge) (rest : List Edge)
    → AllLater (λ one later. one.1 < later.1) (map deref yielded ++ edge.now ∷ rest)
    → lowered_at edge.now.1 (map (lowered_where (among yielded)) entries) ≡ map (lowered_where (among (yielded ++ edge ∷ []))) entries
lowered-more entries yielded edge rest rise =
    map-twice (lowered_where (among yielded)) (lowered_here edge.now.1) entries
    ∙ map-same _ _ entries (All-any entries (λ entry.
    one-entry (among yielded entry.0) (entry.0 == edge.now.1) edge.now.1 entry refl
    (λ here. subst (λ n. among yielded n ≡ false) (sym (eqb-true entry.0 edge.now.1 here)) (not-yet (map deref yielded) edge.now rest rise))
    ∙ ap (λ b. lowered_if b entry) (sym (more yielded edge entry.0))))

lowered_none : (entries : List (ℕ × Kept)) → entries ≡ map (lowered_where (λ number. false)) entries
lowered_none [] = refl
lowered_none (entry ∷ entries) = ap (λ list. entry ∷ list) (lowered_none entries)

pub lowered-begun : (entries : List (ℕ × Kept)) → entries ≡ map (lowered_where (among [])) entries
lowered-begun entries = lowered_none entries

pub lowered-all : (edges : BTreeSet Edge) (number : ℕ) (yielded : List (Bor Edge)) (rest : List Edge) (old new : List (ℕ × Kept)) → AreNumbered edges
    → map deref yielded ++ rest ≡ from_number edges number → rest ≡ [] → new ≡ map (lowered_where (among yielded)) old → new ≡ lowered_after edges number old
lowered-all edges number yielded rest old new low split none is =
    let all : map deref yielded ≡ from_number edges number = sym (append-nil (map deref yielded)) ∙ ap (λ list. map deref yielded ++ list) (sym none) ∙ split in
    is ∙ map-same _ _ old (All-any old (λ entry.
    ap (λ b. lowered_if b entry) (ap (λ list. list_any (λ edge. edge.1 == entry.0) list) all ∙ any-from edges number entry.0 low)))

-- ---- the numbers at the ends of the edges from a number

pub after-end : (edges : BTreeSet Edge) (number : ℕ) → AreNumbered edges → IsOrdered edge_cmp edges → (yielded : List (Bor Edge)) (rest : List Edge) (found : List ℕ)
    → map deref yielded ++ rest ≡ from_number edges number → rest ≡ [] → found ≡ map (λ edge. edge.1) (map deref yielded) → AreAfter edges number found
after-end edges number low ordered yielded rest found split none is =
    let all : map deref yielded ≡ from_number edges number = sym (append-nil (map deref yielded)) ∙ ap (λ list. map deref yielded ++ list) (sym none) ∙ split in
    subst (AreAfter edges number) (sym (is ∙ ap (λ list. map (λ edge. edge.1) list) all)) (record {
      ascending =
          AllLater-map (λ one later. one < later) (λ edge. edge.1) (from_number edges number) (λ x y less. less) (from-rises edges number ordered);
      each = λ to. list_any_after (λ one. one == to) (λ edge. edge.1) (from_number edges number) ∙ any-from edges number to low;
    })
