-- How the nodes right after a node are added.
use Rattle.std.proofs.Common.{◌≡◌, ℕ, ◌<◌, ◌≤◌, ◌==◌, ◌||◌, ◌&&◌, Bool, true, false, List, [], ◌∷◌, ◌++◌, map, refl, sym, ap, ◌∙◌, arith, append_assoc, Bor, ◌⊎◌, inl, inr}
use Rattle.std.proofs.lemmas.Bool.Decides.{nat_tests}
use Rattle.std.proofs.lemmas.List.{map-append, append-nil}
use Rattle.std.proofs.lemmas.List.Folds.{list_any-append}
use Rattle.std.specs.List.{list_any}
use Rattle.std.specs.Map.Iter.{deref}
use Rattle.std.specs.Ordering.{is_eq, nat_cmp}
use Rattle.std.specs.BTreeMap.{is_at}
use Rattle.std.specs.BTreeMap.Range.{range_contains}
use Rattle.std.specs.BTreeSet.{BTreeSet, keys_between, Updates}
use Rattle.std.specs.declared.ops.Bound.TheVariants.{Included}
use Rattle.wm_collections.proofs.Lists.{All-any, list_any-false, list_any-kept, list_any-agree}
use Rattle.wm_collections.specs.Sets.{has_number}
use Rattle.wm_graph.specs.Edges.{edge_cmp, has_edge, AreNumbered, Edge, NoneAfter}

pub split-on : (yielded : List (Bor Edge)) (edge : Bor Edge) (before after all : List Edge) → map deref yielded ++ before ≡ all → before ≡ deref edge ∷ after
    → map deref (yielded ++ edge ∷ []) ++ after ≡ all
split-on yielded edge before after all split first = rw (map-append, append_assoc) (ap (λ rest. map deref yielded ++ rest) (sym first) ∙ split)

pub todo-on : (first : Bool) (yielded : List (Bor Edge)) (edge : Bor Edge) (old new : BTreeSet ℕ) (other : ℕ)
    → has_number old other ≡ (first || list_any (λ edge. edge.1 == other) (map deref yielded))
    → Updates nat_cmp old new edge.now.1 true
    → has_number new other ≡ (first || list_any (λ edge. edge.1 == other) (map deref (yielded ++ edge ∷ [])))
todo-on first yielded edge old new other so_far updates =
    let test : is_eq (nat_cmp edge.now.1 other) ≡ (edge.now.1 == other) = grind (arith, nat_tests) in
    let more = updates.0 other in
    rw (map-append, list_any-append) (grind (arith, more, so_far, test))

-- ---- the edges that begin at a number

abbrev pub from_number : BTreeSet Edge → ℕ → List Edge
from_number edges number = keys_between edge_cmp (Included (number, 0)) (Included (number, 18446744073709551615)) edges

same-test : (number other : ℕ) (edge : Edge) → other ≤ 18446744073709551615
    → (edge.1 == other && range_contains edge_cmp (Included (number, 0)) (Included (number, 18446744073709551615)) edge) ≡ is_at (edge_cmp (number, other)) edge
same-test number other edge low = grind (arith, nat_tests)

no-test : (number other : ℕ) (edge : Edge) → 18446744073709551615 < other
    → (edge.1 == other && range_contains edge_cmp (Included (number, 0)) (Included (number, 18446744073709551615)) edge) ≡ false
no-test number other edge high = grind (arith, nat_tests)

low_or_high : (other : ℕ) → (other ≤ 18446744073709551615) ⊎ (18446744073709551615 < other)
low_or_high other = grind arith

not-there : (b : Bool) → (b ≡ true → ⊥) → false ≡ b
not-there true absent = absurd (absent refl)
not-there false absent = refl

pub any-from : (edges : BTreeSet Edge) (number other : ℕ) → AreNumbered edges
    → list_any (λ edge. edge.1 == other) (from_number edges number) ≡ has_edge edges number other
any-from edges number other low =
    list_any-kept (λ edge. edge.1 == other) (range_contains edge_cmp (Included (number, 0)) (Included (number, 18446744073709551615))) edges.keys
    ∙ elim (low_or_high other) as (λ _. list_any (λ edge. edge.1 == other && range_contains edge_cmp (Included (number, 0)) (Included (number, 18446744073709551615)) edge) edges.keys
    ≡ has_edge edges number other) [
      | inl within ↦ list_any-agree _ (is_at (edge_cmp (number, other))) edges.keys (All-any edges.keys (λ edge. same-test number other edge within))
      | inr beyond ↦ list_any-false _ edges.keys (All-any edges.keys (λ edge. no-test number other edge beyond))
          ∙ not-there (has_edge edges number other) (λ there. let few = low number other there in absurd (omega arith))
    ]

pub all-added : (edges : BTreeSet Edge) (number : ℕ) (yielded : List (Bor Edge)) (rest : List Edge) (old new : BTreeSet ℕ) → AreNumbered edges
    → map deref yielded ++ rest ≡ from_number edges number → rest ≡ []
    → ((other : ℕ) → has_number new other ≡ (has_number old other || list_any (λ edge. edge.1 == other) (map deref yielded)))
    → (other : ℕ) → has_number new other ≡ (has_number old other || has_edge edges number other)
all-added edges number yielded rest old new low split none added other =
    let all : map deref yielded ≡ from_number edges number = sym (append-nil (map deref yielded)) ∙ ap (λ list. map deref yielded ++ list) (sym none) ∙ split in
    added other ∙ ap (λ list. has_number old other || list_any (λ edge. edge.1 == other) list) all
    ∙ ap (λ b. has_number old other || b) (any-from edges number other low)

pub none-after : (edges : BTreeSet Edge) (number : ℕ) → AreNumbered edges → from_number edges number ≡ [] → NoneAfter edges number
none-after edges number low none to = sym (any-from edges number to low) ∙ ap (λ list. list_any (λ edge. edge.1 == to) list) none
