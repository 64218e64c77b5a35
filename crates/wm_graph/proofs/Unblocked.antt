-- The nodes that become free, by their edges and their counts.
use Rattle.std.proofs.Common.{◌≡◌, ℕ, ◌<◌, ◌==◌, ◌&&◌, Bool, true, false, List, [], ◌∷◌, ◌++◌, map, filter, refl, sym, ap, subst, ◌∙◌, arith, Bor}
use Rattle.std.proofs.Math.Bool.{or-false}
use Rattle.wm_graph.proofs.Tests.{any-and, same-test, under}
use Rattle.std.proofs.lemmas.Bool.{eqb-true, ne_eqb}
use Rattle.std.proofs.lemmas.List.{append-nil}
use Rattle.std.specs.List.{AllByRecursion, list_any}
use Rattle.std.specs.Map.Iter.{deref}
use Rattle.std.specs.Ordering.{is_eq, nat_cmp}
use Rattle.std.specs.BTreeSet.{BTreeSet, IsOrdered}
use Rattle.wm_collections.specs.Lists.{is_among}
use Rattle.wm_collections.proofs.Lists.{All-any, All-weaker, AllLater-filter, AllLater-map, list_any-agree, list_any-kept, list_any_after}
use Rattle.wm_graph.proofs.Dependents.{any-from, from_number}
use Rattle.wm_collections.proofs.Ascending.{ascending-same}
use Rattle.wm_graph.proofs.Lowered.{from-rises}
use Rattle.wm_graph.proofs.Unmet.{freed-counted}
use Rattle.wm_graph.specs.Edges.{edge_cmp, has_edge, Edge}
use Rattle.wm_graph.specs.Freed.{one_unmet}
use Rattle.wm_graph.specs.Kept.{fields_of, nodes_of, IsKept, Kept}
use Rattle.wm_graph.specs.Marks.{frees, is_just, is_met, unmet_of}
use Rattle.wm_graph.specs.Nodes.{AreAscending, NodeFields}

-- ---- one number

later-none : (test : ℕ × Kept → Bool) (number : ℕ) (entries : List (ℕ × Kept)) → AllByRecursion (λ later. number < later.seq) (nodes_of entries)
    → list_any (λ entry. entry.0 == number && test entry) entries ≡ false
later-none test number [] above = refl
later-none test number (entry ∷ entries) above =
    let other : (entry.0 == number) ≡ false = ne_eqb entry.0 number (λ e. absurd (omega (arith, above.0, e))) in
    rw other (later-none test number entries above.1)

module _ (seq number : ℕ) where
  abbrev needs : ℕ × Kept → Bool
  needs entry = is_among entry.1.before seq

  abbrev frees_it : ℕ × Kept → Bool
  frees_it entry = is_among entry.1.before seq && entry.1.unmet == 1

  one-at : (entry : ℕ × Kept) (entries : List (ℕ × Kept)) (b : Bool) → is_eq (nat_cmp number entry.0) ≡ b → (entry.0 == number) ≡ b
      → AllByRecursion (λ later. entry.0 < later.seq) (nodes_of entries)
      → list_any (λ entry. entry.0 == number && frees_it entry) entries ≡ (list_any (λ entry. entry.0 == number && needs entry) entries && one_unmet entries number)
      → list_any (λ entry. entry.0 == number && frees_it entry) (entry ∷ entries)
      ≡ (list_any (λ entry. entry.0 == number && needs entry) (entry ∷ entries) && one_unmet (entry ∷ entries) number)
  one-at entry entries true at here above rest =
      let later = subst (λ n. AllByRecursion (λ later. n < later.seq) (nodes_of entries)) (eqb-true entry.0 number here) above in
      rw (at, here, later-none frees_it number entries later, later-none needs number entries later)
      (or-false (frees_it entry) ∙ ap (λ b. b && entry.1.unmet == 1) (sym (or-false (needs entry))))
  one-at entry entries false at here above rest = rw (at, here) rest

  one-number : (entries : List (ℕ × Kept)) → AreAscending (nodes_of entries)
      → list_any (λ entry. entry.0 == number && frees_it entry) entries ≡ (list_any (λ entry. entry.0 == number && needs entry) entries && one_unmet entries number)
  one-number [] ascending = refl
  one-number (entry ∷ entries) ascending =
      one-at entry entries (is_eq (nat_cmp number entry.0)) refl (sym (same-test number entry.0)) ascending.0 (one-number entries ascending.1)

-- ---- all of them

module _ (entries : List (ℕ × Kept)) (edges : BTreeSet Edge) (seq : ℕ) (kept : IsKept entries edges) (unmarked : is_met (nodes_of entries) seq ≡ false)
    (ordered : IsOrdered edge_cmp edges) where
  abbrev found : List ℕ
  found = filter (one_unmet entries) (map (λ edge. edge.1) (from_number edges seq))

  found-has : (n : ℕ) → is_among found n ≡ (has_edge edges seq n && one_unmet entries n)
  found-has n =
      list_any-kept (λ one. one == n) (one_unmet entries) (map (λ edge. edge.1) (from_number edges seq))
      ∙ list_any-agree (λ one. one == n && one_unmet entries one) (λ one. one == n && one_unmet entries n) (map (λ edge. edge.1) (from_number edges seq))
      (All-any (map (λ edge. edge.1) (from_number edges seq)) (λ one. under (one == n) (one_unmet entries one) (one_unmet entries n) (λ e. ap (one_unmet entries) (eqb-true one n e))))
      ∙ any-and (λ one. one == n) (one_unmet entries n) (map (λ edge. edge.1) (from_number edges seq))
      ∙ ap (λ b. b && one_unmet entries n) (list_any_after (λ one. one == n) (λ edge. edge.1) (from_number edges seq) ∙ any-from edges seq n kept.low)

  frees-has : (n : ℕ) → is_among (frees (nodes_of entries) seq) n ≡ (has_edge edges seq n && one_unmet entries n)
  frees-has n =
      list_any_after (λ one. one == n) (λ (node : NodeFields). node.seq) (filter (λ node. is_just seq (unmet_of (nodes_of entries) node.before)) (nodes_of entries))
      ∙ list_any-kept (λ node. node.seq == n) (λ node. is_just seq (unmet_of (nodes_of entries) node.before)) (nodes_of entries)
      ∙ list_any_after (λ node. node.seq == n && is_just seq (unmet_of (nodes_of entries) node.before)) fields_of entries
      ∙ list_any-agree (λ entry. entry.0 == n && is_just seq (unmet_of (nodes_of entries) entry.1.before)) (λ entry. entry.0 == n && frees_it seq n entry) entries
      (All-weaker entries (λ entry count. ap (λ b. entry.0 == n && b) (freed-counted (nodes_of entries) entry.1.before seq unmarked
      ∙ ap (λ m. is_among entry.1.before seq && m == 1) (sym count))) kept.counts)
      ∙ one-number seq n entries kept.graph.ascending
      ∙ ap (λ b. b && one_unmet entries n) (sym (kept.edges_are seq n ∙ list_any_after (λ node. node.seq == n && is_among node.before seq) fields_of entries))

  pub found-is : found ≡ frees (nodes_of entries) seq
  found-is =
      ascending-same found (frees (nodes_of entries) seq)
      (AllLater-filter (λ one later. one < later) (one_unmet entries) (map (λ edge. edge.1) (from_number edges seq))
      (AllLater-map (λ one later. one < later) (λ edge. edge.1) (from_number edges seq) (λ x y less. less) (from-rises edges seq ordered)))
      (AllLater-map (λ one later. one < later) (λ (node : NodeFields). node.seq) (filter (λ node. is_just seq (unmet_of (nodes_of entries) node.before)) (nodes_of entries)) (λ x y less. less)
      (AllLater-filter (λ one later. one.seq < later.seq) (λ node. is_just seq (unmet_of (nodes_of entries) node.before)) (nodes_of entries) kept.graph.ascending))
      (λ n. found-has n ∙ sym (frees-has n))

  pub freed-end : (yielded : List (Bor Edge)) (rest : List Edge) (freed : List ℕ) → map deref yielded ++ rest ≡ from_number edges seq → rest ≡ []
      → freed ≡ filter (one_unmet entries) (map (λ edge. edge.1) (map deref yielded)) → freed ≡ frees (nodes_of entries) seq
  freed-end yielded rest freed split none is =
      let all : map deref yielded ≡ from_number edges seq = sym (append-nil (map deref yielded)) ∙ ap (λ list. map deref yielded ++ list) (sym none) ∙ split in
      is ∙ ap (λ list. filter (one_unmet entries) (map (λ edge. edge.1) list)) all ∙ found-is
