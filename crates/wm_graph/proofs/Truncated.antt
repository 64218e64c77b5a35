-- The last node taken away.
use Rattle.std.proofs.Common.{◌≡◌, ℕ, ◌<◌, ◌≤◌, ◌==◌, ◌||◌, ◌&&◌, Bool, true, false, not, List, [], ◌∷◌, ◌++◌, length, take, refl, sym, ap, subst, ◌∙◌, arith, length-append}
use Rattle.wm_graph.proofs.Tests.{eq-swap}
use Rattle.std.proofs.lemmas.Bool.{and_parts, eqb-true}
use Rattle.std.proofs.lemmas.List.{map-append, take-append-le, take-map}
use Rattle.std.proofs.lemmas.List.Folds.{list_any-append}
use Rattle.std.specs.List.{AllByRecursion}
use Rattle.std.specs.BTreeSet.{BTreeSet}
use Rattle.wm_collections.specs.Lists.{is_among}
use Rattle.wm_collections.proofs.Lists.{All-front, All-unmap, All-weaker, All-with3}
use Rattle.wm_graph.proofs.Graphs.{front-before, IsGraph-front}
use Rattle.wm_graph.proofs.Placed.{earlier-than, names-above, unmet-front}
use Rattle.wm_graph.specs.Edges.{has_edge, is_new, names, AreEdgesOf, AreParted, Edge}
use Rattle.wm_graph.specs.Kept.{fields_of, nodes_of, IsCounted, IsKept, Kept, LosesLast}
use Rattle.wm_graph.specs.Nodes.{IsGraph, IsNode, NodeFields}

last-case : (x t a : Bool) → (t ≡ true → x ≡ false) → ((x || ((t && a) || false)) && not (t && a)) ≡ x
last-case true true a none = absurd (let e = none refl in cc)
last-case true false a none = refl
last-case false true true none = refl
last-case false true false none = refl
last-case false false a none = refl

module _ (entries : List (ℕ × Kept)) (last : ℕ × Kept) (old new : BTreeSet Edge) (kept : IsKept (entries ++ last ∷ []) old)
    (parted : AreParted last.1.before last.0 old new) where
  abbrev all : List NodeFields
  all = nodes_of entries ++ fields_of last ∷ []

  split : nodes_of (entries ++ last ∷ []) ≡ all
  split = map-append fields_of entries (last ∷ [])

  whole : IsGraph all
  whole = subst IsGraph split kept.graph

  graph : IsGraph (nodes_of entries)
  graph = IsGraph-front (nodes_of entries) (fields_of last ∷ []) whole

  below : AllByRecursion (λ node. node.seq < last.0) (nodes_of entries)
  below = All-weaker (nodes_of entries) (λ node less. less.0) (front-before (nodes_of entries) (fields_of last ∷ []) whole.ascending)

  named : (from to : ℕ) → has_edge old from to ≡ (names (nodes_of entries) from to || ((to == last.0 && is_among last.1.before from) || false))
  named from to =
      subst (λ nodes. AreEdgesOf nodes old) split kept.edges_are from to
      ∙ list_any-append (λ node. node.seq == to && is_among node.before from) (nodes_of entries) (fields_of last ∷ [])
      ∙ ap (λ b. names (nodes_of entries) from to || ((b && is_among last.1.before from) || false)) (eq-swap last.0 to)

  edges : AreEdgesOf (nodes_of entries) new
  edges from to =
      parted from to ∙ ap (λ b. b && not (is_new last.1.before last.0 from to)) (named from to)
      ∙ last-case (names (nodes_of entries) from to) (to == last.0) (is_among last.1.before from)
      (λ here. subst (λ n. names (nodes_of entries) from n ≡ false) (sym (eqb-true to last.0 here)) (names-above (nodes_of entries) last.0 from below))

  counted : (entry : ℕ × Kept) → IsCounted all entry → IsNode (nodes_of entries) (fields_of entry) → entry.0 < last.0 → IsCounted (nodes_of entries) entry
  counted entry is node_is less =
      is ∙ ap length (unmet-front (nodes_of entries) (fields_of last) entry.1.before (earlier-than last.0 (nodes_of entries) (fields_of entry) node_is less))

  pub last-taken : IsKept entries new
  last-taken = record {
    graph = graph;
    edges_are = edges;
    low = λ from to has. kept.low from to (and_parts (has_edge old from to) (not (is_new last.1.before last.0 from to)) (sym (parted from to) ∙ has)).0;
    counts =
        All-with3 entries counted (All-front (IsCounted all) entries (last ∷ []) (subst (λ nodes. AllByRecursion (IsCounted nodes) (entries ++ last ∷ [])) split kept.counts))
        (All-unmap (IsNode (nodes_of entries)) fields_of entries graph.each) (All-unmap (λ n. n.seq < last.0) fields_of entries below);
  }

-- ---- the first ones stay

pub first-stay : (count : ℕ) (old new : List (ℕ × Kept)) → LosesLast old new → count < length old → take count new ≡ take count old
first-stay count old new loses more =
    let long : count ≤ length new = let longer : count < length (new ++ loses.0 ∷ []) = subst (λ list. count < length list) loses.1 more in
    let counted = length-append new (loses.0 ∷ []) in omega (arith, longer, counted) in
    sym (ap (take count) loses.1 ∙ take-append-le count new (loses.0 ∷ []) long)

pub first-nodes : (count : ℕ) (entries : List (ℕ × Kept)) → nodes_of (take count entries) ≡ take count (nodes_of entries)
first-nodes count entries = sym (take-map fields_of count entries)
