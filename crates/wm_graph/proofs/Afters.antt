-- The nodes right after a node, by their edges.
use Rattle.std.proofs.Common.{◌≡◌, ℕ, ◌<◌, ◌==◌, List, filter, sym, ◌∙◌}
use Rattle.std.specs.BTreeSet.{BTreeSet}
use Rattle.wm_collections.specs.Lists.{is_among}
use Rattle.wm_collections.proofs.Lists.{AllLater-filter, AllLater-map, list_any-kept, list_any_after}
use Rattle.wm_collections.proofs.Ascending.{ascending-same}
use Rattle.wm_graph.specs.Descendants.{dependents}
use Rattle.wm_graph.specs.Edges.{has_edge, AreAfter, AreEdgesOf, Edge}
use Rattle.wm_graph.specs.Nodes.{IsGraph, NodeFields}

dependents-have : (nodes : List NodeFields) (edges : BTreeSet Edge) (seq to : ℕ) → AreEdgesOf nodes edges
    → is_among (dependents nodes seq) to ≡ has_edge edges seq to
dependents-have nodes edges seq to are =
    list_any_after (λ one. one == to) (λ (node : NodeFields). node.seq) (filter (λ node. is_among node.before seq) nodes)
    ∙ list_any-kept (λ node. node.seq == to) (λ node. is_among node.before seq) nodes ∙ sym (are seq to)

pub after-are : (nodes : List NodeFields) (edges : BTreeSet Edge) (seq : ℕ) (found : List ℕ) → IsGraph nodes → AreEdgesOf nodes edges
    → AreAfter edges seq found → found ≡ dependents nodes seq
after-are nodes edges seq found graph are after =
    ascending-same found (dependents nodes seq) after.ascending
    (AllLater-map (λ one later. one < later) (λ (node : NodeFields). node.seq) (filter (λ node. is_among node.before seq) nodes) (λ x y less. less)
    (AllLater-filter (λ one later. one.seq < later.seq) (λ node. is_among node.before seq) nodes graph.ascending))
    (λ to. after.each to ∙ sym (dependents-have nodes edges seq to are))
