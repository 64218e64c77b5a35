-- The nodes that have a node as a prerequisite, as pairs of numbers.
use Rattle.std.specs.Prelude.{◌≡◌, ℕ, ◌==◌, ◌<◌, ◌≤◌, ◌&&◌, ◌||◌, Bool, true, false, not, List}
use Rattle.std.specs.List.{list_any}
use Rattle.std.specs.Ordering.{nat_cmp, ordering_then}
use Rattle.std.specs.declared.cmp.Ordering.{Ordering}
use Rattle.std.specs.BTreeSet.{contains, BTreeSet}
use Rattle.wm_collections.specs.Lists.{AllLater, is_among}
use Rattle.wm_collections.specs.Sets.{has_number}
use Rattle.wm_graph.specs.Nodes.{NodeFields}

-- a node and one that comes right after it
abbrev pub Edge : Type 0
Edge = ℕ × ℕ

abbrev pub edge_cmp : Edge → Edge → Ordering
edge_cmp x y = ordering_then (nat_cmp x.0 y.0) (nat_cmp x.1 y.1)

abbrev pub has_edge : BTreeSet Edge → ℕ → ℕ → Bool
has_edge edges from to = contains edge_cmp edges (from, to)

-- the node of a number has another as a prerequisite
abbrev pub names : List NodeFields → ℕ → ℕ → Bool
names nodes from to = list_any (λ node. node.seq == to && is_among node.before from) nodes

-- numbers in their range
abbrev pub AreNumbered : BTreeSet Edge → Type 0
AreNumbered edges = (from to : ℕ) → has_edge edges from to ≡ true → to ≤ 18446744073709551615

-- an edge goes to a greater number
abbrev pub AreRising : BTreeSet Edge → Type 0
AreRising edges = (from to : ℕ) → has_edge edges from to ≡ true → from < to

-- whether a node comes right after one of these
abbrev pub comes_after : BTreeSet Edge → List ℕ → ℕ → Bool
comes_after edges found number = list_any (λ from. has_edge edges from number) found

-- what a walk finds: the numbers it begins at, and each that comes right after one that is found
pub record IsWalk (edges : BTreeSet Edge) (starts : BTreeSet ℕ) (found : List ℕ) : Type 0 where
  pub ascending : AllLater (λ number later. number < later) found
  pub each : (number : ℕ) → is_among found number ≡ (has_number starts number || comes_after edges found number)

-- the nodes right after a node, ascending
pub record AreAfter (edges : BTreeSet Edge) (from : ℕ) (found : List ℕ) : Type 0 where
  pub ascending : AllLater (λ number later. number < later) found
  pub each : (to : ℕ) → is_among found to ≡ has_edge edges from to

-- no node comes right after a node
abbrev pub NoneAfter : BTreeSet Edge → ℕ → Type 0
NoneAfter edges from = (to : ℕ) → has_edge edges from to ≡ false

-- the edges are those of the nodes
abbrev pub AreEdgesOf : List NodeFields → BTreeSet Edge → Type 0
AreEdgesOf nodes edges = (from to : ℕ) → has_edge edges from to ≡ names nodes from to

-- a walk begins at those of these numbers that are nodes
abbrev pub BeginsAt : List NodeFields → List ℕ → BTreeSet ℕ → Type 0
BeginsAt nodes seqs starts = (number : ℕ) → has_number starts number ≡ (is_among seqs number && list_any (λ node. node.seq == number) nodes)

-- whether an edge goes from one of these numbers to another
abbrev pub is_new : List ℕ → ℕ → ℕ → ℕ → Bool
is_new before seq from to = to == seq && is_among before from

-- these edges are there too
abbrev pub AreJoined : List ℕ → ℕ → BTreeSet Edge → BTreeSet Edge → Type 0
AreJoined before seq old new = (from to : ℕ) → has_edge new from to ≡ (has_edge old from to || is_new before seq from to)

-- the other edges stay
abbrev pub KeepsOthers : List ℕ → ℕ → BTreeSet Edge → BTreeSet Edge → Type 0
KeepsOthers before seq old new = (from to : ℕ) → is_new before seq from to ≡ false → has_edge new from to ≡ has_edge old from to

-- these edges aren't there any more
abbrev pub AreParted : List ℕ → ℕ → BTreeSet Edge → BTreeSet Edge → Type 0
AreParted before seq old new = (from to : ℕ) → has_edge new from to ≡ (has_edge old from to && not (is_new before seq from to))

-- no edge from this number is there any more
abbrev pub IsCutFrom : ℕ → BTreeSet Edge → BTreeSet Edge → Type 0
IsCutFrom seq old new = (from to : ℕ) → has_edge new from to ≡ (has_edge old from to && not (from == seq))
