-- What a node reaches. After the guide's page "Chaining work", where a failure or a cancelling reaches all work that depends on it.
use Rattle.std.specs.Prelude.{◌≡◌, ℕ, ◌<◌, ◌||◌, List, [], ◌∷◌, if◌then◌else◌, filter, map}
use Rattle.std.specs.List.{AllByRecursion, list_any}
use Rattle.wm_collections.specs.Lists.{AllLater, is_among}
use Rattle.wm_graph.specs.Nodes.{HasNode, NodeFields}

-- the numbers of the nodes that have this one as a prerequisite, ascending
abbrev pub dependents : List NodeFields → ℕ → List ℕ
dependents nodes seq = map (λ node. node.seq) (filter (λ node. is_among node.before seq) nodes)

-- The numbers of the descendants of some nodes among these nodes, which stand in descending number: those nodes themselves, and each node that has
-- a descendant as a prerequisite. Prerequisites have smaller numbers.
abbrev pub descendants : List ℕ → List NodeFields → List ℕ
descendants seqs [] = []
descendants seqs (node ∷ earlier) =
    if is_among seqs node.seq || list_any (is_among (descendants seqs earlier)) node.before then node.seq ∷ descendants seqs earlier
    else descendants seqs earlier

-- a node is found exactly where it is one of the nodes themselves, or one of its prerequisites is found
abbrev pub IsFoundRight : List ℕ → List ℕ → NodeFields → Type 0
IsFoundRight seqs found node = is_among found node.seq ≡ (is_among seqs node.seq || list_any (is_among found) node.before)

-- What was found are the descendants of some nodes. There is only one such list, since prerequisites have smaller numbers.
pub record AreDescendants (nodes : List NodeFields) (seqs found : List ℕ) : Type 0 where
  pub ascending : AllLater (λ number later. number < later) found
  pub there : AllByRecursion (HasNode nodes) found
  pub each : AllByRecursion (IsFoundRight seqs found) nodes

-- the node itself is the first that is found
abbrev pub BeginsWith : ℕ → List ℕ → Type 0
BeginsWith seq found = (rest : List ℕ) × (found ≡ seq ∷ rest)
