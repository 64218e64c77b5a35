-- What is kept of each node.
use Rattle.std.specs.Prelude.{◌≡◌, ℕ, ◌==◌, ◌-◌, Bool, true, not, List, [], ◌∷◌, ◌++◌, filter, length, map, if◌then◌else◌}
use Rattle.std.specs.BTreeSet.{BTreeSet}
use Rattle.std.specs.List.{AllByRecursion}
use Rattle.wm_graph.specs.Edges.{has_edge, AreEdgesOf, AreNumbered, Edge}
use Rattle.wm_graph.specs.Marks.{unmet_of}
use Rattle.wm_graph.specs.Nodes.{IsGraph, NodeFields}

-- a node's prerequisites, whether it is marked, and how many of them aren't
pub record Kept : Type 0 where
  pub before : List ℕ
  pub done : Bool
  pub unmet : ℕ

abbrev pub lowered : Kept → Kept
lowered kept = record kept { unmet = kept.unmet - 1 }

-- it has a number, whose node was marked or wasn't, as a prerequisite no more
abbrev pub forgotten : ℕ → Bool → Kept → Kept
forgotten seq was_done kept = record kept { before = filter (λ number. not (number == seq)) kept.before; unmet = if was_done then kept.unmet else kept.unmet - 1 }

abbrev pub fields_of : ℕ × Kept → NodeFields
fields_of entry = record { seq = entry.0; before = entry.1.before; done = entry.1.done }

abbrev pub nodes_of : List (ℕ × Kept) → List NodeFields
nodes_of entries = map fields_of entries

-- an entry with what is kept changed, where a test of its number passes
abbrev pub changed_where : (Kept → Kept) → (ℕ → Bool) → ℕ × Kept → ℕ × Kept
changed_where change test entry = if test entry.0 then (entry.0, change entry.1) else entry

-- the entries with what is kept of one node changed
abbrev pub changed_at : (Kept → Kept) → ℕ → List (ℕ × Kept) → List (ℕ × Kept)
changed_at change number entries = map (λ entry. if entry.0 == number then (entry.0, change entry.1) else entry) entries

abbrev pub lowered_at : ℕ → List (ℕ × Kept) → List (ℕ × Kept)
lowered_at number entries = changed_at lowered number entries

-- the entries with one prerequisite less unmet where a test of their numbers passes
abbrev pub lowered_where : (ℕ → Bool) → ℕ × Kept → ℕ × Kept
lowered_where test entry = if test entry.0 then (entry.0, lowered entry.1) else entry

-- and of each that comes right after a node
abbrev pub lowered_after : BTreeSet Edge → ℕ → List (ℕ × Kept) → List (ℕ × Kept)
lowered_after edges number entries = map (lowered_where (has_edge edges number)) entries

-- each that comes right after a node has that as a prerequisite no more
abbrev pub forgotten_after : BTreeSet Edge → ℕ → Bool → List (ℕ × Kept) → List (ℕ × Kept)
forgotten_after edges number was_done entries = map (changed_where (forgotten number was_done) (has_edge edges number)) entries

abbrev pub done : Kept → Kept
done kept = record kept { done = true }

-- how many prerequisites of a node aren't marked is kept
abbrev pub IsCounted : List NodeFields → ℕ × Kept → Type 0
IsCounted nodes entry = entry.1.unmet ≡ length (unmet_of nodes entry.1.before)

-- what is kept is a graph with its edges and its counts
pub record IsKept (entries : List (ℕ × Kept)) (edges : BTreeSet Edge) : Type 0 where
  pub graph : IsGraph (nodes_of entries)
  pub edges_are : AreEdgesOf (nodes_of entries) edges
  pub low : AreNumbered edges
  pub counts : AllByRecursion (IsCounted (nodes_of entries)) entries

-- the entries without their last one
abbrev pub LosesLast : List (ℕ × Kept) → List (ℕ × Kept) → Type 0
LosesLast old new = (last : ℕ × Kept) × (old ≡ new ++ last ∷ [])
