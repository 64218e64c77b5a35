-- The records as the nodes of a graph.
use Rattle.std.specs.Prelude.{◌≡◌, ◌≢◌, ℕ, ◌==◌, ◌≤◌, Bool, true, false, List, length, map, filter, reverse}
use Rattle.std.specs.List.{AllByRecursion, list_any}
use Rattle.wm_collections.specs.Lists.{AllLater}
use Rattle.wm_graph.specs.Descendants.{descendants}
use Rattle.wm_graph.specs.Marks.{is_met}
use Rattle.wm_graph.specs.Nodes.{HasNode, NodeFields}
use Rattle.wm_machine.specs.First.{is_succeeded}
use Rattle.wm_machine.specs.declared.record.Record.{Record}

-- whether a record of this number is there
abbrev pub is_there : List Record → ℕ → Bool
is_there works number = list_any (λ work. work.seq == number) works

-- different records that are there, at most 100
pub record AreThere (works : List Record) (numbers : List ℕ) : Type 0 where
  pub few : length numbers ≤ 100
  pub different : AllLater (λ number later. number ≢ later) numbers
  pub there : AllByRecursion (λ number. is_there works number ≡ true) numbers

-- a record as a node among the records: its number, those of its prerequisites that are there, and whether it has succeeded
abbrev pub node_of : List Record → Record → NodeFields
node_of works work = record { seq = work.seq; before = filter (is_there works) work.prior; done = is_succeeded work.phase }

abbrev pub nodes_of : List Record → List NodeFields
nodes_of works = map (node_of works) works

-- the numbers of the descendants of some works, ascending
abbrev pub reached_from : List ℕ → List NodeFields → List ℕ
reached_from seqs nodes = reverse (descendants seqs (reverse nodes))

-- a node that is there and isn't marked
pub record IsUnmarked (nodes : List NodeFields) (seq : ℕ) : Type 0 where
  pub there : HasNode nodes seq
  pub unmarked : is_met nodes seq ≡ false
