-- What the graph of the records does in a step.
use Rattle.std.specs.Prelude.{ℕ, ◌<◌, ◌≤◌, ◌&&◌, not, List, [], ◌∷◌, ◌++◌, length, if◌then◌else◌}
use Rattle.std.specs.List.{AllByRecursion}
use Rattle.wm_graph.specs.Marks.{is_met, with_marked}
use Rattle.wm_graph.specs.Nodes.{without, NamesNodes, NodeFields}
use Rattle.wm_machine.specs.First.{is_succeeded}
use Rattle.wm_machine.specs.declared.record.Record.{Record}
use Rattle.wm_changes.specs.declared.change.Replacement.{Replacement}
use Rattle.wm_changes.specs.declared.change.StepChange.{StepChange}

-- ---- nodes that are added

-- a new record as a node: all its prerequisites are there
abbrev pub placed_node : Record → NodeFields
placed_node work = record { seq = work.seq; before = work.prior; done = is_succeeded work.phase }

-- a node can be added: its number is the greatest, and it names a few of those that are there
pub record IsAddable (nodes : List NodeFields) (node : NodeFields) : Type 0 where
  pub above : AllByRecursion (λ other. other.seq < node.seq) nodes
  pub few : length node.before ≤ 100
  pub names : NamesNodes nodes node.before

-- one after another
abbrev pub AreAddable : List NodeFields → List NodeFields → Type 0
AreAddable nodes [] = Unit {0}
AreAddable nodes (node ∷ later) = IsAddable nodes node × AreAddable (nodes ++ node ∷ []) later

-- ---- nodes that are marked or taken away

-- the nodes, with that of a record marked where it has succeeded and isn't marked yet
abbrev pub followed : Record → List NodeFields → List NodeFields
followed work nodes = if is_succeeded work.phase && not (is_met nodes work.seq) then with_marked work.seq nodes else nodes

abbrev pub with_followed : List Replacement → List NodeFields → List NodeFields
with_followed [] nodes = nodes
with_followed (replaced ∷ later) nodes = with_followed later (followed replaced.work nodes)

abbrev pub without_all : List ℕ → List NodeFields → List NodeFields
without_all [] nodes = nodes
without_all (number ∷ numbers) nodes = without_all numbers (without number nodes)

abbrev pub nodes_by : StepChange → List NodeFields → List NodeFields
nodes_by change nodes = without_all change.removed (with_followed change.replaced nodes)
