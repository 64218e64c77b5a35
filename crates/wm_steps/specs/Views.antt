-- What is kept beside a state, and agrees with it.
use Rattle.std.specs.Prelude.{◌≡◌, List}
use Rattle.wm_graph.specs.Nodes.{NodeFields}
use Rattle.wm_index.specs.Entries.{Entry}
use Rattle.wm_machine.specs.Valid.{Valid}
use Rattle.wm_machine.specs.declared.state.State.{State}
use Rattle.wm_steps.specs.Covers.{AreCovered}
use Rattle.wm_steps.specs.Entries.{AreEntriesOf}
use Rattle.wm_changes.specs.Nodes.{nodes_of}
use Rattle.wm_steps.specs.Startables.{AreStartable}
use Rattle.wm_steps.specs.declared.covers.Covers.{Covers}
use Rattle.wm_steps.specs.declared.startable.Startable.{Startable}

-- the state is valid, the graph and the index are those of its records, its works that are ready are those that are kept, and each unique name has a
-- mark that it may have
pub record IsViewed (s : State) (graph : List NodeFields) (index : List Entry) (startable : Startable) (covers : Covers) : Type 0 where
  pub valid : Valid s
  pub graph_is : graph ≡ nodes_of s.works
  pub entries_are : AreEntriesOf s.works index
  pub startable_are : AreStartable s startable
  pub covered : AreCovered s covers
