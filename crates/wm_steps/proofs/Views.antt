-- What the type of a view keeps.
use Rattle.std.proofs.Common.{◌≡◌, List, subst}
use Rattle.wm_graph.specs.Nodes.{NodeFields}
use Rattle.wm_index.specs.Entries.{Entry}
use Rattle.wm_machine.specs.Valid.{Valid}
use Rattle.wm_machine.specs.declared.state.State.{State}
use Rattle.wm_steps.specs.Views.{IsViewed}
use Rattle.wm_steps.specs.declared.covers.Covers.{Covers}
use Rattle.wm_steps.specs.declared.startable.Startable.{Startable}

-- the state that a view is seen as is valid
pub reached-view : (s now : State) (graph : List NodeFields) {index : List Entry} {startable : Startable} {covers : Covers} → s ≡ now
    → IsViewed s graph index startable covers → Valid now
reached-view s now graph is viewed = subst Valid is viewed.valid
