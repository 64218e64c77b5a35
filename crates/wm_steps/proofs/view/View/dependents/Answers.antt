use Rattle.std.proofs.Common.{List, ap, ◌∙◌}
use Rattle.std.proofs.lemmas.Result.{IfOk-weaker}
use Rattle.wm_graph.specs.Descendants.{dependents}
use Rattle.wm_graph.specs.Nodes.{NodeFields}
use Rattle.wm_machine.specs.declared.state.State.{State}
use Rattle.wm_changes.specs.Nodes.{nodes_of}
use Rattle.wm_steps.proofs.view.View.dependents.Goals as goal

pub returns : goal.returns
returns c =
    IfOk-weaker c.dependents.result _ _
    (λ found is. is ∙ ap (λ (nodes : List NodeFields). dependents nodes c.args.number)
    (c.self.invariant.graph_is ∙ ap (λ (t : State). nodes_of t.works) c.self.view_is)) c.dependents.ensures
