use Rattle.std.proofs.Common.{sym, ◌∙◌, ap, subst}
use Rattle.wm_machine.specs.declared.state.State.{State}
use Rattle.wm_graph.proofs.ListedNumbers.{rising-ascend}
use Rattle.wm_changes.specs.Nodes.{nodes_of, reached_from}
use Rattle.wm_graph.specs.Numbers.{Ascend}
use Rattle.wm_steps.proofs.view.View.descendants_of.Goals as goal

pub of-requires : goal.of-requires
of-requires c = subst Ascend (sym c.from_vec.ensures) (rising-ascend c.in_ok-found.found.items c.in_ok-found.ensures.descendants.ascending)

pub returns : goal.returns
returns c =
    c.of.ensures ∙ c.from_vec.ensures ∙ c.in_ok-found.ensures.found
    ∙ ap (reached_from c.args.numbers.now) (c.self.invariant.graph_is ∙ ap (λ (t : State). nodes_of t.works) c.self.view_is)
