use Rattle.std.proofs.Common.{List, [], ◌∷◌, sym, ◌∙◌, ap, subst}
use Rattle.wm_graph.specs.Nodes.{HasNode, NodeFields}
use Rattle.wm_machine.specs.declared.state.State.{State}
use Rattle.wm_graph.proofs.ListedNumbers.{rising-ascend}
use Rattle.wm_steps.proofs.Rising.{descendants-rise}
use Rattle.wm_changes.specs.Nodes.{nodes_of, reached_from}
use Rattle.wm_graph.specs.Numbers.{Ascend, RiseFrom}
use Rattle.wm_steps.proofs.view.View.descendants.Goals as goal

pub descendants-requires : goal.descendants-requires
descendants-requires c =
    subst (λ (nodes : List NodeFields). HasNode nodes c.args.number)
    (sym (c.self.invariant.graph_is ∙ ap (λ (t : State). nodes_of t.works) c.self.view_is)) c.requires

pub of-requires : goal.of-requires
of-requires c = subst Ascend (sym c.from_vec.ensures) (rising-ascend c.in_ok-found.found.items c.in_ok-found.ensures.descendants.ascending)

pub returns-clause-found : goal.returns-clause-found
returns-clause-found c =
    c.of.ensures ∙ c.from_vec.ensures ∙ c.in_ok-found.ensures.found
    ∙ ap (reached_from (c.args.number ∷ [])) (c.self.invariant.graph_is ∙ ap (λ (t : State). nodes_of t.works) c.self.view_is)

pub returns-clause-rise : goal.returns-clause-rise
returns-clause-rise c =
    subst (RiseFrom c.args.number) (sym (c.of.ensures ∙ c.from_vec.ensures))
    (descendants-rise c.self.inside.graph c.args.number c.in_ok-found.found.items c.in_ok-found.ensures.descendants c.in_ok-found.ensures.itself_first)
