use Rattle.std.proofs.Common.{List, sym, ◌∙◌, ap, subst}
use Rattle.wm_graph.specs.Marks.{freed_by}
use Rattle.wm_graph.specs.Nodes.{NodeFields}
use Rattle.wm_machine.specs.declared.state.State.{State}
use Rattle.wm_graph.proofs.ListedNumbers.{rising-ascend}
use Rattle.wm_steps.proofs.Rising.{freed-rise}
use Rattle.wm_changes.specs.Nodes.{nodes_of, IsUnmarked}
use Rattle.wm_graph.specs.Numbers.{Ascend, RiseFrom}
use Rattle.wm_steps.proofs.view.View.freed_by.Goals as goal

pub frees-requires-clause-node : goal.frees-requires-clause-node
frees-requires-clause-node c =
    (subst (λ (nodes : List NodeFields). IsUnmarked nodes c.args.number)
    (sym (c.self.invariant.graph_is ∙ ap (λ (t : State). nodes_of t.works) c.self.view_is)) c.requires).there

pub frees-requires-clause-unmarked : goal.frees-requires-clause-unmarked
frees-requires-clause-unmarked c =
    (subst (λ (nodes : List NodeFields). IsUnmarked nodes c.args.number)
    (sym (c.self.invariant.graph_is ∙ ap (λ (t : State). nodes_of t.works) c.self.view_is)) c.requires).unmarked

pub of-requires : goal.of-requires
of-requires c =
    let s = c.self.inside.state in
    let valid = c.self.invariant.valid in
    let rise = freed-rise s.works c.args.number valid.works.in_order valid.works.records in
    subst Ascend
    (sym (c.from_vec.ensures ∙ c.in_ok-freed.ensures.freed_by ∙ ap (λ (nodes : List NodeFields). freed_by nodes c.args.number) c.self.invariant.graph_is))
    (rising-ascend (freed_by (nodes_of s.works) c.args.number) rise.ascending)

pub returns-clause-freed : goal.returns-clause-freed
returns-clause-freed c =
    c.of.ensures ∙ c.from_vec.ensures ∙ c.in_ok-freed.ensures.freed_by
    ∙ ap (λ (nodes : List NodeFields). freed_by nodes c.args.number)
    (c.self.invariant.graph_is ∙ ap (λ (t : State). nodes_of t.works) c.self.view_is)

pub returns-clause-rise : goal.returns-clause-rise
returns-clause-rise c =
    let s = c.self.inside.state in
    let valid = c.self.invariant.valid in
    subst (RiseFrom c.args.number)
    (sym (c.of.ensures ∙ c.from_vec.ensures ∙ c.in_ok-freed.ensures.freed_by
    ∙ ap (λ (nodes : List NodeFields). freed_by nodes c.args.number) c.self.invariant.graph_is))
    (freed-rise s.works c.args.number valid.works.in_order valid.works.records)
