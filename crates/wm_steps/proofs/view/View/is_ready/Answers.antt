use Rattle.std.proofs.Common.{◌≡◌, ◌&&◌, eqb, Some, sym, ◌∙◌, ap, subst}
use Rattle.wm_graph.specs.Marks.{unmet}
use Rattle.wm_graph.specs.Nodes.{HasNode}
use Rattle.wm_machine.specs.Input.{work_numbered}
use Rattle.wm_machine.specs.declared.state.State.{State}
use Rattle.wm_steps.proofs.Unmets.{found-node, ready-unmet}
use Rattle.wm_changes.specs.Nodes.{nodes_of}
use Rattle.wm_changes.specs.Readiness.{is_ready_in}
use Rattle.wm_steps.proofs.view.View.is_ready.Goals as goal

pub unmet-requires : goal.unmet-requires
unmet-requires c =
    let work = c.args.work.now in
    let there = subst (λ (t : State). work_numbered work.seq t.works ≡ Some work) (sym c.self.view_is) c.requires.there in
    subst (λ nodes. HasNode nodes work.seq) (sym c.self.invariant.graph_is) (found-node c.self.inside.state.works work there)

pub returns-then-is_waiting : goal.returns-then-is_waiting
returns-then-is_waiting c =
    let work = c.args.work.now in
    let works = c.self.inside.state.works in
    let there = subst (λ (t : State). work_numbered work.seq t.works ≡ Some work) (sym c.self.view_is) c.requires.there in
    ap (λ n. eqb n 0) (c.unmet.ensures.unmet ∙ ap (λ nodes. unmet nodes work.seq) c.self.invariant.graph_is)
    ∙ ap (λ b. b && eqb (unmet (nodes_of works) work.seq) 0) (sym c.if-is_waiting.true ∙ c.is_waiting.ensures)
    ∙ ready-unmet works work c.self.invariant.valid.works.sound there
    ∙ ap (λ (t : State). is_ready_in t.works work) c.self.view_is
