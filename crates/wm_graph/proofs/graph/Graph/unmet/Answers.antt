use Rattle.std.proofs.Common.{◌≡◌, ◌≤◌, sym, ap, subst, ◌∙◌}
use Rattle.wm_graph.specs.Kept.{nodes_of}
use Rattle.wm_graph.specs.Marks.{unmet}
use Rattle.wm_graph.proofs.Starts.{absent, count-found}
use Rattle.wm_graph.proofs.Unmet.{unmet-few}
use Rattle.wm_graph.specs.Nodes.{HasNode, IsGraph}
use Rattle.wm_graph.proofs.graph.Graph.unmet.Goals as goal

pub returns-in-Some : goal.returns-in-Some
returns-in-Some c =
    let counted : c.unmet.result ≡ unmet c.args.self.now c.args.seq = c.unmet.ensures
    ∙ sym (count-found (nodes_of c.self.inside.nodes.entries) c.args.seq c.in-Some.node.now c.self.inside.nodes.entries c.self.invariant.counts (sym c.in-Some.ensures.value))
    ∙ ap (λ nodes. unmet nodes c.args.seq) c.self.view_is in
    record {
      unmet = counted;
      few = subst (λ n. n ≤ 100) (sym counted) (unmet-few c.args.self.now c.args.seq (subst IsGraph c.self.view_is c.self.invariant.graph));
    }

pub returns-in-None : goal.returns-in-None
returns-in-None c =
    absurd (absent c.self.inside.nodes.entries c.args.seq (sym c.in-None.ensures.value) (subst (λ nodes. HasNode nodes c.args.seq) (sym c.self.view_is) c.requires))
