use Rattle.std.proofs.Common.{◌≡◌, ap, ◌∙◌}
use Rattle.std.proofs.lemmas.Result.{IfOk-weaker}
use Rattle.wm_graph.proofs.Afters.{after-are}
use Rattle.wm_graph.specs.Descendants.{dependents}
use Rattle.wm_graph.specs.Edges.{AreAfter}
use Rattle.wm_graph.specs.Kept.{nodes_of}
use Rattle.wm_graph.proofs.graph.Graph.dependents.Goals as goal

pub returns : goal.returns
returns c =
    IfOk-weaker c.dependents_of.result (λ found. AreAfter c.self.inside.edges c.args.seq found.items) (λ found. found.items ≡ dependents c.args.self.now c.args.seq)
    (λ found after. after-are (nodes_of c.self.inside.nodes.entries) c.self.inside.edges c.args.seq found.items c.self.invariant.graph c.self.invariant.edges_are after
    ∙ ap (λ nodes. dependents nodes c.args.seq) c.self.view_is) c.dependents_of.ensures
