use Rattle.std.proofs.Common.{take, ap, ◌∙◌}
use Rattle.wm_graph.proofs.Truncated.{first-nodes}
use Rattle.wm_graph.specs.Kept.{nodes_of}
use Rattle.wm_graph.proofs.graph.Graph.truncate.Goals as goal

pub returns : goal.returns
returns c =
    ap nodes_of c.truncate_nodes.ensures.first ∙ first-nodes c.args.count c.self.inside.nodes.entries ∙ ap (λ nodes. take c.args.count nodes) c.self.view_is
