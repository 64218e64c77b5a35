use Rattle.std.proofs.Common.{◌≡◌}
use Rattle.std.specs.Prelude.{reverse}
use Rattle.std.proofs.lemmas.Result.{IfOk-weaker}
use Rattle.wm_graph.proofs.Found.{walk-is}
use Rattle.wm_graph.proofs.Starts.{rising}
use Rattle.wm_graph.specs.Descendants.{descendants}
use Rattle.wm_graph.specs.Edges.{IsWalk}
use Rattle.wm_graph.specs.Kept.{nodes_of}
use Rattle.wm_graph.proofs.walks.reached.Goals as goal

pub walked-requires : goal.walked-requires
walked-requires c = record {
  numbered = c.requires.low;
  rising = rising (nodes_of c.args.nodes.now.entries) c.args.edges.now c.requires.graph c.requires.edges_are;
}

pub returns : goal.returns
returns c =
    IfOk-weaker c.walked.result (λ found. IsWalk c.args.edges.now c.in_ok-starts.starts found.items)
    (λ found. found.items ≡ reverse (descendants c.args.seqs.now (reverse (nodes_of c.args.nodes.now.entries))))
    (λ found walk. walk-is (nodes_of c.args.nodes.now.entries) c.args.edges.now c.in_ok-starts.starts c.args.seqs.now found.items
    c.requires.graph c.requires.edges_are c.in_ok-starts.ensures walk) c.walked.ensures
