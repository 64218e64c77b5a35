use Rattle.std.proofs.Common.{◌≡◌, ap, ◌∙◌}
use Rattle.std.proofs.lemmas.Result.{IfOk-weaker}
use Rattle.wm_graph.proofs.Leaves.{leaves-are}
use Rattle.wm_collections.specs.Sets.{IsListOf}
use Rattle.wm_graph.specs.Kept.{nodes_of}
use Rattle.wm_graph.specs.Leaves.{leaves}
use Rattle.wm_graph.proofs.graph.Graph.leaves.Goals as goal

pub returns : goal.returns
returns c =
    IfOk-weaker c.listed.result (λ list. IsListOf c.drop_needed.new.numbers list.items) (λ last. last.items ≡ leaves c.args.self.now c.args.among.now)
    (λ list is. leaves-are (nodes_of c.self.inside.nodes.entries) c.args.among.now c.in_ok-last.last c.drop_needed.new.numbers list.items
    c.self.invariant.graph c.in_ok-last.ensures c.drop_needed.ensures is ∙ ap (λ nodes. leaves nodes c.args.among.now) c.self.view_is) c.listed.ensures
