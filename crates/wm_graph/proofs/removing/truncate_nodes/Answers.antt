use Rattle.std.proofs.Common.{◌<◌, length, subst, ◌∙◌}
use Rattle.wm_graph.proofs.Truncated.{first-stay}
use Rattle.wm_graph.proofs.removing.truncate_nodes.Goals as goal

pub loop-nodes-preserved : goal.loop-nodes-preserved
loop-nodes-preserved c =
    let more : c.args.count < length c.loop-nodes.nodes.entries = subst (λ n. c.args.count < n) c.len.ensures.len c.loop-nodes-test.true in
    record {
      kept = c.remove_last.ensures.kept;
      first = first-stay c.args.count c.loop-nodes.nodes.entries c.remove_last.new.nodes.entries c.remove_last.ensures.last more ∙ c.loop-nodes.invariant.first;
    }
