use Rattle.wm_graph.proofs.Forgotten.{cut-all, forgotten-all, forgotten-more, forgotten-none}
use Rattle.wm_graph.proofs.removing.forget_each.Goals as goal

pub loop-number-init : goal.loop-number-init
loop-number-init c = forgotten-none c.args.seq c.args.was_done c.args.edges.now c.args.nodes.now.entries c.requires

pub loop-number-preserved : goal.loop-number-preserved
loop-number-preserved c =
    forgotten-more c.args.seq c.args.was_done c.args.edges.now c.loop-number.edges c.remove.new.self c.args.nodes.now.entries c.loop-number.nodes.entries
    c.forget.new.nodes.entries c.in-Some.number c.loop-number.invariant c.in-Some.ensures c.remove.ensures.updates c.forget.ensures

pub returns : goal.returns
returns c =
    let none = rw c.in_default.is at c.first_after.ensures in
    record {
      nodes = forgotten-all c.args.seq c.args.was_done c.args.edges.now c.loop-number.edges c.args.nodes.now.entries c.loop-number.nodes.entries c.loop-number.invariant none;
      edges = cut-all c.args.seq c.args.was_done c.args.edges.now c.loop-number.edges c.args.nodes.now.entries c.loop-number.nodes.entries c.loop-number.invariant none;
    }
