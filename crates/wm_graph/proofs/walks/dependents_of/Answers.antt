use Rattle.std.proofs.Common.{◌∙◌}
use Rattle.wm_graph.proofs.Lowered.{after-end}
use Rattle.wm_graph.proofs.walks.dependents_of.Goals as goal

pub returns : goal.returns
returns c =
    let between = rw (c.new.ensures.start, c.new.ensures.end) at (c.range-edge-items.ensures.between c.new.ensures.exhausted) in
    after-end c.args.edges.now c.args.seq c.requires c.range-edge-items.ensures.ordered c.loop-edge.yielded c.loop-edge.edge-iterator c.loop-edge.found.items
    (c.loop-edge.invariant.split ∙ c.into_iter-edge-iterator.ensures.into_iter_gives ∙ between) c.in-None.ensures.steps.0 c.loop-edge.invariant.found
