use Rattle.std.proofs.Common.{sym, ◌∙◌}
use Rattle.wm_graph.proofs.Dependents.{none-after}
use Rattle.wm_graph.proofs.removing.first_after.Goals as goal

pub returns-in-None : goal.returns-in-None
returns-in-None c =
    let between = rw (c.new.ensures.start, c.new.ensures.end) at (c.range.ensures.between c.new.ensures.exhausted) in
    none-after c.args.edges.now c.args.seq c.requires (sym between ∙ c.in-None.ensures.steps.0)
