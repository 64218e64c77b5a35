use Rattle.std.proofs.Common.{subst}
use Rattle.wm_graph.proofs.Truncated.{last-taken}
use Rattle.wm_graph.specs.Edges.{AreParted}
use Rattle.wm_graph.specs.Kept.{IsKept}
use Rattle.wm_graph.proofs.removing.remove_last.Goals as goal

pub returns-in-Some-clause-kept : goal.returns-in-Some-clause-kept
returns-in-Some-clause-kept c =
    last-taken c.pop_last.new.self.entries (c.in-Some.last, c.in-Some.node) c.args.edges.now c.drop_edges.new.edges
    (subst (λ entries. IsKept entries c.args.edges.now) c.in-Some.ensures.removal c.requires.kept)
    (subst (λ before. AreParted before c.in-Some.last c.args.edges.now c.drop_edges.new.edges) c.prerequisites.ensures c.drop_edges.ensures)
