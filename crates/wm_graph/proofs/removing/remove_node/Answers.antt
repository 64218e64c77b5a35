use Rattle.std.proofs.Common.{nat_cmp, sym, subst, ◌≡◌, ◌∙◌, None, Some}
use Rattle.std.specs.BTreeMap.{is_at}
use Rattle.std.specs.Map.{lookup}
use Rattle.wm_graph.proofs.Removed.{removed-kept, removed-view, still-there}
use Rattle.wm_graph.specs.Edges.{AreParted}
use Rattle.wm_graph.specs.Kept.{forgotten_after}
use Rattle.wm_graph.proofs.removing.remove_node.Goals as goal

pub returns-in-Some-clause-kept : goal.returns-in-Some-clause-kept
returns-in-Some-clause-kept c =
    let found : lookup (is_at (nat_cmp c.args.seq)) (forgotten_after c.args.edges.now c.args.seq c.is_met-was_done.result c.args.nodes.now.entries) ≡ Some c.in-Some.node =
    rw c.forget_each.ensures.nodes at (sym c.in-Some.ensures.value) in
    rw (c.remove.ensures.entries, c.forget_each.ensures.nodes)
    (removed-kept c.args.nodes.now.entries c.args.edges.now c.args.seq c.is_met-was_done.result c.requires.kept c.forget_each.new.edges c.drop_edges.new.edges
    c.in-Some.node c.is_met-was_done.ensures c.forget_each.ensures.edges found
    (subst (λ before. AreParted before c.args.seq c.forget_each.new.edges c.drop_edges.new.edges) c.prerequisites.ensures c.drop_edges.ensures))

pub returns-in-Some-clause-without : goal.returns-in-Some-clause-without
returns-in-Some-clause-without c =
    let found : lookup (is_at (nat_cmp c.args.seq)) (forgotten_after c.args.edges.now c.args.seq c.is_met-was_done.result c.args.nodes.now.entries) ≡ Some c.in-Some.node =
    rw c.forget_each.ensures.nodes at (sym c.in-Some.ensures.value) in
    rw (c.remove.ensures.entries, c.forget_each.ensures.nodes)
    (removed-view c.args.nodes.now.entries c.args.edges.now c.args.seq c.is_met-was_done.result c.requires.kept c.forget_each.new.edges c.drop_edges.new.edges
    c.in-Some.node c.is_met-was_done.ensures c.forget_each.ensures.edges found
    (subst (λ before. AreParted before c.args.seq c.forget_each.new.edges c.drop_edges.new.edges) c.prerequisites.ensures c.drop_edges.ensures))

pub returns-in_default-clause-kept : goal.returns-in_default-clause-kept
returns-in_default-clause-kept c =
    let none : lookup (is_at (nat_cmp c.args.seq)) (forgotten_after c.args.edges.now c.args.seq c.is_met-was_done.result c.args.nodes.now.entries) ≡ None =
    rw c.forget_each.ensures.nodes at (sym c.remove.ensures.value ∙ c.in_default.is) in
    absurd (still-there c.args.nodes.now.entries c.args.edges.now c.args.seq c.is_met-was_done.result c.requires.kept c.requires.there none)

pub returns-in_default-clause-without : goal.returns-in_default-clause-without
returns-in_default-clause-without c =
    let none : lookup (is_at (nat_cmp c.args.seq)) (forgotten_after c.args.edges.now c.args.seq c.is_met-was_done.result c.args.nodes.now.entries) ≡ None =
    rw c.forget_each.ensures.nodes at (sym c.remove.ensures.value ∙ c.in_default.is) in
    absurd (still-there c.args.nodes.now.entries c.args.edges.now c.args.seq c.is_met-was_done.result c.requires.kept c.requires.there none)
