use Rattle.std.proofs.Common.{ap, sym, ◌∙◌}
use Rattle.std.specs.BTreeMap.{is_at}
use Rattle.std.specs.Map.{set_value}
use Rattle.std.specs.Ordering.{nat_cmp}
use Rattle.wm_graph.specs.Kept.{forgotten}
use Rattle.wm_graph.proofs.Changed.{changed-none, set-changed}
use Rattle.wm_graph.proofs.node.forget.Goals as goal

pub returns-in-Some : goal.returns-in-Some
returns-in-Some c =
    (c.get_mut.follows.holds c.forget.new.self).0
    ∙ ap (λ kept. set_value (is_at (nat_cmp c.args.number)) c.args.nodes.now.entries kept) c.forget.ensures
    ∙ set-changed (forgotten c.args.seq c.args.was_done) c.args.number c.in-Some.node.now c.args.nodes.now.entries c.get_mut.ensures.ordered (sym c.in-Some.ensures.value)

pub returns-in_default : goal.returns-in_default
returns-in_default c =
    ap (λ nodes. nodes.entries) c.get_mut.follows.holds-at-none ∙ sym (changed-none (forgotten c.args.seq c.args.was_done) c.args.number c.args.nodes.now.entries (sym (rw c.in_default.is at c.get_mut.ensures.value)))
