use Rattle.std.proofs.Common.{◌≡◌, ℕ, ◌+◌, ◌<◌, ◌≤◌, List, [], ◌∷◌, ◌++◌, drop, get_or, length, map, sym, ap, subst, ◌∙◌}
use Rattle.std.proofs.lemmas.List.{drop_more}
use Rattle.wm_graph.specs.Nodes.{NamesNodes, NodeFields}
use Rattle.wm_machine.specs.declared.record.Record.{Record}
use Rattle.wm_steps.specs.Following.{placed_node, AreAddable, IsAddable}
use Rattle.wm_steps.proofs.follow.add_nodes.Goals as goal

-- the next of the nodes that can be added, and those after it
next-addable : (nodes : List NodeFields) (works : List Record) (i : ℕ) (work : Record) → i < length works → work ≡ get_or works i work
    → AreAddable nodes (map placed_node (drop i works))
    → IsAddable nodes (placed_node work) × AreAddable (nodes ++ placed_node work ∷ []) (map placed_node (drop (i + 1) works))
next-addable nodes works i work within is left =
    let here : drop i works ≡ work ∷ drop (i + 1) works = drop_more works i work within ∙ ap (λ (w : Record). w ∷ drop (i + 1) works) (sym is) in
    subst (λ (rest : List Record). AreAddable nodes (map placed_node rest)) here left

pub add-requires-clause-above : goal.add-requires-clause-above
add-requires-clause-above c =
    (next-addable c.loop-work.graph c.args.placed.now c.loop-work.work-index c.work-item.result c.loop-work-test.true c.work-item.is
    c.loop-work.invariant.left).0.above

pub add-requires-clause-few : goal.add-requires-clause-few
add-requires-clause-few c =
    subst (λ (before : List ℕ). length before ≤ 100) (sym c.as_slice.ensures)
    (next-addable c.loop-work.graph c.args.placed.now c.loop-work.work-index c.work-item.result c.loop-work-test.true c.work-item.is
    c.loop-work.invariant.left).0.few

pub add-requires-clause-names : goal.add-requires-clause-names
add-requires-clause-names c =
    subst (NamesNodes c.loop-work.graph) (sym c.as_slice.ensures)
    (next-addable c.loop-work.graph c.args.placed.now c.loop-work.work-index c.work-item.result c.loop-work-test.true c.work-item.is
    c.loop-work.invariant.left).0.names
