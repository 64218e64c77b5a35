use Rattle.std.proofs.Common.{◌≡◌, ℕ, ◌+◌, ◌<◌, List, ◌∷◌, ◌++◌, drop, filter, get_or, length, map, take, sym, ap, ◌∙◌}
use Rattle.std.proofs.lemmas.List.{drop_more, take-append-drop}
use Rattle.std.specs.List.{AllByRecursion}
use Rattle.wm_collections.specs.Lists.{AllLater}
use Rattle.wm_graph.specs.Nodes.{NodeFields}
use Rattle.wm_machine.specs.Valid.{IsBefore, IsRecord}
use Rattle.wm_machine.specs.declared.record.Record.{Record}
use Rattle.wm_opening.proofs.GrownNodes.{added, CanBeAdded}
use Rattle.wm_changes.specs.Nodes.{is_there, node_of}
use Rattle.wm_opening.proofs.nodes.graph_of.Goals as goal

-- the node of the next record can be added
next-added : (works : List Record) (i : ℕ) (work : Record) (nodes : List NodeFields) (prior before : List ℕ) → AllLater IsBefore works
    → AllByRecursion IsRecord works → i < length works → work ≡ get_or works i work → nodes ≡ map (node_of works) (take i works) → prior ≡ work.prior
    → before ≡ filter (is_there works) prior → CanBeAdded nodes (record (node_of works work) { before = before })
next-added works i work nodes prior before in_order records within is nodes_are prior_is before_is =
    let left : drop i works ≡ work ∷ drop (i + 1) works = drop_more works i work within ∙ ap (λ (w : Record). w ∷ drop (i + 1) works) (sym is) in
    let whole = ap (λ (l : List Record). take i works ++ l) (sym left) ∙ take-append-drop i works in
    rw (nodes_are, before_is, prior_is) (added works (take i works) work (drop (i + 1) works) whole in_order records)

pub add-requires-clause-above : goal.add-requires-clause-above
add-requires-clause-above c =
    (next-added c.args.works.now c.loop-work.work-index c.work-item.result c.loop-work.graph c.as_slice.result.now c.in_ok-before.before.items
    c.requires.in_order c.requires.records c.loop-work-test.true c.work-item.is c.loop-work.invariant c.as_slice.ensures c.in_ok-before.ensures).above

pub add-requires-clause-few : goal.add-requires-clause-few
add-requires-clause-few c =
    rw (c.as_slice-in-loop-work.ensures.value)
    (next-added c.args.works.now c.loop-work.work-index c.work-item.result c.loop-work.graph c.as_slice.result.now c.in_ok-before.before.items
    c.requires.in_order c.requires.records c.loop-work-test.true c.work-item.is c.loop-work.invariant c.as_slice.ensures c.in_ok-before.ensures).few

pub add-requires-clause-names : goal.add-requires-clause-names
add-requires-clause-names c =
    rw (c.as_slice-in-loop-work.ensures.value)
    (next-added c.args.works.now c.loop-work.work-index c.work-item.result c.loop-work.graph c.as_slice.result.now c.in_ok-before.before.items
    c.requires.in_order c.requires.records c.loop-work-test.true c.work-item.is c.loop-work.invariant c.as_slice.ensures c.in_ok-before.ensures).names
