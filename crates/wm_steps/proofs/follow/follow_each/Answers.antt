use Rattle.std.proofs.Common.{◌≡◌, ℕ, ◌+◌, ◌&&◌, not, List, ◌∷◌, drop, sym, ap, subst, ◌∙◌}
use Rattle.std.specs.List.{AllByRecursion}
use Rattle.std.proofs.lemmas.Bool.{cond_both}
use Rattle.std.proofs.lemmas.List.{drop_more}
use Rattle.wm_graph.proofs.Graphs.{HasNode-map, seq-marked}
use Rattle.wm_graph.specs.Marks.{is_met, marked, with_marked}
use Rattle.wm_graph.specs.Nodes.{HasNode, NodeFields}
use Rattle.wm_collections.proofs.Lists.{All-weaker}
use Rattle.wm_machine.specs.First.{is_succeeded}
use Rattle.wm_machine.specs.declared.record.Record.{Record}
use Rattle.wm_changes.specs.declared.change.Replacement.{Replacement}
use Rattle.wm_steps.specs.Following.{followed, with_followed}
use Rattle.wm_steps.proofs.follow.follow_each.Goals as goal

-- each node stays there
followed-there : (work : Record) (nodes : List NodeFields) (number : ℕ) → HasNode nodes number → HasNode (followed work nodes) number
followed-there work nodes number has =
    cond_both (is_succeeded work.phase && not (is_met nodes work.seq)) (with_marked work.seq nodes) nodes
    (λ (now : List NodeFields). HasNode now number) (λ e. HasNode-map (marked work.seq) (seq-marked work.seq) nodes number has) (λ e. has)

pub loop-replacement-preserved : goal.loop-replacement-preserved
loop-replacement-preserved c =
    let nodes : List NodeFields = c.loop-replacement.graph in
    let replaced = c.args.replaced.now in
    let i = c.loop-replacement.replacement-index in
    let r = c.replacement-item.result in
    let later = drop (i + 1) replaced in
    let here : drop i replaced ≡ r ∷ later =
    drop_more replaced i r c.loop-replacement-test.true ∙ ap (λ (r : Replacement). r ∷ later) (sym c.replacement-item.is) in
    let left = subst (λ (rest : List Replacement). AllByRecursion (λ r. HasNode nodes r.work.seq) rest) here c.loop-replacement.invariant.left in
    record {
      nodes = ap (with_followed later) c.follow.ensures ∙ ap (λ (rest : List Replacement). with_followed rest nodes) (sym here)
          ∙ c.loop-replacement.invariant.nodes;
      there = λ number has. subst (λ (now : List NodeFields). HasNode now number) (sym c.follow.ensures)
          (followed-there r.work nodes number (c.loop-replacement.invariant.there number has));
      left = subst (λ (now : List NodeFields). AllByRecursion (λ r. HasNode now r.work.seq) later) (sym c.follow.ensures)
          (All-weaker later (λ other has. followed-there r.work nodes other.work.seq has) left.1);
    }
