use Rattle.std.proofs.Common.{◌≡◌, ◌∷◌, [], ap, sym, subst, ◌∙◌, rules}
use Rattle.std.specs.Prelude.{reverse}
use Rattle.std.proofs.lemmas.Result.{IfOk-weaker}
use Rattle.wm_graph.proofs.Reaches.{descendants-are, itself-first}
use Rattle.wm_graph.specs.Descendants.{AreDescendants, BeginsWith, descendants}
use Rattle.wm_graph.specs.Kept.{nodes_of}
use Rattle.wm_graph.specs.Nodes.{IsGraph}
use Rattle.wm_graph.proofs.graph.Graph.descendants.Goals as goal

pub returns-clause-found : goal.returns-clause-found
returns-clause-found c =
    let seqs = c.args.seq ∷ [] in
    IfOk-weaker c.reached.result (λ found. found.items ≡ reverse (descendants seqs (reverse (nodes_of c.self.inside.nodes.entries))))
    (λ found. found.items ≡ reverse (descendants seqs (reverse c.args.self.now)))
    (λ found is. is ∙ ap (λ nodes. reverse (descendants seqs (reverse nodes))) c.self.view_is) (search rules)

pub returns-clause-descendants : goal.returns-clause-descendants
returns-clause-descendants c =
    let seqs = c.args.seq ∷ [] in
    let nodes = c.args.self.now in
    let graph : IsGraph nodes = subst IsGraph c.self.view_is c.self.invariant.graph in
    IfOk-weaker c.reached.result (λ found. found.items ≡ reverse (descendants seqs (reverse (nodes_of c.self.inside.nodes.entries))))
    (λ found. AreDescendants nodes seqs found.items)
    (λ found is. subst (AreDescendants nodes seqs) (sym (is ∙ ap (λ nodes. reverse (descendants seqs (reverse nodes))) c.self.view_is)) (descendants-are seqs nodes graph))
    (search rules)

pub returns-clause-itself_first : goal.returns-clause-itself_first
returns-clause-itself_first c =
    let seq = c.args.seq in
    let seqs = seq ∷ [] in
    let nodes = c.args.self.now in
    let graph : IsGraph nodes = subst IsGraph c.self.view_is c.self.invariant.graph in
    IfOk-weaker c.reached.result (λ found. found.items ≡ reverse (descendants seqs (reverse (nodes_of c.self.inside.nodes.entries))))
    (λ found. BeginsWith seq found.items)
    (λ found is. subst (BeginsWith seq) (sym (is ∙ ap (λ nodes. reverse (descendants seqs (reverse nodes))) c.self.view_is)) (itself-first seq nodes graph c.requires))
    (search rules)
