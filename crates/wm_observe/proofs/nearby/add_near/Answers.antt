use Rattle.std.proofs.Common.{◌≡◌, ◌∙◌}
use Rattle.std.proofs.lemmas.Result.{on_ok_weaker}
use Rattle.wm_graph.specs.Descendants.{dependents}
use Rattle.wm_observe.proofs.NearNumbers.{with-near}
use Rattle.wm_observe.proofs.nearby.add_near.Goals as goal
use Rattle.wm_changes.specs.Nodes.{nodes_of}

pub returns : goal.returns
returns c =
    let s = c.args.view.now in
    let touched = c.args.touched in
    let found : c.as_slice.result.now ≡ dependents (nodes_of s.works) touched = c.as_slice.ensures.value ∙ c.in_ok-dependents.ensures in
    on_ok_weaker c.add_each.result (λ more.
    with-near s.works touched c.as_slice.result.now c.args.numbers.now c.insert.new.self c.add_each.new.numbers found c.in_ok-insert.ensures.updates more)
    c.add_each.ensures
