use Rattle.std.proofs.Common.{◌≡◌, ◌+◌, ◌∷◌, [], ◌++◌, ap, arith, ◌∙◌}
use Rattle.wm_machine.specs.Enqueued.{new_record, prior_of, with_work}
use Rattle.wm_machine.specs.declared.state.State.{State}
use Rattle.wm_replay.proofs.Placings.{numbers-more, placed-more}
use Rattle.wm_replay.proofs.placing.place_each.Goals as goal

pub loop-node-preserved : goal.loop-node-preserved
loop-node-preserved c =
    let nodes = c.args.nodes.now in
    let name = c.args.name.now in
    let after = c.args.after.now in
    let before = c.loop-node.state in
    let now = c.place.new.state in
    let i = c.loop-node.node-index in
    let node = c.node-item.result in
    let work = new_record before name (prior_of before.works after node.after) node in
    let made : now ≡ with_work before work = c.in_ok-place.ensures in
    let pushed : c.push.new.self ≡ c.loop-node.numbers ++ before.next ∷ [] = c.in_ok-push.ensures.ok in
    let had = c.loop-node.invariant in
    let one : now.next ≡ before.next + 1 = ap (λ (t : State). t.next) made in
    let so_far = had.next in
    record {
      left = placed-more before now name after nodes i node c.loop-node-test.true c.node-item.is made ∙ had.left;
      numbered = numbers-more before now work c.loop-node.numbers c.push.new.self nodes i node c.loop-node-test.true c.node-item.is made pushed
          ∙ had.numbered;
      next = omega (arith, one, so_far);
    }
