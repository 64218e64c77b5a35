use Rattle.std.proofs.Common.{ℕ}
use Rattle.wm_observe.proofs.NearNumbers.{with-more}
use Rattle.wm_observe.proofs.nearby.add_near_replaced.Goals as goal
use Rattle.wm_observe.specs.Near.{is_near}
use Rattle.wm_changes.specs.declared.change.Replacement.{Replacement}

pub loop-replaced-preserved : goal.loop-replaced-preserved
loop-replaced-preserved c =
    with-more (λ (one : Replacement) (number : ℕ). is_near c.args.view.now.works one.work.seq number) c.args.touched.now c.loop-replaced.replaced-index
    c.replaced-item.result c.replaced-item.result c.loop-replaced-test.true c.replaced-item.is c.args.numbers.now c.loop-replaced.numbers _ c.loop-replaced.invariant
    c.in_ok-add_near.ensures
