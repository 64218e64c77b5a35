use Rattle.std.proofs.Common.{get_or, refl}
use Rattle.wm_observe.proofs.NearNumbers.{with-more}
use Rattle.wm_observe.proofs.nearby.add_near_each.Goals as goal
use Rattle.wm_observe.specs.Near.{is_near}

pub loop-number-preserved : goal.loop-number-preserved
loop-number-preserved c =
    let touched = c.args.touched.now in
    let i = c.loop-number.number-index in
    with-more (is_near c.args.view.now.works) touched i 0 (get_or touched i 0) c.loop-number-test.true refl c.args.numbers.now c.loop-number.numbers _
    c.loop-number.invariant c.in_ok-add_near.ensures
