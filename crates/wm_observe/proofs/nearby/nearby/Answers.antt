use Rattle.std.proofs.Common.{rules}
use Rattle.wm_observe.proofs.NearNumbers.{have_differing}
use Rattle.wm_steps.proofs.Views.{reached-view}
use Rattle.wm_observe.proofs.nearby.nearby.Goals as goal

pub returns : goal.returns
returns c =
    have_differing c.args.view.now c.args.change.now (reached-view _ c.args.view.now _ c.view.view_is c.view.invariant) c.requires.fits c.new-numbers.result c.add_near_each.new.numbers
    c.add_near_replaced.new.numbers c.add_near_replaced-2.new.numbers (λ number. search rules) (rw c.as_slice.ensures at c.in_ok-add_near_each.ensures)
    (rw c.as_slice-2.ensures at c.in_ok-add_near_replaced.ensures) (rw c.as_slice-3.ensures at c.in_ok-add_near_replaced-2.ensures)
