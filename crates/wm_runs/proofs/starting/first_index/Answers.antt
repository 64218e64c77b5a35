use Rattle.wm_runs.proofs.FirstPlaces.{first-place}
use Rattle.wm_steps.proofs.Views.{reached-view}
use Rattle.wm_runs.proofs.starting.first_index.Goals as goal

pub returns : goal.returns
returns c =
    let s = c.args.view.now in
    first-place s c.in_ok-number.number c.place_of.result (reached-view _ s _ c.view.view_is c.view.invariant).works.in_order
    c.in_ok-number.ensures c.place_of.ensures
