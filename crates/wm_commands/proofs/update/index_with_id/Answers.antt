use Rattle.wm_steps.proofs.Views.{reached-view}
use Rattle.wm_steps.proofs.WorksWithIds.{index-found}
use Rattle.wm_commands.proofs.update.index_with_id.Goals as goal

pub returns : goal.returns
returns c =
    let s = c.args.view.now in
    index-found s.works c.args.id c.in_ok-number.number c.place_of.result
    (reached-view _ s _ c.view.view_is c.view.invariant).works.in_order c.in_ok-number.ensures c.place_of.ensures
