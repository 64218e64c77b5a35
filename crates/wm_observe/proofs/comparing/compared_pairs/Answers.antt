use Rattle.wm_observe.proofs.StepRecords.{new-records}
use Rattle.wm_steps.proofs.Views.{reached-view}
use Rattle.wm_observe.proofs.comparing.compared_pairs.Goals as goal

pub add_new-requires-clause-records : goal.add_new-requires-clause-records
add_new-requires-clause-records c =
    rw c.as_slice.ensures (new-records c.args.view.now c.args.change.now (reached-view _ c.args.view.now _ c.view.view_is c.view.invariant) c.requires.step)
