use Rattle.wm_opening.proofs.OpenedRows.{reached-reopened}
use Rattle.wm_opening.proofs.opening.open.Goals as goal

pub states_of-requires : goal.states_of-requires
states_of-requires c =
    reached-reopened c.args.rows.now c.args.instances c.in_ok-works.works c.in_ok-works.changes.items c.requires c.in_ok-works.ensures.ok
