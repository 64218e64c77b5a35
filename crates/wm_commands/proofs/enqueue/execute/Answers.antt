use Rattle.wm_commands.proofs.CheckedBatches.{free-placed}
use Rattle.wm_commands.proofs.ClearedNumbers.{none-numbers}
use Rattle.wm_commands.proofs.enqueue.execute.Goals as goal

pub check_and_place-requires-clause-placed : goal.check_and_place-requires-clause-placed
check_and_place-requires-clause-placed c = rw c.free.ensures (free-placed c.args.view.now c.args.batch.works)

pub check_and_place-requires-clause-after : goal.check_and_place-requires-clause-after
check_and_place-requires-clause-after c = rw c.free.ensures tt

pub check_and_place-requires-clause-let_go : goal.check_and_place-requires-clause-let_go
check_and_place-requires-clause-let_go c = rw c.free.ensures (none-numbers c.args.view.now.works)
