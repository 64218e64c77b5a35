use Rattle.std.proofs.Common.{◌≡◌, None, rules}
use Rattle.wm_replay.proofs.CheckedBatches.{free-placed}
use Rattle.wm_replay.proofs.enqueueing.enqueue.Goals as goal

pub check_and_place-requires-clause-placed : goal.check_and_place-requires-clause-placed
check_and_place-requires-clause-placed c =
    let none : c.args.named.now ≡ None = search rules in
    free-placed c.args.state.now c.args.named.now c.free-plan.result c.args.batch.now.works none c.free-plan.ensures
