use Rattle.std.proofs.Common.{◌≡◌, Some, slice_get, rules}
use Rattle.wm_replay.proofs.MemberUpdates.{first-at}
use Rattle.wm_replay.proofs.members.first_node.Goals as goal

pub returns : goal.returns
returns c =
    let first : slice_get c.args.batch.now.works 0 ≡ Some c.at.result.now = search rules in
    first-at c.args.batch.now.works c.at.result.now first
