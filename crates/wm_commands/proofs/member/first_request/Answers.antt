use Rattle.std.proofs.Common.{◌≡◌}
use Rattle.std.specs.Prelude.{IsSomeAnd}
use Rattle.std.proofs.lemmas.Result.{IfOk-weaker}
use Rattle.wm_commands.proofs.MemberUpdates.{first-asked}
use Rattle.wm_machine.specs.Plan.{first_of_batch}
use Rattle.wm_commands.proofs.member.first_request.Goals as goal

pub returns : goal.returns
returns c =
    let nodes = c.args.nodes.now in
    let node = c.at-node.result.now in
    IfOk-weaker c.replica.result (λ request. request ≡ node.request) (λ request. IsSomeAnd (first_of_batch nodes) (λ first. request ≡ first.request))
    (λ request is. first-asked nodes node request c.at-node.ensures is) c.replica.ensures
