use Rattle.std.proofs.Common.{rules}
use Rattle.std.proofs.lemmas.Result.{IfOk-weaker}
use Rattle.wm_replay.proofs.NamedPlans.{fault-outcome}
use Rattle.wm_replay.specs.Planned.{kind_refused_in}
use Rattle.wm_unique.specs.Plans.{IsPlanFault}
use Rattle.wm_replay.proofs.naming.enqueue_named.Goals as goal

pub returns-in-Err : goal.returns-in-Err
returns-in-Err c =
    let s = c.args.state.now in
    let unique = c.args.unique.now in
    let works = c.args.batch.now.works in
    let refused : IsPlanFault (kind_refused_in s unique works) c.in-Err.fault = search rules in
    IfOk-weaker c.fault_reply.result _ _ (λ answer answers. fault-outcome s unique works c.in-Err.fault answer refused answers) c.fault_reply.ensures
