use Rattle.std.proofs.Common.{arith, ◌<◌, ◌^◌}
use Rattle.wm_conditions.specs.Met.{met}
use Rattle.wm_conditions.proofs.Gathering.{difference}
use Rattle.wm_conditions.proofs.tracker.Tracker.update.Goals as goal

pub returns-clause-rose : goal.returns-clause-rose
returns-clause-rose c =
    let before = c.self.inside in
    let fits : before.met < 2 ^ 128 = omega arith in
    rw (← c.self.view_is) (difference c.met_under-met.result before.met (λ k. met k c.args.next) (λ k. met k before.conditions) fits c.met_under-met.ensures c.self.invariant)

pub returns-clause-fell : goal.returns-clause-fell
returns-clause-fell c =
    let before = c.self.inside in
    rw (← c.self.view_is) (difference before.met c.met_under-met.result (λ k. met k before.conditions) (λ k. met k c.args.next) c.met_under-met.type_inv c.self.invariant c.met_under-met.ensures)
