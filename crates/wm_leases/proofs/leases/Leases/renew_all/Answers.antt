use Rattle.std.proofs.Common.{◌≡◌, [], arith, refl, subst, ◌∙◌}
use Rattle.std.proofs.lemmas.Grind.{common_steps}
use Rattle.std.specs.Vec.Iter.{into_iter_items}
use Rattle.wm_leases.specs.Leases.{renewed, Ascend}
use Rattle.wm_leases.proofs.Lists.{changed-all}
use Rattle.wm_leases.proofs.leases.Leases.renew_all.Goals as goal

pub returns : goal.returns
returns c =
    let last : into_iter_items c.loop-run.run-iterator ≡ [] = grind (arith, common_steps, c.in-None.ensures.steps.0) in
    let all = rw last at c.loop-run.invariant in
    all ∙ changed-all (renewed c.args.end) (λ lease. refl) c.args.self.now (subst Ascend c.self.view_is c.self.invariant.ascending)
