use Rattle.std.proofs.Common.{◌≡◌, None, rules, subst, sym}
use Rattle.wm_replay.proofs.NamedPlans.{kept-outcome, placed-named}
use Rattle.wm_replay.specs.Placed.{IsPlacedBy}
use Rattle.wm_unique.specs.Plans.{placing_by}
use Rattle.wm_replay.proofs.naming.carry_out.Goals as goal

pub returns-then-plan : goal.returns-then-plan
returns-then-plan c =
    kept-outcome c.args.state.now c.args.unique.now c.args.batch.now.works c.args.plan.now c.requires.planned c.if-plan.true

pub check_and_place-requires-clause-placed : goal.check_and_place-requires-clause-placed
check_and_place-requires-clause-placed c =
    let works = c.args.batch.now.works in
    let plan = c.args.plan.now in
    let none : plan.update ≡ None = search rules in
    subst (λ named. IsPlacedBy c.args.state.now named (placing_by plan) works) (sym c.requires.named)
    (placed-named c.args.state.now c.args.unique.now works plan c.requires.planned c.if-plan.false none c.requires.fits)
