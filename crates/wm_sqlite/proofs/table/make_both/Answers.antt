use Rattle.sqlite.specs.Held.{state}
use Rattle.sqlite.specs.State.{HasCleanDisk}
use Rattle.std.proofs.Common.{[], subst}
use Rattle.wm_sqlite.proofs.Rests.{on_ok, was-clean}
use Rattle.wm_sqlite.proofs.StepsMade.{step-refused, step-then}
use Rattle.wm_sqlite.specs.Standing.{StandsWith}
use Rattle.wm_sqlite.proofs.table.make_both.Goals as goal

pub returns-in_err-make_first-clause-step : goal.returns-in_err-make_first-clause-step
returns-in_err-make_first-clause-step g c =
    step-refused g.A.Store c.from_residual.result c.args.transaction.now.conn c.make_first.new.transaction.conn c.from_residual.ensures.0
    c.in_err-make_first.ensures.step

pub returns-clause-step : goal.returns-clause-step
returns-clause-step g c =
    let new = c.make_second.new.transaction.conn in
    step-then g.A.Store c.make_second.result c.args.transaction.now.conn c.make_first.new.transaction.conn new c.in_ok-make_first.ensures.step
    c.make_second.ensures (λ early first makes. record {
      made = λ clean base s.
          let one = first.made (early clean) base s in
          subst (λ rows. StandsWith g.A.Store base (rows, []) new.now) one.1 (makes clean base one.0);
      completed = λ clean base s.
          let one = first.kept (early clean) base s in
          subst (λ rows. StandsWith g.A.Store base (rows, []) new.now) one.1 (makes clean base one.0);
    })

pub returns-clause-opened : goal.returns-clause-opened
returns-clause-opened g c clean =
    let early : HasCleanDisk (state g.A.Store c.make_first.new.transaction.conn.now) = was-clean c.make_second.ensures.survives.clean clean in
    on_ok c.make_second.result (c.in_ok-make_first.ensures.opened early)
