use Rattle.std.proofs.Common.{[], ◌∙◌}
use Rattle.sqlite.specs.Held.{state}
use Rattle.wm_sqlite.proofs.StepsMade.{prepared-step}
use Rattle.wm_sqlite.proofs.TextTurns.{stays-with, unrun}
use Rattle.wm_sqlite.proofs.statements.check_open.Goals as goal

pub returns-in_err-prepare-clause-step : goal.returns-in_err-prepare-clause-step
returns-in_err-prepare-clause-step g c =
    let old = state g.A.Store c.args.transaction.now.conn.now in
    let new = state g.A.Store c.prepare.new.self.conn.now in
    let run = c.in_err-prepare.ensures in
    prepared-step g.A.Store c.from_residual.result c.args.transaction.now.conn c.prepare.new.self.conn run.same_reference run.survives
    (λ clean. unrun old new _ [] _ (run.err clean [])) c.from_residual.ensures.0

pub returns-clause-step : goal.returns-clause-step
returns-clause-step g c =
    let run = c.in_ok-prepare.ensures in
    record {
      same_reference = run.same_reference;
      survives = run.survives;
      was_open = λ clean up. (run.ok clean).1.0.was_open;
      goes_on = λ clean base begun.
          let same = (run.ok clean).1.0 in
          record { mode = same.mode ∙ begun.mode; origin = same.committed_is ∙ begun.origin };
      ok = λ clean base tables s. stays-with g.A.Store c.args.transaction.now.conn.now c.prepare.new.self.conn.now base tables s (run.ok clean).1;
      err = tt;
    }
