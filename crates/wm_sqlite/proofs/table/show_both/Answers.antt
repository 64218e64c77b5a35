use Rattle.std.proofs.Common.{Ok}
use Rattle.sqlite.specs.Held.{state}
use Rattle.sqlite.specs.State.{HasCleanDisk}
use Rattle.wm_sqlite.proofs.Rests.{was-clean}
use Rattle.wm_sqlite.proofs.StepsMade.{step-answered, step-refused, step-then, then-refused}
use Rattle.wm_sqlite.proofs.table.show_both.Goals as goal

pub returns-in_err-first-clause-step : goal.returns-in_err-first-clause-step
returns-in_err-first-clause-step g c =
    step-refused g.A.Store c.from_residual.result c.args.transaction.now.conn c.select_first.new.transaction.conn c.from_residual.ensures.0
    c.in_err-first.ensures.step

pub returns-in_err-second-clause-step : goal.returns-in_err-second-clause-step
returns-in_err-second-clause-step g c =
    then-refused g.A.Store c.from_residual-in_err-second.result c.args.transaction.now.conn c.select_first.new.transaction.conn
    c.select_second.new.transaction.conn c.from_residual-in_err-second.ensures.0 c.in_ok-first.ensures.step c.in_err-second.ensures.step

pub returns-clause-step : goal.returns-clause-step
returns-clause-step g c =
    let old = c.args.transaction.now.conn in
    let new = c.select_second.new.transaction.conn in
    step-answered g.A.Store old new
    (step-then g.A.Store (Ok c.in_ok-second.second) old c.select_first.new.transaction.conn new c.in_ok-first.ensures.step c.in_ok-second.ensures.step
    (λ early first second clean base tables s. second clean base tables (first (early clean) base tables s)))

pub returns-clause-rows : goal.returns-clause-rows
returns-clause-rows g c clean base tables s =
    let early : HasCleanDisk (state g.A.Store c.select_first.new.transaction.conn.now) = was-clean c.in_ok-second.ensures.step.survives.clean clean in
    record {
      first_shown = c.in_ok-first.ensures.rows early base tables s;
      second_shown = c.in_ok-second.ensures.rows clean base tables (c.in_ok-first.ensures.step.ok early base tables s);
    }
