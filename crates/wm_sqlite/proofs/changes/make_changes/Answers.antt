use Rattle.wm_sqlite.proofs.ChangedRows.{holds-still}
use Rattle.wm_sqlite.proofs.StepsMade.{step-refused, step-then, then-refused}
use Rattle.wm_sqlite.specs.Held.{removed as removed_rows}
use Rattle.wm_sqlite.specs.Resting.{Makes}
use Rattle.wm_sqlite.proofs.changes.make_changes.Goals as goal

pub returns-in_err-check_open-clause-step : goal.returns-in_err-check_open-clause-step
returns-in_err-check_open-clause-step g c =
    step-refused g.A.Store c.from_residual.result c.args.transaction.now.conn c.check_open.new.transaction.conn c.from_residual.ensures.0
    c.in_err-check_open.ensures.step

pub returns-in_err-remove_rows-clause-step : goal.returns-in_err-remove_rows-clause-step
returns-in_err-remove_rows-clause-step g c =
    then-refused g.A.Store c.from_residual-in_err-remove_rows.result c.args.transaction.now.conn c.check_open.new.transaction.conn
    c.remove_rows.new.transaction.conn c.from_residual-in_err-remove_rows.ensures.0 c.in_ok-check_open.ensures.step c.in_err-remove_rows.ensures

pub returns-clause-step : goal.returns-clause-step
returns-clause-step g c =
    let old = c.args.transaction.now.conn in
    let checked = c.check_open.new.transaction.conn in
    let removed = c.remove_rows.new.transaction.conn in
    let put = c.put_rows.new.transaction.conn in
    step-then g.A.Store c.put_rows.result old removed put
    (step-then g.A.Store {Both = Makes g.A.Store c.args.spread (removed_rows c.args.changes.now)} _ old checked removed c.in_ok-check_open.ensures.step
    c.in_ok-remove_rows.ensures
    (λ early still removes clean base rows holds.
    removes clean base rows (holds-still g.A.Store c.args.spread base rows old.now checked.now holds (still (early clean) base holds.tables holds.stands))))
    c.put_rows.ensures (λ early removes puts clean base rows holds. puts clean base _ (removes (early clean) base rows holds))
