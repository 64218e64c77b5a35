use Rattle.wm_sqlite.proofs.ChangedRows.{holds-replaced}
use Rattle.wm_sqlite.proofs.HeldTables.{AreNumbered-first, AreNumbered-second}
use Rattle.wm_sqlite.proofs.StepsMade.{step-refused, step-then}
use Rattle.wm_sqlite.proofs.changes.replace_stored.Goals as goal

pub returns-in_err-delete_row : goal.returns-in_err-delete_row
returns-in_err-delete_row g c =
    step-refused g.A.Store c.from_residual.result c.args.transaction.now.conn c.delete_row.new.transaction.conn c.from_residual.ensures.0 c.in_err-delete_row.ensures

pub returns : goal.returns
returns g c =
    let old = c.args.transaction.now.conn in
    let new = c.insert_row.new.transaction.conn in
    step-then g.A.Store c.insert_row.result old c.delete_row.new.transaction.conn new c.in_ok-delete_row.ensures c.insert_row.ensures
    (λ early deletes inserts clean base rows holds.
    let first = AreNumbered-first holds.tables holds.are_held.listed in
    let second = AreNumbered-second holds.tables holds.are_held.listed in
    let deleted = deletes (early clean) base holds.tables holds.stands (first, second, holds.are_held.spread_so) in
    holds-replaced g.A.Store c.args.spread base rows old.now new.now c.args.row.now _ _ c.requires holds (inserts clean base _ deleted))
