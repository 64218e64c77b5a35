use Rattle.wm_sqlite.proofs.ChangedRows.{holds-without}
use Rattle.wm_sqlite.proofs.HeldTables.{AreNumbered-first, AreNumbered-second}
use Rattle.wm_sqlite.proofs.StepsMade.{step-map}
use Rattle.wm_sqlite.proofs.changes.remove_row.Goals as goal

pub returns-in-Remove : goal.returns-in-Remove
returns-in-Remove g c =
    let old = c.args.transaction.now.conn in
    let new = c.delete_row.new.transaction.conn in
    rw c.in-Remove.is
    (step-map g.A.Store c.delete_row.result old new c.delete_row.ensures (λ deletes clean base rows holds.
    holds-without g.A.Store c.args.spread base rows old.now new.now c.in-Remove.seq holds
    (deletes clean base holds.tables holds.stands
    (AreNumbered-first holds.tables holds.are_held.listed, AreNumbered-second holds.tables holds.are_held.listed, holds.are_held.spread_so))))
