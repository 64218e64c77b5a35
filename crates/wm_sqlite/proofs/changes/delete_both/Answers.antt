use Rattle.wm_sqlite.proofs.StepsMade.{step-refused, step-then}
use Rattle.wm_sqlite.proofs.changes.delete_both.Goals as goal

pub returns-in_err-delete_first : goal.returns-in_err-delete_first
returns-in_err-delete_first g c =
    step-refused g.A.Store c.from_residual.result c.args.transaction.now.conn c.delete_first.new.transaction.conn c.from_residual.ensures.0 c.in_err-delete_first.ensures

pub returns : goal.returns
returns g c =
    step-then g.A.Store c.delete_second.result c.args.transaction.now.conn c.delete_first.new.transaction.conn c.delete_second.new.transaction.conn
    c.in_ok-delete_first.ensures c.delete_second.ensures (λ early first second clean base tables s numbered.
    second clean base _ (first (early clean) base tables s numbered.0) numbered.1)
