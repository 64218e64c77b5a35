use Rattle.std.proofs.Common.{◌≡◌, ◌+◌, ◌∷◌, [], take, ap, ◌∙◌, subst, Ok}
use Rattle.wm_sqlite.proofs.ChangedRows.{added-more}
use Rattle.wm_sqlite.proofs.StepsMade.{step-answered, step-then, then-refused}
use Rattle.wm_sqlite.specs.Held.{added}
use Rattle.wm_sqlite.specs.Resting.{Holds}
use Rattle.wm_sqlite.proofs.changes.put_rows.Goals as goal

pub returns-in_err-put_row : goal.returns-in_err-put_row
returns-in_err-put_row g c =
    then-refused g.A.Store c.from_residual.result c.args.transaction.now.conn c.loop-change.transaction.conn c.put_row.new.transaction.conn
    c.from_residual.ensures.0 c.loop-change.invariant c.in_err-put_row.ensures

pub loop-change-preserved : goal.loop-change-preserved
loop-change-preserved g c =
    let so_far = take c.loop-change.change-index c.args.changes.now in
    let new = c.put_row.new.transaction.conn in
    let old = c.args.transaction.now.conn in
    step-answered g.A.Store old new
    (step-then g.A.Store (Ok c.in_ok-put_row.field-0) old c.loop-change.transaction.conn new c.loop-change.invariant c.in_ok-put_row.ensures (λ early before made clean base rows holds.
    let more : added (c.change-item.result ∷ []) (added so_far rows) ≡ added (take (c.loop-change.change-index + 1) c.args.changes.now) rows =
    ap (λ change. added (change ∷ []) (added so_far rows)) c.change-item.is
    ∙ added-more c.args.changes.now c.loop-change.change-index _ rows c.loop-change-test.true in
    subst (λ all. Holds g.A.Store c.args.spread base all new.now) more (made clean base _ (before (early clean) base rows holds))))
