use Rattle.std.proofs.Common.{◌≡◌, ◌+◌, ◌∷◌, [], take, ap, ◌∙◌, subst, Ok}
use Rattle.wm_sqlite.proofs.ChangedRows.{removed-more}
use Rattle.wm_sqlite.proofs.StepsMade.{step-answered, step-then, then-refused}
use Rattle.wm_sqlite.specs.Held.{removed}
use Rattle.wm_sqlite.specs.Resting.{Holds}
use Rattle.wm_sqlite.proofs.changes.remove_rows.Goals as goal

pub returns-in_err-remove_row : goal.returns-in_err-remove_row
returns-in_err-remove_row g c =
    then-refused g.A.Store c.from_residual.result c.args.transaction.now.conn c.loop-change.transaction.conn c.remove_row.new.transaction.conn
    c.from_residual.ensures.0 c.loop-change.invariant c.in_err-remove_row.ensures

pub loop-change-preserved : goal.loop-change-preserved
loop-change-preserved g c =
    let so_far = take c.loop-change.change-index c.args.changes.now in
    let new = c.remove_row.new.transaction.conn in
    let old = c.args.transaction.now.conn in
    step-answered g.A.Store old new
    (step-then g.A.Store (Ok c.in_ok-remove_row.field-0) old c.loop-change.transaction.conn new c.loop-change.invariant c.in_ok-remove_row.ensures (λ early before made clean base rows holds.
    let more : removed (c.change-item.result ∷ []) (removed so_far rows) ≡ removed (take (c.loop-change.change-index + 1) c.args.changes.now) rows =
    ap (λ change. removed (change ∷ []) (removed so_far rows)) c.change-item.is
    ∙ removed-more c.args.changes.now c.loop-change.change-index _ rows c.loop-change-test.true in
    subst (λ all. Holds g.A.Store c.args.spread base all new.now) more (made clean base _ (before (early clean) base rows holds))))
