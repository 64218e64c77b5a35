use Rattle.std.proofs.Common.{string_bytes}
use Rattle.wm_sqlite.proofs.StepsMade.{ran-step}
use Rattle.wm_sqlite.proofs.TextTurns.{inserts}
use Rattle.wm_sqlite.proofs.statements.insert_row.Goals as goal

pub returns : goal.returns
returns g c =
    let old = c.args.transaction.now.conn in
    let new = c.execute.new.self.conn in
    let run = c.execute.ensures in
    ran-step g.A.Store _ _ old new run.same_reference run.survives c.execute.result run.ended run.runs
    (inserts g.A.Store old.now new.now c.args.row.now c.args.prior.now.items (string_bytes c.args.tags.now) c.execute.result
    (λ clean mode. rw (c.values_of-values.ensures, c.as_slice.ensures.value, c.as_str.ensures.value) at (run.runs clean mode)))
