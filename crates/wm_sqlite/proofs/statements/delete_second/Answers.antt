use Rattle.wm_sqlite.proofs.StepsMade.{ran-step}
use Rattle.wm_sqlite.proofs.TextTurns.{deletes_second}
use Rattle.wm_sqlite.proofs.statements.delete_second.Goals as goal

pub returns : goal.returns
returns g c =
    let old = c.args.transaction.now.conn in
    let new = c.execute.new.self.conn in
    let run = c.execute.ensures in
    ran-step g.A.Store _ _ old new run.same_reference run.survives c.execute.result run.ended run.runs
    (deletes_second g.A.Store old.now new.now c.args.seq.now c.execute.result (λ clean mode. rw c.number_of-number.ensures at (run.runs clean mode)))
