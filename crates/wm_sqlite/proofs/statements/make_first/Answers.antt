use Rattle.wm_sqlite.proofs.OpenBefore.{ran-opened}
use Rattle.wm_sqlite.proofs.StepsMade.{ran-step}
use Rattle.wm_sqlite.proofs.TextTurns.{makes_first}
use Rattle.wm_sqlite.proofs.statements.make_first.Goals as goal

pub returns-clause-step : goal.returns-clause-step
returns-clause-step g c =
    let old = c.args.transaction.now.conn in
    let new = c.execute.new.self.conn in
    let run = c.execute.ensures in
    ran-step g.A.Store _ _ old new run.same_reference run.survives c.execute.result run.ended run.runs (makes_first g.A.Store old.now new.now c.execute.result run.runs)

pub returns-clause-opened : goal.returns-clause-opened
returns-clause-opened g c clean =
    let old = c.args.transaction.now.conn.now in
    let new = c.execute.new.self.conn.now in
    ran-opened g.A.Store old new _ _ _ c.execute.result (λ outside. (c.execute.ensures.ended outside).0) (c.execute.ensures.runs clean)
