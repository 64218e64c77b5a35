use Rattle.wm_sqlite.proofs.StepsMade.{read-step}
use Rattle.wm_sqlite.proofs.TextReadings.{select2_plain}
use Rattle.wm_sqlite.proofs.TextTurns.{selects, selects_second}
use Rattle.wm_sqlite.proofs.statements.select_second.Goals as goal

pub returns-clause-step : goal.returns-clause-step
returns-clause-step g c =
    let old = c.args.transaction.now.conn in
    let new = c.query_all.new.self.conn in
    let run = c.query_all.ensures in
    read-step g.A.Store _ old new c.query_all.result run.same_reference run.survives run.ok run.err
    (selects g.A.Store old.now new.now _ c.query_all.result select2_plain run.ok)

pub returns-clause-rows : goal.returns-clause-rows
returns-clause-rows g c clean =
    let old = c.args.transaction.now.conn.now in
    let new = c.query_all.new.self.conn.now in
    selects_second g.A.Store old new c.query_all.result (c.query_all.ensures.ok clean)
