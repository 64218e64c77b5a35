use Rattle.sqlite.specs.Held.{state}
use Rattle.std.proofs.Common.{◌≡◌, sym, subst, rules}
use Rattle.wm_sqlite.proofs.Ended.{clean-at, undone-still, StillRests}
use Rattle.wm_sqlite.proofs.Rests.{begins-both, if_ok_then, was-clean}
use Rattle.wm_sqlite.specs.Standing.{StandsWith}
use Rattle.wm_sqlite.specs.Table.{both_schema}
use Rattle.wm_sqlite.proofs.table.read_tables.Goals as goal

pub returns-clause-rows : goal.returns-clause-rows
returns-clause-rows g c clean =
    let old = c.args.connection.now in
    let base = (state g.A.Store old).committed in
    let end = c.drop-transaction.new.self.0 in
    let same : end ≡ c.connection-1.given.0 = search rules in
    let early = was-clean c.drop-transaction.ensures.survives.clean (clean-at g.A.Store same clean) in
    if_ok_then _ _ c.show_both.result (c.show_both.ensures.rows early) (λ rows shows rests.
    shows base _ (subst (StandsWith g.A.Store base _) (sym c.transaction-transaction.ensures.begun) (begins-both g.A.Store old rests)))

pub returns-clause-kept : goal.returns-clause-kept
returns-clause-kept g c clean up =
    let old = c.args.connection.now in
    let end = c.drop-transaction.new.self.0 in
    let same : end ≡ c.connection-1.given.0 = search rules in
    let still : StillRests g.A.Store old end =
    undone-still g.A.Store old c.transaction-transaction.result.conn c.show_both.new.transaction.conn c.transaction-transaction.ensures.begun
    c.show_both.result end c.show_both.ensures.step (λ late. was-clean c.drop-transaction.ensures.survives.clean late) c.drop-transaction.ensures.undone in
    subst (StillRests g.A.Store old) same still clean up both_schema
