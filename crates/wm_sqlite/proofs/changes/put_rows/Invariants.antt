use Rattle.std.proofs.Common.{Ok, take}
use Rattle.sqlite.specs.declared.error.Error.{Error}
use Rattle.wm_sqlite.specs.Held.{added}
use Rattle.wm_sqlite.specs.Resting.{Makes}
use Rattle.wm_sqlite.specs.Steps.{IsStep}
use Rattle.wm_sqlite.proofs.changes.put_rows.Given as goal

-- the changes so far were made
abbrev pub invariant-loop-change : goal.invariant-loop-change
invariant-loop-change g l =
    IsStep g.A.Store {T = Unit {0}} {E = Error} (Makes g.A.Store l.spread (added (take l.change-index l.changes))) (Ok tt) l.initial.transaction.conn l.transaction.conn
