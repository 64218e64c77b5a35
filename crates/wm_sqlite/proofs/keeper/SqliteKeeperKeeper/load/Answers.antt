use Rattle.sqlite.specs.Held.{state}
use Rattle.wm_sqlite.proofs.Commits.{rows-ascend}
use Rattle.wm_sqlite.proofs.keeper.SqliteKeeperKeeper.load.Goals as goal

pub returns-clause-ascending : goal.returns-clause-ascending
returns-clause-ascending g c = rows-ascend c.args.self.now.standing (state g.A.Store c.args.self.now.connection)
