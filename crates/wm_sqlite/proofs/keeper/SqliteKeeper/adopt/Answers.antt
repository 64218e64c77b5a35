use Rattle.wm_sqlite.proofs.Commits.{settled-known}
use Rattle.wm_sqlite.proofs.keeper.SqliteKeeper.adopt.Goals as goal

pub returns-clause-settled : goal.returns-clause-settled
returns-clause-settled g c up =
    let store = c.args.connection in
    settled-known g.A.Store c.standing_of-standing.result store c.standing_of-standing.ensures.knows
    (λ left high may. g.met.A.Store.settled store.store left high may) up
