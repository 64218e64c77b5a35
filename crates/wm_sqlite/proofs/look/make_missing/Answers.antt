use Rattle.sqlite.specs.Held.{state}
use Rattle.wm_sqlite.proofs.Rests.{on_ok, open-clean}
use Rattle.wm_sqlite.proofs.Tellings.{found-there, read-there, same-alike, unknown-alike, unknown-there}
use Rattle.wm_sqlite.proofs.look.make_missing.Goals as goal

pub returns-in-Found-clause-there : goal.returns-in-Found-clause-there
returns-in-Found-clause-there g c clean = rw c.in-Found.is (found-there g.A.Store c.args.connection.now (rw c.in-Found.is at c.requires.knows))

pub returns-in-Found-clause-still : goal.returns-in-Found-clause-still
returns-in-Found-clause-still g c =
    record { knows = c.requires.knows; alike = same-alike c.args.standing.now (state g.A.Store c.args.connection.now); was_open = λ clean up. up }

pub returns-in-Read-clause-there : goal.returns-in-Read-clause-there
returns-in-Read-clause-there g c clean =
    rw c.in-Read.is (read-there g.A.Store c.in-Read.field-0 c.args.connection.now (rw c.in-Read.is at c.requires.knows))

pub returns-in-Read-clause-still : goal.returns-in-Read-clause-still
returns-in-Read-clause-still g c =
    record { knows = c.requires.knows; alike = same-alike c.args.standing.now (state g.A.Store c.args.connection.now); was_open = λ clean up. up }

pub returns-in-Unknown-clause-still : goal.returns-in-Unknown-clause-still
returns-in-Unknown-clause-still g c =
    let new = c.make_beside.new.connection in
    let was_open = c.make_beside.ensures.was_open in
    rw c.in-Unknown.is (record {
      knows = tt;
      alike = unknown-alike (state g.A.Store c.args.connection.now) (state g.A.Store new) (λ up.
          was_open (open-clean _ _ (g.met.A.Store.shut_if_dirty new.store) up) up);
      was_open = was_open;
    })

pub returns-in-Unknown-clause-there : goal.returns-in-Unknown-clause-there
returns-in-Unknown-clause-there g c clean =
    rw c.in-Unknown.is (on_ok c.make_beside.result (unknown-there g.A.Store (state g.A.Store c.args.connection.now) c.make_beside.new.connection))
