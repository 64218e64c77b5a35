use Rattle.wm_sqlite.proofs.Rests.{open-clean}
use Rattle.wm_sqlite.proofs.Tellings.{made-alike, made-known, made-there, unmade-alike, unmade-known}
use Rattle.wm_sqlite.proofs.look.complete.Goals as goal

pub returns-in_err-make_tables-clause-still : goal.returns-in_err-make_tables-clause-still
returns-in_err-make_tables-clause-still g c =
    let made = c.in_err-make_tables.ensures in
    let old = c.args.connection.now in
    let new = c.make_tables.new.connection in
    let up_clean = open-clean _ _ (g.met.A.Store.shut_if_dirty new.store) in
    record {
      knows = unmade-known g.A.Store old new up_clean made.was_open c.args.standing.now c.requires.unmade c.requires.knows made.unmade;
      alike = unmade-alike g.A.Store old new up_clean made.was_open c.args.standing.now c.requires.unmade c.requires.knows made.unmade made.crash made.clean
          (λ up. g.met.A.Store.stays old.store up);
      was_open = made.was_open;
    }

pub returns-clause-still : goal.returns-clause-still
returns-clause-still g c =
    let made = c.in_ok-make_tables.ensures in
    let old = c.args.connection.now in
    let new = c.make_tables.new.connection in
    let up_clean = open-clean _ _ (g.met.A.Store.shut_if_dirty new.store) in
    record {
      knows = made-known g.A.Store old new up_clean made.was_open c.args.standing.now c.requires.unmade c.requires.knows made.made made.completed;
      alike = made-alike g.A.Store old new up_clean made.was_open c.args.standing.now c.requires.unmade c.requires.knows made.made made.completed made.clean
          made.opened (λ left up may. g.met.A.Store.settled new.store left up may) (λ up. g.met.A.Store.stays old.store up);
      was_open = made.was_open;
    }

pub returns-clause-there : goal.returns-clause-there
returns-clause-there g c clean =
    let made = c.in_ok-make_tables.ensures in
    let new = c.make_tables.new.connection in
    made-there g.A.Store c.args.connection.now new (open-clean _ _ (g.met.A.Store.shut_if_dirty new.store)) made.was_open c.args.standing.now c.requires.unmade
    c.requires.knows made.made made.completed clean
