use Rattle.sqlite.specs.Held.{state}
use Rattle.sqlite.specs.State.{HasCleanDisk}
use Rattle.wm_sqlite.proofs.Rests.{if_ok_from, if_ok_then, on_ok, open-clean, was-clean}
use Rattle.wm_sqlite.proofs.Tellings.{alike-then, found-shown, read-alike, read-known, there-shown}
use Rattle.wm_sqlite.specs.Told.{rows_told, told_of}
use Rattle.wm_sqlite.proofs.look.show_rows.Goals as goal

pub returns-clause-still : goal.returns-clause-still
returns-clause-still g c =
    let mid = c.make_missing.new.connection in
    let new = c.read_tables.new.connection in
    let standing = c.make_missing.new.standing in
    let made = c.in_ok-make_missing.ensures.made in
    let still = c.make_missing.ensures.still in
    let read = c.read_tables.ensures in
    let up_clean = open-clean _ _ (g.met.A.Store.shut_if_dirty new.store) in
    let clean : HasCleanDisk (state g.A.Store new) → HasCleanDisk (state g.A.Store mid) = λ now. was-clean read.survives.clean now in
    record {
      knows = read-known g.A.Store mid new up_clean read.was_open standing made still.knows read.kept;
      alike = alike-then (told_of c.args.standing.now (state g.A.Store c.args.connection.now) 0) (told_of standing (state g.A.Store mid) 0)
          (told_of standing (state g.A.Store new) 0) still.alike
          (read-alike g.A.Store mid new up_clean read.was_open standing made still.knows read.kept read.survives clean);
      was_open = λ now up. still.was_open (clean now) (read.was_open now up);
    }

pub returns-clause-told : goal.returns-clause-told
returns-clause-told g c clean =
    let mid = c.make_missing.new.connection in
    let told = rows_told c.args.standing.now (state g.A.Store c.args.connection.now) in
    let there = c.in_ok-make_missing.ensures.there (was-clean c.read_tables.ensures.survives.clean clean) in
    if_ok_from _ c.read_tables.result c.refused.result c.refused.ensures
    (if_ok_then _ _ c.read_tables.result (c.read_tables.ensures.rows clean) (λ shown shows.
    there-shown g.A.Store mid told shown.first.items shown.second.items there shows))

pub returns-clause-shown : goal.returns-clause-shown
returns-clause-shown g c clean =
    let new = c.read_tables.new.connection in
    if_ok_from _ c.read_tables.result c.refused.result c.refused.ensures
    (if_ok_then _ _ c.read_tables.result (c.read_tables.ensures.rows clean) (λ shown shows known up.
    found-shown g.A.Store c.make_missing.new.connection new (open-clean _ _ (g.met.A.Store.shut_if_dirty new.store)) c.read_tables.ensures.was_open
    c.make_missing.new.standing c.in_ok-make_missing.ensures.made c.make_missing.ensures.still.knows c.read_tables.ensures.kept
    shown.first.items shown.second.items shows known up))

pub returns-clause-made : goal.returns-clause-made
returns-clause-made g c = on_ok c.refused.result c.in_ok-make_missing.ensures.made
