use Rattle.sqlite.specs.Held.{state}
use Rattle.wm_sqlite.proofs.Commits.{loaded-told}
use Rattle.wm_sqlite.proofs.Rests.{open-clean}
use Rattle.wm_sqlite.proofs.Tellings.{alike-counted, alike-kept, alike-telling}
use Rattle.wm_sqlite.proofs.keeper.SqliteKeeper.load_rows.Goals as goal

pub returns-clause-rows : goal.returns-clause-rows
returns-clause-rows g c =
    let i = c.self.inside in
    let new = c.read_rows.new.connection in
    rw (← c.self.view_is)
    (loaded-told i.standing c.read_rows.new.standing (state g.A.Store i.connection) (state g.A.Store new) i.faults i.faults c.in_ok-rows.rows.items
    (open-clean _ _ (g.met.A.Store.shut_if_dirty new.store)) c.in_ok-rows.ensures.rows (alike-kept _ _ c.read_rows.ensures.still.alike))

pub returns-in_err-rows-clause-telling : goal.returns-in_err-rows-clause-telling
returns-in_err-rows-clause-telling g c =
    let i = c.self.inside in
    let new = c.read_rows.new.connection in
    rw (← c.self.view_is)
    (alike-telling _ _ (alike-counted i.standing c.read_rows.new.standing (state g.A.Store i.connection) (state g.A.Store new) i.faults i.faults
    c.read_rows.ensures.still.alike))

pub returns-in_err-rows-clause-kept : goal.returns-in_err-rows-clause-kept
returns-in_err-rows-clause-kept g c =
    let i = c.self.inside in
    let new = c.read_rows.new.connection in
    rw (← c.self.view_is)
    (alike-kept _ _ (alike-counted i.standing c.read_rows.new.standing (state g.A.Store i.connection) (state g.A.Store new) i.faults i.faults
    c.read_rows.ensures.still.alike))

pub returns-clause-telling : goal.returns-clause-telling
returns-clause-telling g c =
    let i = c.self.inside in
    let new = c.read_rows.new.connection in
    rw (← c.self.view_is)
    (alike-telling _ _ (alike-counted i.standing c.read_rows.new.standing (state g.A.Store i.connection) (state g.A.Store new) i.faults i.faults
    c.read_rows.ensures.still.alike))

pub returns-clause-kept : goal.returns-clause-kept
returns-clause-kept g c =
    let i = c.self.inside in
    let new = c.read_rows.new.connection in
    rw (← c.self.view_is)
    (alike-kept _ _ (alike-counted i.standing c.read_rows.new.standing (state g.A.Store i.connection) (state g.A.Store new) i.faults i.faults
    c.read_rows.ensures.still.alike))
