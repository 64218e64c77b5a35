use Rattle.wm_sqlite.proofs.changes.put_row.Goals as goal

pub returns-in-Put : goal.returns-in-Put
returns-in-Put g c = rw c.in-Put.is c.replace_row.ensures
