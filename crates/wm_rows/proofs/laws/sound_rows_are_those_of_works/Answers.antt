use Rattle.wm_rows.proofs.StoreRead.{checked_rows, checked_stored, checked_works}
use Rattle.wm_rows.proofs.laws.sound_rows_are_those_of_works.Goals as goal

pub returns-clause-rows : goal.returns-clause-rows
returns-clause-rows c = checked_rows

pub returns-clause-stored : goal.returns-clause-stored
returns-clause-stored c = checked_stored

pub returns-clause-works : goal.returns-clause-works
returns-clause-works c = checked_works
