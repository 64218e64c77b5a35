use Rattle.wm_opening.proofs.OpenedRows.{reopened-sound}
use Rattle.wm_opening.proofs.opening.works_of.Goals as goal

pub returns-clause-ok : goal.returns-clause-ok
returns-clause-ok c =
    let both = c.in_ok-reopened.field-0 in
    let stored = c.in_ok-stored in
    let made = c.in_ok-reopened.ensures in
    reopened-sound c.args.rows.now stored.stored both.0 both.1.items stored.ensures.ok made.works made.changes
