use Rattle.std.proofs.Common.{rules, sym, ◌∙◌}
use Rattle.wm_keeper.proofs.Places.{put_row-at, put_row-gap}
use Rattle.wm_keeper.proofs.rows.put.Goals as goal

pub returns-in-Ok-clause-put : goal.returns-in-Ok-clause-put
returns-in-Ok-clause-put c = sym (put_row-at c.args.row c.args.rows.now.items c.in-Ok.index c.requires.ascending (search rules) (search rules))

-- there is room, so the insertion succeeds
pub returns-in-Err-clause-put : goal.returns-in-Err-clause-put
returns-in-Err-clause-put c =
    let items = c.insert.ensures.items in
    let inserted = rw (c.insert.ensures.succeeds c.requires.room) at items in
    inserted ∙ sym (put_row-gap c.args.row c.args.rows.now.items c.in-Err.index (search rules) (search rules))
