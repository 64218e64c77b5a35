use Rattle.std.proofs.Common.{rules, sym, ◌∙◌}
use Rattle.wm_keeper.proofs.Places.{remove_row-at, remove_row-gap}
use Rattle.wm_keeper.proofs.rows.remove.Goals as goal

pub returns-in-Ok-clause-removed : goal.returns-in-Ok-clause-removed
returns-in-Ok-clause-removed c =
    c.remove.ensures.items ∙ sym (remove_row-at c.args.seq c.args.rows.now.items c.in-Ok.index c.requires (search rules) (search rules))

pub returns-in_default-clause-removed : goal.returns-in_default-clause-removed
returns-in_default-clause-removed c = sym (remove_row-gap c.args.seq c.args.rows.now.items c.in_default.field-0 (search rules) (search rules))
