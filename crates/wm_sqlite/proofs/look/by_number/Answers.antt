use Rattle.std.proofs.lemmas.List.Sorted.{IsPermutation-refl}
use Rattle.wm_sqlite.proofs.look.by_number.Goals as goal

pub returns-then-do_ascend-clause-rows : goal.returns-then-do_ascend-clause-rows
returns-then-do_ascend-clause-rows c = IsPermutation-refl c.args.rows.items

pub returns-clause-rows : goal.returns-clause-rows
returns-clause-rows c = c.sort_by_number.ensures.rows

pub returns-clause-ascending : goal.returns-clause-ascending
returns-clause-ascending c = c.in_ok-sort_by_number.ensures.ascending
