use Rattle.std.proofs.Common.{◌≡◌, map, take}
use Rattle.wm_sqlite.specs.Table.{column_of}
use Rattle.wm_sqlite.proofs.form.are_columns.Given as goal

-- the columns so far are of these forms
abbrev pub invariant-loop-at : goal.invariant-loop-at
invariant-loop-at l = take l.at l.columns ≡ map (λ form. column_of (form.0.now, form.1, form.2)) (take l.at l.forms)
