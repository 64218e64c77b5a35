use Rattle.std.proofs.Common.{◌≡◌, drop}
use Rattle.wm_rows.specs.Sound.{checked, checked_after}
use Rattle.wm_rows.proofs.checking.check_all.Given as goal

-- what is found from here on is what is found
abbrev pub invariant-loop-row : goal.invariant-loop-row
invariant-loop-row l = checked_after l.before (drop l.row-index l.rows) ≡ checked l.rows
