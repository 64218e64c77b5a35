use Rattle.std.proofs.Common.{◌≡◌, map, pos, take}
use Rattle.wm_rows.proofs.rows.stored_numbers.Given as goal

-- the numbers so far are stored
abbrev pub invariant-loop-number : goal.invariant-loop-number
invariant-loop-number l = l.stored ≡ map pos (take l.number-index l.numbers)
