use Rattle.std.proofs.Common.{take}
use Rattle.std.specs.List.{AllByRecursion}
use Rattle.wm_data.proofs.number.read_each.Given as goal

-- the numbers so far
abbrev pub invariant-loop-number : goal.invariant-loop-number
invariant-loop-number g l = AllByRecursion g.T.Number.is_in_type (take l.number-index l.number-items)
