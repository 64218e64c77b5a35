use Rattle.std.proofs.Common.{take, FitsSigned, w64}
use Rattle.std.specs.List.{AllByRecursion}
use Rattle.wm_audit_text.proofs.ranges.read_each.Given as goal

-- the numbers so far
abbrev pub invariant-loop-number : goal.invariant-loop-number
invariant-loop-number l = AllByRecursion (FitsSigned w64) (take l.number-index l.numbers)
