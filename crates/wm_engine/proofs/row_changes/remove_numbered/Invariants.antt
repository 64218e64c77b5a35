use Rattle.std.proofs.Common.{◌≡◌, ◌++◌, map, take}
use Rattle.wm_changes.specs.StepChanges.{remove_numbered}
use Rattle.wm_engine.proofs.row_changes.remove_numbered.Given as goal

-- the numbers so far are added
abbrev pub invariant-loop-number : goal.invariant-loop-number
invariant-loop-number l = l.changes.items ≡ l.fn.changes.items ++ map remove_numbered (take l.number-index l.numbers)
