use Rattle.std.proofs.Common.{◌≡◌, ◌++◌, map, take}
use Rattle.wm_changes.specs.StepChanges.{put_replaced}
use Rattle.wm_engine.proofs.row_changes.put_replaced.Given as goal

-- the rows of the records so far are added
abbrev pub invariant-loop-replacement : goal.invariant-loop-replacement
invariant-loop-replacement l = l.changes.items ≡ l.fn.changes.items ++ map put_replaced (take l.replacement-index l.replaced)
