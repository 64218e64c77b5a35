use Rattle.std.proofs.Common.{◌≡◌, ◌++◌, map, take}
use Rattle.wm_changes.specs.StepChanges.{put_work}
use Rattle.wm_engine.proofs.row_changes.put_placed.Given as goal

-- the rows of the works so far are added
abbrev pub invariant-loop-work : goal.invariant-loop-work
invariant-loop-work l = l.changes.items ≡ l.fn.changes.items ++ map put_work (take l.work-index l.works)
