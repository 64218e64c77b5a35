use Rattle.std.proofs.Common.{◌≡◌, ◌++◌, map, take}
use Rattle.wm_steps.specs.Entries.{new_entry}
use Rattle.wm_steps.proofs.entries.add_each.Given as goal

-- the records so far are there
abbrev pub invariant-loop-work : goal.invariant-loop-work
invariant-loop-work l = l.index ≡ l.fn.index ++ map new_entry (take l.work-index l.placed)
