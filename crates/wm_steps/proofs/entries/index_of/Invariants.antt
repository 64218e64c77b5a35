use Rattle.std.proofs.Common.{◌≡◌, map, take}
use Rattle.wm_steps.proofs.EntryKept.{whole_entry}
use Rattle.wm_steps.proofs.entries.index_of.Given as goal

-- the records so far are there
abbrev pub invariant-loop-work : goal.invariant-loop-work
invariant-loop-work l = l.index ≡ map whole_entry (take l.work-index l.works)
