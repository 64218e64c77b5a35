use Rattle.std.proofs.Common.{◌≡◌, take}
use Rattle.std.specs.List.{list_any}
use Rattle.wm_ready.specs.Entries.{has, Entry}
use Rattle.wm_steps.specs.Readied.{is_entry_of}
use Rattle.wm_steps.proofs.readying.ready_of.Given as goal

-- those so far that are ready are there
abbrev pub invariant-loop-work : goal.invariant-loop-work
invariant-loop-work l = (entry : Entry) → has l.ready entry ≡ list_any (is_entry_of l.classes l.works entry) (take l.work-index l.works)
