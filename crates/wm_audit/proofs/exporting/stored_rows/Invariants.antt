use Rattle.std.proofs.Common.{◌≡◌, map, take}
use Rattle.wm_machine.specs.Rows.{row_of}
use Rattle.wm_audit.proofs.exporting.stored_rows.Given as goal

-- those of the records so far are there
abbrev pub invariant-loop-work : goal.invariant-loop-work
invariant-loop-work l = l.rows ≡ map row_of (take l.work-index l.works)
