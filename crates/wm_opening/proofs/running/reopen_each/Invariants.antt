use Rattle.std.proofs.Common.{◌≡◌, ◌++◌, drop, map, take}
use Rattle.wm_machine.specs.Opened.{reopened}
use Rattle.wm_opening.specs.Reopenings.{AreReopenings}
use Rattle.wm_opening.proofs.running.reopen_each.Given as goal

-- the records so far wait again where their work was running
abbrev pub invariant-loop-work : goal.invariant-loop-work
invariant-loop-work l = record {
  works : l.works ≡ map reopened (take l.work-index l.fn.works) ++ drop l.work-index l.fn.works;
  index : l.index ≡ l.work-index;
  changes : AreReopenings (take l.work-index l.fn.rows) (take l.work-index l.fn.works) l.changes.items;
}
