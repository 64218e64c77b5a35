use Rattle.std.proofs.Common.{◌≡◌, ◌++◌, drop, map, take}
use Rattle.wm_machine.specs.Opened.{reopened}
use Rattle.wm_audit.proofs.opening.reopen_each.Given as goal

-- the records so far wait again where their work was running
abbrev pub invariant-loop-work : goal.invariant-loop-work
invariant-loop-work l = l.works ≡ map reopened (take l.work-index l.fn.works) ++ drop l.work-index l.fn.works
