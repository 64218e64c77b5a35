use Rattle.std.proofs.Common.{◌≡◌, ◌≤◌, ◌++◌, drop, take}
use Rattle.std.specs.List.{AllByRecursion}
use Rattle.wm_machine.specs.Turns.{with_turned}
use Rattle.wm_lifecycle.proofs.runs.turn_run.Given as goal

-- the runs so far are as they come to be, and those that are left are in one of their turns
abbrev pub invariant-loop-run : goal.invariant-loop-run
invariant-loop-run l = record {
  done : l.runs ≡ with_turned l.number (take l.run-index l.fn.runs) ++ drop l.run-index l.fn.runs;
  left : AllByRecursion (λ run. run.turn ≤ 999) (drop l.run-index l.runs);
}
