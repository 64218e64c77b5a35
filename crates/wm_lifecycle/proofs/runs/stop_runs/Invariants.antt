use Rattle.std.proofs.Common.{◌≡◌, ◌++◌, drop, take}
use Rattle.wm_collections.specs.Lists.{is_among}
use Rattle.wm_machine.specs.Runs.{with_stopped}
use Rattle.wm_lifecycle.proofs.runs.stop_runs.Given as goal

-- the runs so far are stopped where they are meant
abbrev pub invariant-loop-run : goal.invariant-loop-run
invariant-loop-run l = l.runs ≡ with_stopped (λ run. is_among l.numbers run.run) (take l.run-index l.fn.runs) ++ drop l.run-index l.fn.runs
