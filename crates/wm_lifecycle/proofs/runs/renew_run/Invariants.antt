use Rattle.std.proofs.Common.{◌≡◌, ◌++◌, drop, take}
use Rattle.wm_machine.specs.Updated.{is_run_of, with_renewed}
use Rattle.wm_lifecycle.proofs.runs.renew_run.Given as goal

-- the runs so far are renewed where they are meant
abbrev pub invariant-loop-run : goal.invariant-loop-run
invariant-loop-run l = l.runs ≡ with_renewed (is_run_of l.seq) (take l.run-index l.fn.runs) ++ drop l.run-index l.fn.runs
