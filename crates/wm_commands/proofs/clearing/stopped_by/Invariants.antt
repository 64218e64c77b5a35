use Rattle.std.proofs.Common.{◌≡◌, ◌&&◌, filter, map, take}
use Rattle.wm_commands.specs.Cleared.{is_run_among}
use Rattle.wm_commands.proofs.clearing.stopped_by.Given as goal

-- the numbers of those so far that are stopped are there
abbrev pub invariant-loop-run : goal.invariant-loop-run
invariant-loop-run l =
    l.numbers ≡ map (λ run. run.run) (filter (λ run. run.current && is_run_among l.cancelled run) (take l.run-index l.runs))
