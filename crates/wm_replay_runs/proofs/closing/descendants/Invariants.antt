use Rattle.std.proofs.Common.{◌≡◌, reverse, take}
use Rattle.wm_machine.specs.Closed.{descendants}
use Rattle.wm_replay_runs.proofs.closing.descendants.Given as goal

-- the descendants among the works so far
abbrev pub invariant-loop-work : goal.invariant-loop-work
invariant-loop-work l = l.numbers ≡ reverse (descendants l.seq (reverse (take l.work-index l.works)))
