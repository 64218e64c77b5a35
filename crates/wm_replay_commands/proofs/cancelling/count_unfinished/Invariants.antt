use Rattle.std.proofs.Common.{◌≡◌, ◌≤◌, take}
use Rattle.std.specs.List.{count_by}
use Rattle.wm_machine.specs.Plan.{is_unfinished}
use Rattle.wm_replay_commands.proofs.cancelling.count_unfinished.Given as goal

-- the unfinished ones so far are counted
abbrev pub invariant-loop-work : goal.invariant-loop-work
invariant-loop-work l = (l.count ≡ count_by is_unfinished (take l.work-index l.works)) × (l.count ≤ l.work-index)
