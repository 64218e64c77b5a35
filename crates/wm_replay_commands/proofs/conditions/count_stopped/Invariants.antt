use Rattle.std.proofs.Common.{◌≡◌, ◌≤◌, take}
use Rattle.std.specs.List.{count_by}
use Rattle.wm_machine.specs.Settings.{is_stopped_by}
use Rattle.wm_replay_commands.proofs.conditions.count_stopped.Given as goal

-- the stopped ones so far are counted
abbrev pub invariant-loop-run : goal.invariant-loop-run
invariant-loop-run l =
    (l.count ≡ count_by (is_stopped_by l.conditions) (take l.run-index l.runs)) × (l.count ≤ l.run-index)
