use Rattle.std.proofs.Common.{◌≡◌, ◌≤◌, take}
use Rattle.std.specs.List.{count_by}
use Rattle.wm_machine.specs.First.{is_idle}
use Rattle.wm_replay_commands.proofs.retiring.count_idle.Given as goal

-- the idle ones so far are counted
abbrev pub invariant-loop-instance : goal.invariant-loop-instance
invariant-loop-instance l =
    (l.count ≡ count_by (is_idle l.class) (take l.instance-index l.instances)) × (l.count ≤ l.instance-index)
