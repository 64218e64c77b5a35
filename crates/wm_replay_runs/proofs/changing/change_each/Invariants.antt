use Rattle.std.proofs.Common.{◌≡◌, ◌++◌, cond, drop, map, take}
use Rattle.wm_replay_runs.proofs.changing.change_each.Given as goal

-- the values so far are as they come to be
abbrev pub invariant-loop-value : goal.invariant-loop-value
invariant-loop-value g l =
    l.values ≡ map (λ value. cond (g.C.Change.meant l.change value) (g.C.Change.made l.change value) value) (take l.value-index l.fn.values)
    ++ drop l.value-index l.fn.values
