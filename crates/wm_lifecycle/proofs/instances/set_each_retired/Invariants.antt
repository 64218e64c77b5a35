use Rattle.std.proofs.Common.{◌≡◌, ◌++◌, drop, take}
use Rattle.wm_machine.specs.Retired.{with_retired}
use Rattle.wm_lifecycle.proofs.instances.set_each_retired.Given as goal

-- the instances so far are set
abbrev pub invariant-loop-instance : goal.invariant-loop-instance
invariant-loop-instance l = l.instances ≡ with_retired l.class (take l.instance-index l.fn.instances) ++ drop l.instance-index l.fn.instances
