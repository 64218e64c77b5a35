use Rattle.std.proofs.Common.{◌≤◌, length, take}
use Rattle.wm_steps.specs.Readied.{AreNamed}
use Rattle.wm_steps.proofs.rooms.classes_of.Given as goal

-- the classes of those so far are there, and no more than these
abbrev pub invariant-loop-instance : goal.invariant-loop-instance
invariant-loop-instance l = AreNamed l.classes (take l.instance-index l.instances) × (length l.classes ≤ l.instance-index)
