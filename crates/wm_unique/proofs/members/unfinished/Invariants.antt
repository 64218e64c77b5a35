use Rattle.std.proofs.Common.{◌≡◌, filter, take}
use Rattle.wm_machine.specs.Plan.{is_unfinished}
use Rattle.wm_unique.specs.Plans.{numbered_passes}
use Rattle.wm_unique.proofs.members.unfinished.Given as goal

-- the unfinished ones so far
abbrev pub invariant-loop-number : goal.invariant-loop-number
invariant-loop-number l = l.numbers ≡ filter (numbered_passes is_unfinished l.works) (take l.number-index l.group)
