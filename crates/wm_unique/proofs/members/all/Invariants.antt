use Rattle.std.proofs.Common.{◌≡◌, take}
use Rattle.wm_unique.proofs.members.all.Given as goal

-- those so far
abbrev pub invariant-loop-number : goal.invariant-loop-number
invariant-loop-number l = l.numbers ≡ take l.number-index l.group
