use Rattle.std.proofs.Common.{◌≡◌, take}
use Rattle.wm_gathering.proofs.waiting.copies_of.Given as goal

-- the copies so far are those of the changes so far
abbrev pub invariant-loop-change : goal.invariant-loop-change
invariant-loop-change l = l.copies.items ≡ take l.change-index l.changes
