use Rattle.std.proofs.Common.{length}
use Rattle.wm_audit.specs.Verdicts.{Reached}
use Rattle.wm_audit.proofs.checking.check.Given as goal

-- the lines so far are right, and lead here
abbrev pub invariant-lines : goal.invariant-lines
invariant-lines l = Reached l.fn.bytes l.rest l.number l.place

abbrev pub decreases-lines : goal.decreases-lines
decreases-lines l = length l.rest
