use Rattle.wm_conditions.proofs.Gathering.{meets, AreUpTo}
use Rattle.wm_conditions.proofs.tracker.bits_of.Given as goal

abbrev pub invariant-loop-number : goal.invariant-loop-number
invariant-loop-number l = AreUpTo (meets l.conditions) l.number l.bits
