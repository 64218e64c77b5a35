use Rattle.std.proofs.Common.{◌≡◌, vec_len}
use Rattle.own_worker.proofs.run.Given as goal

-- the workers so far
abbrev pub invariant-loop-number : goal.invariant-loop-number
invariant-loop-number g l = vec_len l.hands ≡ l._number
