use Rattle.std.proofs.Common.{◌≡◌, ◌≤◌, ◌*◌, nat_abs, take}
use Rattle.wm_data.specs.Size.{size_of}
use Rattle.wm_worker.specs.Answers.{sum_of}
use Rattle.wm_stock.proofs.sum.sum_of.Given as goal

-- the entries so far
abbrev pub invariant-loop-entry : goal.invariant-loop-entry
invariant-loop-entry l = (l.sum ≡ sum_of (take l.entry-index l.entry-items)) × (nat_abs l.sum ≤ 2147483648 * size_of (take l.entry-index l.entry-items))
