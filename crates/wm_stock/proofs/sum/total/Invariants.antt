use Rattle.std.proofs.Common.{◌≡◌, ◌≤◌, ◌*◌, nat_abs, take}
use Rattle.wm_worker.specs.Answers.{total}
use Rattle.wm_stock.proofs.sum.total.Given as goal

-- the numbers so far
abbrev pub invariant-loop-number : goal.invariant-loop-number
invariant-loop-number l = (l.sum ≡ total (take l.number-index l.numbers)) × (nat_abs l.sum ≤ 2147483648 * l.number-index)
