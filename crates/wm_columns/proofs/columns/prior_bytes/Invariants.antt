use Rattle.std.proofs.Common.{◌≡◌, Some, take}
use Rattle.wm_columns.specs.Columns.{prior_in}
use Rattle.wm_columns.proofs.columns.prior_bytes.Given as goal

abbrev pub invariant-loop-number : goal.invariant-loop-number
invariant-loop-number l = prior_in l.bytes.items ≡ Some (take l.number-index l.numbers)
