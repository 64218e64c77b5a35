use Rattle.std.proofs.Common.{◌≡◌, map, take}
use Rattle.wm_columns.specs.Columns.{number_of}
use Rattle.wm_columns.proofs.columns.prior_in.Given as goal

abbrev pub invariant-loop-group : goal.invariant-loop-group
invariant-loop-group l = l.numbers ≡ map number_of (take l.group-index l.groups)
