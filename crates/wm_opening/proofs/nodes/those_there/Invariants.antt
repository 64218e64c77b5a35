use Rattle.std.proofs.Common.{◌≡◌, filter, take}
use Rattle.wm_changes.specs.Nodes.{is_there}
use Rattle.wm_opening.proofs.nodes.those_there.Given as goal

abbrev pub invariant-loop-number : goal.invariant-loop-number
invariant-loop-number l = l.there.items ≡ filter (is_there l.works) (take l.number-index l.numbers)
