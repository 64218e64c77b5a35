use Rattle.std.proofs.Common.{take}
use Rattle.wm_observe.specs.Near.{is_near_any, IsWith}
use Rattle.wm_observe.proofs.nearby.add_near_each.Given as goal

-- those of the numbers so far are there
abbrev pub invariant-loop-number : goal.invariant-loop-number
invariant-loop-number l = IsWith (is_near_any l.view.works (take l.number-index l.touched)) l.initial.numbers l.numbers
