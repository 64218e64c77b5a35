use Rattle.std.proofs.Common.{take}
use Rattle.wm_observe.specs.Near.{is_near_replaced, IsWith}
use Rattle.wm_observe.proofs.nearby.add_near_replaced.Given as goal

-- those of the records so far are there
abbrev pub invariant-loop-replaced : goal.invariant-loop-replaced
invariant-loop-replaced l = IsWith (is_near_replaced l.view.works (take l.replaced-index l.touched)) l.initial.numbers l.numbers
