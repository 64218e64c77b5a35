use Rattle.std.proofs.Common.{◌≡◌, ◌++◌, take}
use Rattle.wm_merge.proofs.element.extend.Given as goal

-- the elements so far
abbrev pub invariant-loop-element : goal.invariant-loop-element
invariant-loop-element g l = l.all ≡ l.fn.all ++ take l.element-index l.element-items
