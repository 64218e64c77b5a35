use Rattle.std.proofs.Common.{◌≡◌, ◌++◌, take}
use Rattle.wm_unique.proofs.named.add_ids.Given as goal

-- those so far are added
abbrev pub invariant-loop-other : goal.invariant-loop-other
invariant-loop-other l = l.ids ≡ l.fn.ids ++ take l.other-index l.others
