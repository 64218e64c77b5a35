use Rattle.std.proofs.Common.{◌≡◌, take}
use Rattle.wm_steps.specs.Entries.{settling, with_changed}
use Rattle.wm_steps.proofs.entries.settle_each.Given as goal

-- the records so far have changed their entries
abbrev pub invariant-loop-replacement : goal.invariant-loop-replacement
invariant-loop-replacement l = l.index ≡ with_changed settling (take l.replacement-index l.replaced) l.fn.index
