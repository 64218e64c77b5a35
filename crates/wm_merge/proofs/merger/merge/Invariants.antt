use Rattle.std.proofs.Common.{◌≡◌, fold, take}
use Rattle.wm_merge.specs.Growing.{grown_with, nothing_grown}
use Rattle.wm_merge.specs.Inputs.{all_entries}
use Rattle.wm_merge.proofs.merger.merge.Given as goal

-- the inputs so far
abbrev pub invariant-loop-input : goal.invariant-loop-input
invariant-loop-input l = l.merging ≡ fold (grown_with l.how) nothing_grown (all_entries (take l.input-index l.inputs))
