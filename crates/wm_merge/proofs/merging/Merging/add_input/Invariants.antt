use Rattle.std.proofs.Common.{◌≡◌, fold, take}
use Rattle.wm_merge.specs.Growing.{grown_with}
use Rattle.wm_merge.proofs.merging.Merging.add_input.Given as goal

-- the entries so far
abbrev pub invariant-loop-entry : goal.invariant-loop-entry
invariant-loop-entry l = l.self ≡ fold (grown_with l.how) l.fn.self (take l.entry-index l.entry-items)
