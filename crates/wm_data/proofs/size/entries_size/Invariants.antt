use Rattle.std.proofs.Common.{◌≡◌, ◌+◌, take, sum_by}
use Rattle.wm_data.specs.Size.{entry_size}
use Rattle.wm_data.proofs.size.entries_size.Given as goal

-- the entries so far
abbrev pub invariant-loop-entry : goal.invariant-loop-entry
invariant-loop-entry l = l.size ≡ 2 + sum_by entry_size (take l.entry-index l.entries)
