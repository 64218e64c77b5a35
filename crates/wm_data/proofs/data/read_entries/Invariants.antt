use Rattle.std.proofs.Common.{take}
use Rattle.wm_data.specs.InType.{AreInType}
use Rattle.wm_data.proofs.data.read_entries.Given as goal

-- the entries so far
abbrev pub invariant-loop-entry : goal.invariant-loop-entry
invariant-loop-entry l = AreInType (take l.entry-index l.entries)
