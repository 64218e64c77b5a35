use Rattle.std.proofs.Common.{◌≡◌, ◌+◌, ◌-◌, ◌≤◌, length}
use Rattle.wm_beginning.specs.Script.{IsTakenFrom}
use Rattle.wm_beginning.proofs.script.read_script.Given as goal

-- what was read so far stood in front of what is left
abbrev pub invariant-pieces : goal.invariant-pieces
invariant-pieces g l = record {
  taken : IsTakenFrom (g.S.Source.left l.fn.source) (g.S.Source.left l.source) l.script.items;
  within : length l.script.items ≤ l.most_bytes + 1;
  no_fault : g.S.Source.faults l.source ≡ g.S.Source.faults l.fn.source;
}

abbrev pub decreases-pieces : goal.decreases-pieces
decreases-pieces g l = l.most_bytes + 1 - length l.script.items
