use Rattle.std.proofs.Common.{◌≡◌, ◌-◌, ◌≤◌, length, take}
use Rattle.wm_io.specs.Writing.{IsAppended}
use Rattle.wm_io.proofs.writing.write_front.Given as goal

-- the bytes taken were given
abbrev pub invariant-pieces : goal.invariant-pieces
invariant-pieces g l = record {
  within : l.taken ≤ length l.text;
  given : IsAppended (g.W.Sink.given l.fn.sink) (g.W.Sink.given l.sink) (take l.taken l.text);
  no_fault : g.W.Sink.faults l.sink ≡ g.W.Sink.faults l.fn.sink;
}

abbrev pub decreases-pieces : goal.decreases-pieces
decreases-pieces g l = length l.text - l.taken
