use Rattle.std.proofs.Common.{◌≡◌}
use Rattle.std.specs.Io.KnownBytes.{Keeps}
use Rattle.wm_io.proofs.standard.StdSinkSink.write.Given as goal

-- the writes so far were interrupted, so they gave nothing and are no fault
abbrev pub invariant-tries : goal.invariant-tries
invariant-tries g l = record {
  bytes : Keeps l.fn.self.known (g.W.Write.contents l.self-inside.inner);
  faults : l.self-inside.faults ≡ l.fn.self.faults;
}
