use Rattle.std.proofs.Common.{◌≡◌}
use Rattle.std.specs.Io.KnownBytes.{Keeps}
use Rattle.wm_io.proofs.standard.StdSourceSource.read.Given as goal

-- the reads so far were interrupted, so they took nothing and are no fault
abbrev pub invariant-tries : goal.invariant-tries
invariant-tries g l = record {
  bytes : Keeps l.fn.self.known (g.R.Read.remaining l.self-inside.inner);
  faults : l.self-inside.faults ≡ l.fn.self.faults;
}
