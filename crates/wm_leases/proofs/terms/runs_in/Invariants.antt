use Rattle.std.proofs.Common.{◌≡◌, ◌++◌, map}
use Rattle.std.specs.Map.Iter.{deref}
use Rattle.wm_leases.proofs.terms.runs_in.Given as goal

abbrev pub invariant-loop-run : goal.invariant-loop-run
invariant-loop-run l = record {
  split : map deref l.yielded ++ l.run-iterator ≡ l.initial.run-iterator;
  list : l.runs.items ≡ map deref l.yielded;
}
