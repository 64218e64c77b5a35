use Rattle.std.proofs.Common.{◌≡◌, ◌++◌, map}
use Rattle.std.specs.Map.Iter.{deref}
use Rattle.wm_collections.proofs.sets.listed.Given as goal

abbrev pub invariant-loop-number : goal.invariant-loop-number
invariant-loop-number l = record {
  split : map deref l.yielded ++ l.number-iterator ≡ l.initial.number-iterator;
  list : l.list.items ≡ map deref l.yielded;
}
