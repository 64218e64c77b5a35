use Rattle.std.proofs.Common.{◌≡◌, ◌≤◌, ◌==◌, ◌++◌, ℕ, map}
use Rattle.std.specs.List.{AllByRecursion, list_any}
use Rattle.std.specs.Map.Iter.{deref}
use Rattle.wm_collections.specs.Sets.{has_number}
use Rattle.wm_leases.proofs.ends.over_among.Given as goal

-- the runs so far are those of the ends so far, all of which have come
abbrev pub invariant-loop-end : goal.invariant-loop-end
invariant-loop-end l = record {
  split : map deref l.yielded ++ l.end-iterator ≡ l.initial.end-iterator;
  early : AllByRecursion (λ end. end.0 ≤ l.moment) (map deref l.yielded);
  runs : (run : ℕ) → has_number l.runs run ≡ list_any (λ end. end.1 == run) (map deref l.yielded);
}
