-- The best so far is the first of the works that were looked at.
use Rattle.std.proofs.Common.{◌≡◌, ◌<◌, ◌≤◌, length, slice_get, IfSome}
use Rattle.std.specs.Option.{option_and_then}
use Rattle.wm_query.proofs.ScanLemmas.{first_from}
use Rattle.wm_query.proofs.scan.first_index.Given as goal

abbrev pub invariant-works : goal.invariant-works
invariant-works l = record {
  index : l.index ≤ length l.state.works;
  within : IfSome l.first (λ i. i < length l.state.works);
  first : first_from l.state l.index ≡ option_and_then (slice_get l.state.works) l.first;
}

abbrev pub decreases-works : goal.decreases-works
decreases-works l = l.index
