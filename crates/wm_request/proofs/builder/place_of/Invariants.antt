use Rattle.std.proofs.Common.{◌≤◌, ◌-◌, length}
use Rattle.wm_request.proofs.Tags.{GoesOn}
use Rattle.wm_request.proofs.builder.place_of.Given as goal

-- the tag comes after all that were looked at
abbrev pub invariant-places : goal.invariant-places
invariant-places l = record {
  index : l.index ≤ length l.tags;
  goes : GoesOn l.tag l.tags l.index;
}

abbrev pub decreases-places : goal.decreases-places
decreases-places l = length l.tags - l.index
