use Rattle.std.proofs.Common.{◌≡◌, ◌≤◌, ◌++◌, [], map, vec_len}
use Rattle.std.specs.Vec.{vec_capacity}
use Rattle.std.specs.Vec.Iter.{drain_items, drain_kept, drain_capacity}
use Rattle.wm_bench.specs.Places.{place_of}
use Rattle.wm_bench.proofs.bench.Bench.new.Given as goal

-- the hands so far have their places, for which there is room, and the others are left
abbrev pub invariant-hands : goal.invariant-hands
invariant-hands g l = record {
  places : l.places.items ≡ map place_of l.yielded;
  left : l.yielded ++ drain_items l.hand-iterator ≡ l.fn.hands.items;
  kept : drain_kept l.hand-iterator ≡ [];
  capacity : drain_capacity l.hand-iterator ≡ vec_capacity l.fn.hands;
  room : vec_len l.fn.hands ≤ vec_capacity l.places;
}
