use Rattle.std.proofs.Common.{◌≡◌, ◌≤◌, ◌++◌, length, vec_len}
use Rattle.std.specs.Vec.{vec_capacity}
use Rattle.std.specs.Vec.Iter.{into_iter_items}
use Rattle.wm_bench.specs.Places.{idle_hands}
use Rattle.wm_bench.proofs.bench.Bench.back.Given as goal

-- the room has the hands of the places so far, and was made for all
abbrev pub invariant-places : goal.invariant-places
invariant-places g l = record {
  hands : l.room.items ≡ idle_hands l.yielded;
  few : vec_len l.room ≤ length l.yielded;
  left : l.yielded ++ into_iter_items l.place-iterator ≡ l.fn.self;
  room : length l.fn.self ≤ vec_capacity l.room;
}
