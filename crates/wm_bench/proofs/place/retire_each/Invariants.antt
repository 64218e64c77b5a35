use Rattle.std.proofs.Common.{◌≡◌, ◌++◌, drop, map, take}
use Rattle.std.specs.Prelude.{count_by}
use Rattle.wm_bench.specs.Places.{is_idle_of, retired_at}
use Rattle.wm_bench.proofs.place.retire_each.Given as goal

-- the places so far are retired, and those that were idle there are counted
abbrev pub invariant-loop-place : goal.invariant-loop-place
invariant-loop-place g l = record {
  places : l.places ≡ map (retired_at g.B.Worker.kind_of l.class) (take l.place-index l.fn.places) ++ drop l.place-index l.fn.places;
  count : l.dropped ≡ count_by (is_idle_of l.class) (take l.place-index l.fn.places);
}
