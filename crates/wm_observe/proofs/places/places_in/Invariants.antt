use Rattle.std.proofs.Common.{take}
use Rattle.wm_observe.specs.Put.{AreFirstPlaces}
use Rattle.wm_observe.proofs.places.places_in.Given as goal

-- those so far are found
abbrev pub invariant-loop-index : goal.invariant-loop-index
invariant-loop-index l = AreFirstPlaces l.replaced (take l.index l.replaced) l.places
