-- The hands that are idle, with one more place.
use Rattle.std.proofs.Common.{◌≡◌, List, [], ◌∷◌, ◌++◌, Some, None}
use Rattle.std.proofs.lemmas.List.{append-nil}
use Rattle.std.proofs.lemmas.List.Elements.{filter_map-append}
use Rattle.wm_bench.specs.Places.{idle_hand, idle_hands}
use Rattle.wm_bench.specs.declared.hand.Hand.{Hand}
use Rattle.wm_bench.specs.declared.place.Place.{Place}

-- its instance is idle
pub idle_hands-idle : {B : Type 0} (places : List (Place B)) (place : Place B) (hand : Hand B) → idle_hand place ≡ Some hand
    → idle_hands (places ++ place ∷ []) ≡ idle_hands places ++ hand ∷ []
idle_hands-idle places place hand is = rw (filter_map-append idle_hand places (place ∷ []), is)

-- its instance is away
pub idle_hands-away : {B : Type 0} (places : List (Place B)) (place : Place B) → idle_hand place ≡ None → idle_hands (places ++ place ∷ []) ≡ idle_hands places
idle_hands-away places place is = rw (filter_map-append idle_hand places (place ∷ []), is, append-nil)
