-- The workers that a run is given, as instances and at their places.
use Rattle.std.proofs.Common.{◌≡◌, ℕ, suc, ◌+◌, false, List, [], ◌∷◌, map, filter, refl, ap, subst, arith, ◌≤◌, not, ◌++◌, length, sym, ◌∙◌}
use Rattle.std.specs.List.{AllByRecursion, filter}
use Rattle.wm_bench.specs.Places.{idle_hands, place_of, most_hands}
use Rattle.wm_bench.specs.declared.hand.Hand.{Hand}
use Rattle.wm_bench.specs.declared.place.Place.{Place}
use Rattle.wm_machine.specs.Opened.{AreFresh, IsFresh}
use Rattle.wm_machine.specs.Valid.{AreNumberedInOrder}
use Rattle.wm_machine.specs.declared.state.Instance.{Instance}
use Rattle.wm_machine.specs.declared.state.State.{State}
use Rattle.wm_seating.proofs.PlacesChanged.{hand_traits-places}
use Rattle.wm_seating.specs.Bench.{NoneAway, instance_traits, place_traits, hand_traits}
use Rattle.wm_seating.specs.Hands.{instance_of, instances_from, AreHandsBack}
use Rattle.wm_worker.specs.declared.kind.Kind.{Kind}

-- every worker that was given is at its place
pub NoneAway-hands : {B : Type 0} (hands : List (Hand B)) → NoneAway (map place_of hands)
NoneAway-hands [] = tt
NoneAway-hands (hand ∷ hands) = (refl, NoneAway-hands hands)

module _ {B : Type 0} (kind_of : B → Kind) where
  pub instances_from-push : (number : ℕ) (hands : List (Hand B)) (hand : Hand B)
      → instances_from kind_of number (hands ++ hand ∷ []) ≡ instances_from kind_of number hands ++ instance_of kind_of (number + length hands) hand ∷ []
  instances_from-push number [] hand = ap (λ n. instance_of kind_of n hand ∷ []) (omega arith)
  instances_from-push number (first ∷ hands) hand =
      ap (λ rest. instance_of kind_of number first ∷ rest)
      (instances_from-push (number + 1) hands hand
      ∙ ap (λ n. instances_from kind_of (number + 1) hands ++ instance_of kind_of n hand ∷ []) (omega arith))

  pub in_order : (number : ℕ) (hands : List (Hand B)) → AreNumberedInOrder number (instances_from kind_of number hands)
  in_order number [] = tt
  in_order number (hand ∷ hands) = (refl, in_order (number + 1) hands)

  fresh : (number : ℕ) (hands : List (Hand B)) → AllByRecursion IsFresh (instances_from kind_of number hands)
  fresh number [] = tt
  fresh number (hand ∷ hands) = (record { out = refl; retired = refl }, fresh (number + 1) hands)

  as_many : (number : ℕ) (hands : List (Hand B)) → length (instances_from kind_of number hands) ≡ length hands
  as_many number [] = refl
  as_many number (hand ∷ hands) = ap (λ n. suc n) (as_many (number + 1) hands)

  -- workers are fresh instances
  pub AreFresh-instances_from : (hands : List (Hand B)) → length hands ≤ most_hands → AreFresh (instances_from kind_of 0 hands)
  AreFresh-instances_from hands few = record {
    few = subst (λ n. n ≤ most_hands) (sym (as_many 0 hands)) few;
    in_order = in_order 0 hands;
    all = fresh 0 hands;
  }

  -- none of them is out
  pub all_in : (number : ℕ) (hands : List (Hand B)) → AllByRecursion (λ (instance : Instance). instance.out ≡ false) (instances_from kind_of number hands)
  all_in number [] = tt
  all_in number (hand ∷ hands) = (refl, all_in (number + 1) hands)

  -- their places are those of the instances
  pub traits-places : (number : ℕ) (hands : List (Hand B))
      → map (place_traits kind_of) (map place_of hands) ≡ map instance_traits (instances_from kind_of number hands)
  traits-places number [] = refl
  traits-places number (hand ∷ hands) = ap (λ rest. place_traits kind_of (place_of hand) ∷ rest) (traits-places (number + 1) hands)

  -- they are those of the instances that aren't retired
  pub traits-hands : (number : ℕ) (hands : List (Hand B))
      → map (hand_traits kind_of) hands ≡ map instance_traits (filter (λ instance. not instance.retired) (instances_from kind_of number hands))
  traits-hands number [] = refl
  traits-hands number (hand ∷ hands) = ap (λ rest. hand_traits kind_of hand ∷ rest) (traits-hands (number + 1) hands)

  -- where the instances are still those of the workers that were given, these come back
  pub AreHandsBack-opened : (last : State) (hands back : List (Hand B)) → last.instances ≡ instances_from kind_of 0 hands → back ≡ hands
      → AreHandsBack kind_of last back
  AreHandsBack-opened last hands back is same =
      ap (map (hand_traits kind_of)) same
      ∙ traits-hands 0 hands
      ∙ sym (ap (λ (instances : List Instance). map instance_traits (filter (λ instance. not instance.retired) instances)) is)

-- at their places they are the hands
pub idle_hands-places : {B : Type 0} (hands : List (Hand B)) → idle_hands (map place_of hands) ≡ hands
idle_hands-places [] = refl
idle_hands-places (hand ∷ hands) = ap (λ rest. hand ∷ rest) (idle_hands-places hands)

-- where no worker is away, those of the instances that aren't retired come back
pub AreHandsBack-all : {B : Type 0} (kind_of : B → Kind) (places : List (Place B)) (last : State) → NoneAway places
    → map (place_traits kind_of) places ≡ map instance_traits last.instances → AreHandsBack kind_of last (idle_hands places)
AreHandsBack-all kind_of places last none same = hand_traits-places kind_of places last.instances none same
