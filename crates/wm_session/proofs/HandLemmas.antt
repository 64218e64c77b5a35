-- The places of a bench, one by one, and the hands that come back from them.
use Rattle.std.proofs.Common.{◌≡◌, ℕ, zero, suc, ◌+◌, false, List, [], ◌∷◌, map, filter, Some, IsSomeAnd, slice_get, refl, ap, subst, arith}
use Rattle.wm_bench.specs.declared.place.Presence.{Presence}
use Rattle.wm_bench.specs.declared.place.Presence.TheVariants.{Away, Gone, Idle}
use Rattle.wm_machine.specs.declared.state.Instance.{Instance}
use Rattle.wm_session.proofs.Words.{AreNumberedInOrder, EachAtPlace, EachBack, Hand, Kind, NoneAway, Place, State, Traits, idle_at, idle_hands, idle_in, instance_traits, is_away, kept_numbers, place_traits, retired_in, stays}

module _ {B : Type 0} (fact : ℕ → B → B → Type 0) (given : List (Hand B)) (kind_of : B → Kind) where
  -- it holds beside the worker that was given under this number
  abbrev HoldsAt : ℕ → B → Type 0
  HoldsAt number worker = IsSomeAnd (slice_get given number) (λ hand. fact number hand.worker worker)

  EachBack-cons : (class : List ℕ) (presence : Presence B) (places : List (Place B)) (instance : Instance) (instances : List Instance)
      → is_away presence ≡ false → retired_in presence ≡ instance.retired
      → ((worker : B) → idle_in presence ≡ Some worker → HoldsAt instance.number worker)
      → EachBack fact given (map (λ (i : Instance). i.number) (filter stays instances)) (idle_hands places)
      → EachBack fact given (map (λ (i : Instance). i.number) (filter stays (instance ∷ instances)))
      (idle_hands (record { class = class; presence = presence } ∷ places))
  EachBack-cons class (Idle worker) places instance instances here same holds rest = rw (← same) (holds worker refl, rest)
  EachBack-cons class (Away kind retired) places instance instances here same holds rest = absurd cc
  EachBack-cons class (Gone kind) places instance instances here same holds rest = rw (← same) rest

  EachBack-from : (first : ℕ) (places : List (Place B)) (instances : List Instance) → AreNumberedInOrder first instances → NoneAway places
      → map (place_traits kind_of) places ≡ map instance_traits instances
      → ((number : ℕ) (worker : B) → idle_at number places ≡ Some worker → HoldsAt (first + number) worker)
      → EachBack fact given (map (λ (i : Instance). i.number) (filter stays instances)) (idle_hands places)
  EachBack-from first [] [] in_order none same holds = refl
  EachBack-from first [] (instance ∷ instances) in_order none same holds = absurd cc
  EachBack-from first (place ∷ places) [] in_order none same holds = absurd cc
  EachBack-from first (place ∷ places) (instance ∷ instances) in_order none same holds =
      let head : place_traits kind_of place ≡ instance_traits instance = cc in
      let rest : map (place_traits kind_of) places ≡ map instance_traits instances = cc in
      let here : first + 0 ≡ instance.number = omega (arith, in_order.0) in
      EachBack-cons place.class place.presence places instance instances none.0 (ap (λ (t : Traits). t.retired) head)
      (λ worker idle. subst (λ n. HoldsAt n worker) here (holds zero worker idle))
      (EachBack-from (first + 1) places instances in_order.1 none.1 rest
      (λ number worker idle. subst (λ n. HoldsAt n worker) (omega arith) (holds (suc number) worker idle)))

  -- where no worker is away, what holds at each place holds of each that comes back
  pub EachBack-all : (places : List (Place B)) (last : State) → AreNumberedInOrder 0 last.instances → NoneAway places
      → map (place_traits kind_of) places ≡ map instance_traits last.instances → EachAtPlace fact given places
      → EachBack fact given (kept_numbers last) (idle_hands places)
  EachBack-all places last in_order none same holds =
      EachBack-from 0 places last.instances in_order none same (λ number worker idle. subst (λ n. HoldsAt n worker) (omega arith) (holds number worker idle))
