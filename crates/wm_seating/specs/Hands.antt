-- The instances that the workers which a run is given are.
use Rattle.std.specs.Prelude.{ℕ, ◌+◌, false, List, [], ◌∷◌, ◌≡◌, not, map, filter}
use Rattle.wm_bench.specs.declared.hand.Hand.{Hand}
use Rattle.wm_machine.specs.declared.state.Instance.{Instance}
use Rattle.wm_machine.specs.declared.state.State.{State}
use Rattle.wm_seating.specs.Bench.{hand_traits, instance_traits}
use Rattle.wm_worker.specs.declared.kind.Kind.{Kind}

-- the instance of a worker, under this number
abbrev pub instance_of : {B : Type 0} → (B → Kind) → ℕ → Hand B → Instance
instance_of kind_of number hand = record {
  number = number;
  class = hand.class;
  kind = kind_of hand.worker;
  out = false;
  retired = false;
}

-- the instances of workers, numbered in order from this number on
abbrev pub instances_from : {B : Type 0} → (B → Kind) → ℕ → List (Hand B) → List Instance
instances_from kind_of number [] = []
instances_from kind_of number (hand ∷ hands) = instance_of kind_of number hand ∷ instances_from kind_of (number + 1) hands

-- the workers are those of the instances that aren't retired, in order, of their class and kind
abbrev pub AreHandsBack : {B : Type 0} → (B → Kind) → State → List (Hand B) → Type 0
AreHandsBack kind_of last hands = map (hand_traits kind_of) hands ≡ map instance_traits (filter (λ instance. not instance.retired) last.instances)
