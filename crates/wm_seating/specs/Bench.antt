-- How the bench of a session agrees with the instances of its state.
use Rattle.std.specs.Prelude.{◌≡◌, ℕ, ◌==◌, Bool, true, false, List, map}
use Rattle.std.specs.List.{list_any, AllByRecursion}
use Rattle.wm_bench.specs.Places.{retired_at, retired_in}
use Rattle.wm_bench.specs.declared.hand.Hand.{Hand}
use Rattle.wm_bench.specs.declared.place.Place.{Place}
use Rattle.wm_bench.specs.declared.place.Presence.{Presence}
use Rattle.wm_bench.specs.declared.place.Presence.TheVariants.{Idle, Away, Gone}
use Rattle.wm_machine.specs.declared.command.Command.{Command}
use Rattle.wm_machine.specs.declared.command.Command.TheVariants as command
use Rattle.wm_machine.specs.declared.state.Instance.{Instance}
use Rattle.wm_roll.specs.declared.part.Part.{Part}
use Rattle.wm_worker.specs.declared.kind.Kind.{Kind}

-- what stays of an instance while it is out and when it is back
pub record Traits : Type 0 where
  pub class : List ℕ
  pub kind : Kind
  pub retired : Bool

abbrev pub instance_traits : Instance → Traits
instance_traits instance = record { class = instance.class; kind = instance.kind; retired = instance.retired }

abbrev pub kind_at : {B : Type 0} → (B → Kind) → Presence B → Kind
kind_at kind_of (Idle worker) = kind_of worker
kind_at kind_of (Away kind retired) = kind
kind_at kind_of (Gone kind) = kind

abbrev pub place_traits : {B : Type 0} → (B → Kind) → Place B → Traits
place_traits kind_of place = record { class = place.class; kind = kind_at kind_of place.presence; retired = retired_in place.presence }

abbrev pub hand_traits : {B : Type 0} → (B → Kind) → Hand B → Traits
hand_traits kind_of hand = record { class = hand.class; kind = kind_of hand.worker; retired = false }

-- the places after a line: those of a class that it retires are retired
abbrev pub places_after : {B : Type 0} → (B → Kind) → Command → List (Place B) → List (Place B)
places_after kind_of (command.Retire class) places = map (retired_at kind_of class) places
places_after kind_of _ places = places

-- whether the worker of a place is away
abbrev pub is_away : {B : Type 0} → Presence B → Bool
is_away (Idle worker) = false
is_away (Away kind retired) = true
is_away (Gone kind) = false

-- no worker is away
abbrev pub NoneAway : {B : Type 0} → List (Place B) → Type 0
NoneAway places = AllByRecursion (λ place. is_away place.presence ≡ false) places

-- whether a part of this instance is on the roll
abbrev pub is_out_on : List Part → Instance → Bool
is_out_on roll instance = list_any (λ part. part.instance == instance.number) roll
