-- The places of a bench beside the instances of a state, after a line, which may retire a class.
use Rattle.std.proofs.Common.{◌≡◌, ℕ, zero, suc, Bool, true, false, cond, List, [], ◌∷◌, map, Some, refl, sym, ◌∙◌, ap}
use Rattle.std.specs.Str.{bytes_eq}
use Rattle.std.proofs.lemmas.Bool.{cond_both}
use Rattle.wm_bench.specs.Places.{idle_at, idle_in, made_retired, retired_at, retired_from}
use Rattle.wm_bench.specs.declared.place.Place.{Place}
use Rattle.wm_bench.specs.declared.place.Presence.{Presence}
use Rattle.wm_bench.specs.declared.place.Presence.TheVariants.{Idle, Away, Gone}
use Rattle.wm_machine.proofs.Retirings.{retired_both, retired_in}
use Rattle.wm_machine.specs.Frame.{instances_after}
use Rattle.wm_machine.specs.Retired.{with_retired}
use Rattle.wm_machine.specs.declared.command.Command.{Command}
use Rattle.wm_machine.specs.declared.command.Command.TheVariants as command
use Rattle.wm_machine.specs.declared.state.Instance.{Instance}
use Rattle.wm_worker.specs.declared.kind.Kind.{Kind}
use Rattle.wm_seating.specs.Bench.{instance_traits, is_away, place_traits, places_after, NoneAway, Traits}

-- ---- one class

ap_cond : {T U : Type 0} (b : Bool) (f : T → U) (x y : T) → f (cond b x y) ≡ cond b (f x) (f y)
ap_cond true f x y = refl
ap_cond false f x y = refl

traits_retired : List ℕ → Traits → Traits
traits_retired class traits = cond (bytes_eq traits.class class) (record traits { retired = true }) traits

made_retired-traits : {B : Type 0} (kind_of : B → Kind) (class : List ℕ) (presence : Presence B)
    → place_traits kind_of (made_retired kind_of (record { class = class; presence = presence }))
    ≡ record (place_traits kind_of (record { class = class; presence = presence })) { retired = true }
made_retired-traits kind_of class (Idle worker) = refl
made_retired-traits kind_of class (Away kind retired) = refl
made_retired-traits kind_of class (Gone kind) = refl

place-retired : {B : Type 0} (kind_of : B → Kind) (class : List ℕ) (place : Place B)
    → place_traits kind_of (retired_at kind_of class place) ≡ traits_retired class (place_traits kind_of place)
unfolding traits_retired
place-retired kind_of class place =
    let traits = place_traits kind_of place in
    ap_cond (bytes_eq place.class class) (place_traits kind_of) (made_retired kind_of place) place
    ∙ ap (λ (t : Traits). cond (bytes_eq place.class class) t traits) (made_retired-traits kind_of place.class place.presence)

instance-retired : (class : List ℕ) (instance : Instance) → instance_traits (retired_in class instance) ≡ traits_retired class (instance_traits instance)
unfolding traits_retired
instance-retired class instance =
    ap_cond (bytes_eq instance.class class) instance_traits (record instance { retired = true }) instance

-- where they agree, they still do
traits-retired : {B : Type 0} (kind_of : B → Kind) (class : List ℕ) (places : List (Place B)) (instances : List Instance)
    → map (place_traits kind_of) places ≡ map instance_traits instances
    → map (place_traits kind_of) (map (retired_at kind_of class) places) ≡ map instance_traits (with_retired class instances)
traits-retired kind_of class [] [] same = refl
traits-retired kind_of class [] (instance ∷ instances) same = absurd cc
traits-retired kind_of class (place ∷ places) [] same = absurd cc
traits-retired kind_of class (place ∷ places) (instance ∷ instances) same =
    let rest : map (place_traits kind_of) places ≡ map instance_traits instances = cc in
    let head : place_traits kind_of place ≡ instance_traits instance = cc in
    ap (λ (t : Traits). t ∷ map (place_traits kind_of) (map (retired_at kind_of class) places))
    (place-retired kind_of class place ∙ ap (traits_retired class) head ∙ sym (instance-retired class instance))
    ∙ ap (λ (l : List Traits). instance_traits (retired_in class instance) ∷ l) (traits-retired kind_of class places instances rest)

away_from_retired : {B : Type 0} (kind_of : B → Kind) (presence : Presence B) → is_away (retired_from kind_of presence) ≡ is_away presence
away_from_retired kind_of (Idle worker) = refl
away_from_retired kind_of (Away kind retired) = refl
away_from_retired kind_of (Gone kind) = refl

away-retired : {B : Type 0} (kind_of : B → Kind) (class : List ℕ) (place : Place B)
    → is_away (retired_at kind_of class place).presence ≡ is_away place.presence
away-retired kind_of class place =
    cond_both (bytes_eq place.class class) (made_retired kind_of place) place (λ p. is_away p.presence ≡ is_away place.presence)
    (λ e. away_from_retired kind_of place.presence) (λ e. refl)

all_away-retired : {B : Type 0} (kind_of : B → Kind) (class : List ℕ) (places : List (Place B))
    → map (λ place. is_away place.presence) (map (retired_at kind_of class) places) ≡ map (λ place. is_away place.presence) places
all_away-retired kind_of class [] = refl
all_away-retired kind_of class (place ∷ places) =
    ap (λ b. b ∷ map (λ place. is_away place.presence) (map (retired_at kind_of class) places)) (away-retired kind_of class place)
    ∙ ap (λ l. is_away place.presence ∷ l) (all_away-retired kind_of class places)

out-retired : (class : List ℕ) (instances : List Instance)
    → map (λ instance. instance.out) (with_retired class instances) ≡ map (λ instance. instance.out) instances
out-retired class [] = refl
out-retired class (instance ∷ instances) =
    ap (λ b. b ∷ map (λ instance. instance.out) (with_retired class instances))
    (retired_both (λ i. i.out ≡ instance.out) class instance refl refl)
    ∙ ap (λ l. instance.out ∷ l) (out-retired class instances)

NoneAway-retired : {B : Type 0} (kind_of : B → Kind) (class : List ℕ) (places : List (Place B)) → NoneAway places
    → NoneAway (map (retired_at kind_of class) places)
NoneAway-retired kind_of class [] none = tt
NoneAway-retired kind_of class (place ∷ places) none = (away-retired kind_of class place ∙ none.0, NoneAway-retired kind_of class places none.1)

idle_from_retired : {B : Type 0} (kind_of : B → Kind) (worker : B) (presence : Presence B) → idle_in (retired_from kind_of presence) ≡ Some worker
    → idle_in presence ≡ Some worker
idle_from_retired kind_of worker (Idle other) idle = absurd cc
idle_from_retired kind_of worker (Away kind retired) idle = absurd cc
idle_from_retired kind_of worker (Gone kind) idle = absurd cc

idle-retired : {B : Type 0} (kind_of : B → Kind) (class : List ℕ) (worker : B) (place : Place B)
    → idle_in (retired_at kind_of class place).presence ≡ Some worker → idle_in place.presence ≡ Some worker
idle-retired kind_of class worker place =
    cond_both (bytes_eq place.class class) (made_retired kind_of place) place (λ p. idle_in p.presence ≡ Some worker → idle_in place.presence ≡ Some worker)
    (λ e. idle_from_retired kind_of worker place.presence) (λ e idle. idle)

idle_at-retired : {B : Type 0} (kind_of : B → Kind) (class : List ℕ) (worker : B) (number : ℕ) (places : List (Place B))
    → idle_at number (map (retired_at kind_of class) places) ≡ Some worker → idle_at number places ≡ Some worker
idle_at-retired kind_of class worker number [] idle = idle
idle_at-retired kind_of class worker zero (place ∷ places) idle = idle-retired kind_of class worker place idle
idle_at-retired kind_of class worker (suc number) (place ∷ places) idle = idle_at-retired kind_of class worker number places idle

-- ---- a line

-- the places are still the instances
pub workers-after : {B : Type 0} (kind_of : B → Kind) (asked : Command) (places : List (Place B)) (instances : List Instance)
    → map (place_traits kind_of) places ≡ map instance_traits instances
    → map (place_traits kind_of) (places_after kind_of asked places) ≡ map instance_traits (instances_after asked instances)
workers-after kind_of (command.Retire class) places instances same = traits-retired kind_of class places instances same
workers-after kind_of _ places instances same = same

-- who is away is still who is out
pub away-after : {B : Type 0} (kind_of : B → Kind) (asked : Command) (places : List (Place B)) (instances : List Instance)
    → map (λ place. is_away place.presence) places ≡ map (λ instance. instance.out) instances
    → map (λ place. is_away place.presence) (places_after kind_of asked places) ≡ map (λ instance. instance.out) (instances_after asked instances)
away-after kind_of (command.Retire class) places instances same =
    all_away-retired kind_of class places ∙ same ∙ sym (out-retired class instances)
away-after kind_of _ places instances same = same

pub NoneAway-after : {B : Type 0} (kind_of : B → Kind) (asked : Command) (places : List (Place B)) → NoneAway places
    → NoneAway (places_after kind_of asked places)
NoneAway-after kind_of (command.Retire class) places none = NoneAway-retired kind_of class places none
NoneAway-after kind_of _ places none = none

-- who is at its place was there before
pub idle_at-after : {B : Type 0} (kind_of : B → Kind) (asked : Command) (worker : B) (number : ℕ) (places : List (Place B))
    → idle_at number (places_after kind_of asked places) ≡ Some worker → idle_at number places ≡ Some worker
idle_at-after kind_of (command.Retire class) worker number places idle = idle_at-retired kind_of class worker number places idle
idle_at-after kind_of _ worker number places idle = idle
