-- The places of a bench, numbered from 0 in order: which instances are idle there, and what taking,
-- giving and retiring leave.
use Rattle.std.specs.Prelude.{◌≡◌, ℕ, zero, suc, Bool, true, false, ◌&&◌, List, [], ◌∷◌, slice_get, filter_map, if◌then◌else◌, Option, Some, None, is_some, option_map, option_and_then, IsSomeAnd}
use Rattle.std.specs.Str.{bytes_eq}
use Rattle.wm_bench.specs.declared.hand.Hand.{Hand}
use Rattle.wm_bench.specs.declared.place.Place.{Place}
use Rattle.wm_bench.specs.declared.place.Presence.{Presence}
use Rattle.wm_bench.specs.declared.place.Presence.TheVariants.{Idle, Away, Gone}
use Rattle.wm_worker.specs.declared.kind.Kind.{Kind}

-- a bench is made of at most so many hands
abbrev pub most_hands : ℕ
most_hands = 10000

-- the place of a hand that is idle
abbrev pub place_of : {B : Type 0} → Hand B → Place B
place_of hand = record { class = hand.class; presence = Idle hand.worker }

-- ---- who is at a place

abbrev pub idle_in : {B : Type 0} → Presence B → Option B
idle_in (Idle worker) = Some worker
idle_in (Away kind retired) = None
idle_in (Gone kind) = None

-- the worker that is idle at a place
abbrev pub idle_worker : {B : Type 0} → Place B → Option B
idle_worker place = idle_in place.presence

-- the worker that is idle at the place of this number
abbrev pub idle_at : {B : Type 0} → ℕ → List (Place B) → Option B
idle_at number places = option_and_then idle_worker (slice_get places number)

abbrev pub IsAwayIn : {B : Type 0} → Kind → Presence B → Type 0
IsAwayIn kind (Idle worker) = ⊥
IsAwayIn kind (Away its retired) = its ≡ kind
IsAwayIn kind (Gone its) = ⊥

-- the instance of this number is away, and of this kind
abbrev pub IsAwayAt : {B : Type 0} → ℕ → Kind → List (Place B) → Type 0
IsAwayAt number kind places = IsSomeAnd (slice_get places number) (λ place. IsAwayIn kind place.presence)

-- whether the class of a place was retired
abbrev pub retired_in : {B : Type 0} → Presence B → Bool
retired_in (Idle worker) = false
retired_in (Away kind retired) = retired
retired_in (Gone kind) = true

-- ---- what becomes of a place

abbrev pub away_from : {B : Type 0} → (B → Kind) → Presence B → Presence B
away_from kind_of (Idle worker) = Away (kind_of worker) false
away_from kind_of (Away kind retired) = Away kind retired
away_from kind_of (Gone kind) = Gone kind

-- a place whose worker is taken is away
abbrev pub made_away : {B : Type 0} → (B → Kind) → Place B → Place B
made_away kind_of place = record place { presence = away_from kind_of place.presence }

abbrev pub back_in : {B : Type 0} → (B → Kind) → B → Bool → Presence B
back_in kind_of worker false = Idle worker
back_in kind_of worker true = Gone (kind_of worker)

-- a place to which this worker comes back: it is idle there, or dropped where the class was retired
abbrev pub made_back : {B : Type 0} → (B → Kind) → B → Place B → Place B
made_back kind_of worker place = record place { presence = back_in kind_of worker (retired_in place.presence) }

abbrev pub retired_from : {B : Type 0} → (B → Kind) → Presence B → Presence B
retired_from kind_of (Idle worker) = Gone (kind_of worker)
retired_from kind_of (Away kind retired) = Away kind true
retired_from kind_of (Gone kind) = Gone kind

-- a place whose class is retired: a worker that is idle there is dropped
abbrev pub made_retired : {B : Type 0} → (B → Kind) → Place B → Place B
made_retired kind_of place = record place { presence = retired_from kind_of place.presence }

-- a place after this class is retired
abbrev pub retired_at : {B : Type 0} → (B → Kind) → List ℕ → Place B → Place B
retired_at kind_of class place = if bytes_eq place.class class then made_retired kind_of place else place

-- whether a worker of this class is idle at a place
abbrev pub is_idle_of : {B : Type 0} → List ℕ → Place B → Bool
is_idle_of class place = bytes_eq place.class class && is_some (idle_worker place)

-- the places with the one of this number changed
abbrev pub changed_at : {B : Type 0} → (Place B → Place B) → ℕ → List (Place B) → List (Place B)
changed_at change number [] = []
changed_at change zero (place ∷ places) = change place ∷ places
changed_at change (suc number) (place ∷ places) = place ∷ changed_at change number places

-- ---- who comes back

-- the hand of the instance that is idle at a place
abbrev pub idle_hand : {B : Type 0} → Place B → Option (Hand B)
idle_hand place = option_map (λ worker. record { class = place.class; worker = worker }) (idle_worker place)

-- the hands of the instances that are idle, in order
abbrev pub idle_hands : {B : Type 0} → List (Place B) → List (Hand B)
idle_hands places = filter_map idle_hand places
