-- The places of a bench once one of them has changed, and the hands that come back from them.
use Rattle.std.proofs.Common.{◌≡◌, ℕ, zero, suc, Bool, true, false, not, List, [], ◌∷◌, map, Some, IsSomeAnd, slice_get, refl, sym, ◌∙◌, ap, inl, inr, arith, ◌⊎◌, filter, option_map}
use Rattle.std.proofs.lemmas.Bool.{cond-false, cond-true}
use Rattle.wm_bench.specs.Places.{changed_at, made_back, IsAwayAt, IsAwayIn, idle_at, made_away, away_from, back_in, idle_hands, idle_in, place_of, retired_in}
use Rattle.wm_bench.specs.Seat.{Seat}
use Rattle.wm_bench.specs.declared.hand.Hand.{Hand}
use Rattle.wm_bench.specs.declared.place.Place.{Place}
use Rattle.wm_bench.specs.declared.place.Presence.{Presence}
use Rattle.wm_bench.specs.declared.place.Presence.TheVariants.{Idle, Away, Gone}
use Rattle.wm_machine.specs.declared.state.Instance.{Instance}
use Rattle.wm_seating.proofs.PlacesAndInstances.{here-back, seat_is}
use Rattle.wm_seating.specs.Bench.{instance_traits, is_away, place_traits, Traits, NoneAway, hand_traits}
use Rattle.wm_engine.specs.TableState.{TicketState}
use Rattle.wm_worker.specs.declared.kind.Kind.{Kind}

-- ---- hands that are given

-- a worker is at the place that it was given for
pub idle_at-given : {B : Type 0} (hands : List (Hand B)) (number : ℕ) (worker : B) → idle_at number (map place_of hands) ≡ Some worker
    → IsSomeAnd (slice_get hands number) (λ hand. hand.worker ≡ worker)
idle_at-given [] number worker idle = absurd cc
idle_at-given (hand ∷ hands) zero worker idle = cc
idle_at-given (hand ∷ hands) (suc number) worker idle = idle_at-given hands number worker idle

-- ---- one place changed

-- a worker that went is back
pub NoneAway-back : {B : Type 0} (kind_of : B → Kind) (back : B) (number : ℕ) (places : List (Place B)) → NoneAway places
    → NoneAway (changed_at (made_back kind_of back) number (changed_at (made_away kind_of) number places))
NoneAway-back kind_of back number [] none = tt
NoneAway-back kind_of back zero (place ∷ places) none = (here-back kind_of back (made_away kind_of place), none.1)
NoneAway-back kind_of back (suc number) (place ∷ places) none = (none.0, NoneAway-back kind_of back number places none.1)

away_from-idle : {B : Type 0} (kind_of : B → Kind) (worker : B) (presence : Presence B) → idle_in presence ≡ Some worker
    → IsAwayIn (kind_of worker) (away_from kind_of presence)
away_from-idle kind_of worker (Idle other) idle = let same : other ≡ worker = cc in ap kind_of same
away_from-idle kind_of worker (Away kind retired) idle = absurd cc
away_from-idle kind_of worker (Gone kind) idle = absurd cc

-- a worker that was idle is away
pub IsAwayAt-taken : {B : Type 0} (kind_of : B → Kind) (worker : B) (number : ℕ) (places : List (Place B)) → idle_at number places ≡ Some worker
    → IsAwayAt number (kind_of worker) (changed_at (made_away kind_of) number places)
IsAwayAt-taken kind_of worker number [] idle = absurd cc
IsAwayAt-taken kind_of worker zero (place ∷ places) idle = away_from-idle kind_of worker place.presence idle
IsAwayAt-taken kind_of worker (suc number) (place ∷ places) idle = IsAwayAt-taken kind_of worker number places idle

not_idle : {B : Type 0} (kind_of : B → Kind) (worker : B) (presence : Presence B) → idle_in (away_from kind_of presence) ≡ Some worker → ⊥
not_idle kind_of worker (Idle other) idle = cc
not_idle kind_of worker (Away kind retired) idle = cc
not_idle kind_of worker (Gone kind) idle = cc

-- a worker that is idle where one was taken was idle before, at another place
pub idle_at-taken : {B : Type 0} (kind_of : B → Kind) (taken number : ℕ) (worker : B) (places : List (Place B))
    → idle_at number (changed_at (made_away kind_of) taken places) ≡ Some worker → (number ≡ taken → ⊥) × (idle_at number places ≡ Some worker)
idle_at-taken kind_of taken number worker [] idle = absurd cc
idle_at-taken kind_of zero zero worker (place ∷ places) idle = absurd (not_idle kind_of worker place.presence idle)
idle_at-taken kind_of (suc taken) zero worker (place ∷ places) idle = (λ same. omega arith, idle)
idle_at-taken kind_of zero (suc number) worker (place ∷ places) idle = (λ same. omega arith, idle)
idle_at-taken kind_of (suc taken) (suc number) worker (place ∷ places) idle =
    let rest = idle_at-taken kind_of taken number worker places idle in (λ same. rest.0 (omega arith), rest.1)

came_back : {B : Type 0} (kind_of : B → Kind) (back worker : B) (retired : Bool) → idle_in (back_in kind_of back retired) ≡ Some worker → worker ≡ back
came_back kind_of back worker false idle = cc
came_back kind_of back worker true idle = absurd cc

-- a worker that is idle where one came back is that one, or was idle before
pub idle_at-back : {B : Type 0} (kind_of : B → Kind) (back : B) (place_number number : ℕ) (worker : B) (places : List (Place B))
    → idle_at number (changed_at (made_back kind_of back) place_number places) ≡ Some worker
    → ((number ≡ place_number) × (worker ≡ back)) ⊎ (idle_at number places ≡ Some worker)
idle_at-back kind_of back place_number number worker [] idle = absurd cc
idle_at-back kind_of back zero zero worker (place ∷ places) idle = inl (refl, came_back kind_of back worker (retired_in place.presence) idle)
idle_at-back kind_of back (suc place_number) zero worker (place ∷ places) idle = inr idle
idle_at-back kind_of back zero (suc number) worker (place ∷ places) idle = inr idle
idle_at-back kind_of back (suc place_number) (suc number) worker (place ∷ places) idle =
    elim (idle_at-back kind_of back place_number number worker places idle) [
      | inl same ↦ inl (ap suc same.0, same.1)
      | inr before ↦ inr before
    ]

come_back_in : {B : Type 0} (kind_of : B → Kind) (worker : B) (class : List ℕ) (presence : Presence B) → idle_in presence ≡ Some worker
    → made_back kind_of worker (made_away kind_of (record { class = class; presence = presence })) ≡ record { class = class; presence = presence }
come_back_in kind_of worker class (Idle other) idle =
    let same : other ≡ worker = cc in λ i. record { class = class; presence = Idle (sym same i) }
come_back_in kind_of worker class (Away kind retired) idle = absurd cc
come_back_in kind_of worker class (Gone kind) idle = absurd cc

come_back : {B : Type 0} (kind_of : B → Kind) (worker : B) (place : Place B) → idle_in place.presence ≡ Some worker
    → made_back kind_of worker (made_away kind_of place) ≡ place
come_back kind_of worker place idle = come_back_in kind_of worker place.class place.presence idle

-- a worker that was taken is back, and the places are as they were
pub places-back : {B : Type 0} (kind_of : B → Kind) (worker : B) (number : ℕ) (places : List (Place B)) → idle_at number places ≡ Some worker
    → changed_at (made_back kind_of worker) number (changed_at (made_away kind_of) number places) ≡ places
places-back kind_of worker number [] idle = refl
places-back {B} kind_of worker zero (place ∷ places) idle = ap (λ (here : Place B). here ∷ places) (come_back kind_of worker place idle)
places-back {B} kind_of worker (suc number) (place ∷ places) idle =
    ap (λ (rest : List (Place B)). place ∷ rest) (places-back kind_of worker number places idle)

away_idle : {B : Type 0} (kind : Kind) (worker : B) (presence : Presence B) → IsAwayIn kind presence → idle_in presence ≡ Some worker → ⊥
away_idle kind worker (Idle other) away idle = away
away_idle kind worker (Away its retired) away idle = cc
away_idle kind worker (Gone its) away idle = away

-- a worker that is idle isn't where one is away
pub elsewhere : {B : Type 0} (kind : Kind) (worker : B) (at number : ℕ) (places : List (Place B)) → IsAwayAt at kind places → idle_at number places ≡ Some worker
    → number ≡ at → ⊥
elsewhere kind worker at number [] away idle same = away
elsewhere kind worker zero zero (place ∷ places) away idle same = away_idle kind worker place.presence away idle
elsewhere kind worker zero (suc number) (place ∷ places) away idle same = cc
elsewhere kind worker (suc at) zero (place ∷ places) away idle same = cc
elsewhere kind worker (suc at) (suc number) (place ∷ places) away idle same = elsewhere kind worker at number places away idle (cc)

-- ---- a worker that is taken

-- the worker of a ticket's instance was taken, with a seat
pub record IsTaken {B : Type 0} (kind_of : B → Kind) (ticket : TicketState) (seat : Seat B) (places now : List (Place B)) : Type 0 where
  pub number : seat.number ≡ ticket.instance
  pub worker : idle_at ticket.instance places ≡ Some seat.worker
  pub places_are : now ≡ changed_at (made_away kind_of) ticket.instance places

pub IsTaken-at : {B : Type 0} {kind_of : B → Kind} {places now : List (Place B)} (ticket : TicketState) (place : ℕ) (seat : Seat B)
    → place ≡ ticket.instance → Some seat ≡ option_map (λ worker. record { number = place; worker = worker }) (idle_at place places)
    → now ≡ changed_at (made_away kind_of) place places → IsTaken kind_of ticket seat places now
IsTaken-at {kind_of = kind_of} {places = places} ticket place seat same taken are =
    let seated = seat_is place (idle_at place places) seat taken in
    record {
      number = seated.1 ∙ same;
      worker = ap (λ n. idle_at n places) (sym same) ∙ seated.0;
      places_are = are ∙ ap (λ n. changed_at (made_away kind_of) n places) same;
    }

-- ---- all hands

abbrev pub stays : Instance → Bool
stays instance = not instance.retired

filter-kept : (instance : Instance) (instances : List Instance) → instance.retired ≡ false
    → filter stays (instance ∷ instances) ≡ instance ∷ filter stays instances
filter-kept instance instances kept = cond-true (stays instance) (instance ∷ filter stays instances) (filter stays instances) (ap not kept)

filter-gone : (instance : Instance) (instances : List Instance) → instance.retired ≡ true → filter stays (instance ∷ instances) ≡ filter stays instances
filter-gone instance instances gone = cond-false (stays instance) (instance ∷ filter stays instances) (filter stays instances) (ap not gone)

-- the hand of a place in front is that of an instance that isn't retired
hands-cons : {B : Type 0} (kind_of : B → Kind) (class : List ℕ) (presence : Presence B) (places : List (Place B)) (instance : Instance)
    (instances : List Instance) → is_away presence ≡ false
    → place_traits kind_of (record { class = class; presence = presence }) ≡ instance_traits instance
    → map (hand_traits kind_of) (idle_hands places) ≡ map instance_traits (filter stays instances)
    → map (hand_traits kind_of) (idle_hands (record { class = class; presence = presence } ∷ places))
    ≡ map instance_traits (filter stays (instance ∷ instances))
hands-cons kind_of class (Idle worker) places instance instances here same rest =
    ap (λ traits. traits ∷ map (hand_traits kind_of) (idle_hands places)) same
    ∙ ap (λ others. instance_traits instance ∷ others) rest
    ∙ ap (map instance_traits) (sym (filter-kept instance instances (ap (λ (t : Traits). t.retired) (sym same))))
hands-cons kind_of class (Away kind retired) places instance instances here same rest = absurd cc
hands-cons kind_of class (Gone kind) places instance instances here same rest =
    rest ∙ ap (map instance_traits) (sym (filter-gone instance instances (ap (λ (t : Traits). t.retired) (sym same))))

pub hand_traits-places : {B : Type 0} (kind_of : B → Kind) (places : List (Place B)) (instances : List Instance) → NoneAway places
    → map (place_traits kind_of) places ≡ map instance_traits instances
    → map (hand_traits kind_of) (idle_hands places) ≡ map instance_traits (filter stays instances)
hand_traits-places kind_of [] [] none same = refl
hand_traits-places kind_of [] (instance ∷ instances) none same = absurd cc
hand_traits-places kind_of (place ∷ places) [] none same = absurd cc
hand_traits-places kind_of (place ∷ places) (instance ∷ instances) none same =
    let head : place_traits kind_of place ≡ instance_traits instance = cc in
    let rest : map (place_traits kind_of) places ≡ map instance_traits instances = cc in
    hands-cons kind_of place.class place.presence places instance instances none.0 head (hand_traits-places kind_of places instances none.1 rest)
