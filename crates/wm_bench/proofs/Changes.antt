-- What a change at one place of a bench leaves.
use Rattle.std.proofs.Common.{◌≡◌, ℕ, zero, suc, ◌-◌, ◌<◌, ◌≤◌, List, [], ◌∷◌, ◌++◌, length, length-take, get_or, set, take, drop, map, None, refl, ap, ◌∙◌, arith}
use Rattle.std.proofs.lemmas.List.{get_or-append_right, get_or-drop, length-map}
use Rattle.std.proofs.lemmas.Option.{slice_get_past}
use Rattle.std.proofs.lemmas.Bool.{cond_both}
use Rattle.std.specs.Str.{bytes_eq}
use Rattle.wm_bench.specs.Places.{changed_at, idle_at, made_retired, retired_at, retired_from, IsAwayAt, IsAwayIn}
use Rattle.wm_bench.specs.declared.place.Place.{Place}
use Rattle.wm_bench.specs.declared.place.Presence.{Presence}
use Rattle.wm_bench.specs.declared.place.Presence.TheVariants.{Away, Gone, Idle}
use Rattle.wm_worker.specs.declared.kind.Kind.{Kind}

-- the place that stands there is changed
pub set-change : {B : Type 0} (change : Place B → Place B) (number : ℕ) (places : List (Place B)) (default : Place B) → number < length places
    → set places number (change (get_or places number default)) ≡ changed_at change number places
set-change change number [] default within = absurd (omega arith)
set-change change zero (first ∷ places) default within = refl
set-change change (suc number) (first ∷ places) default within = ap (λ rest. first ∷ rest) (set-change change number places default (omega arith))

-- past the places nothing changes
pub changed_at-past : {B : Type 0} (change : Place B → Place B) (number : ℕ) (places : List (Place B)) → length places ≤ number
    → changed_at change number places ≡ places
changed_at-past change number [] past = refl
changed_at-past change zero (first ∷ places) past = absurd (omega arith)
changed_at-past change (suc number) (first ∷ places) past = ap (λ rest. first ∷ rest) (changed_at-past change number places (omega arith))

-- past the places no worker is idle
pub idle_at-past : {B : Type 0} (number : ℕ) (places : List (Place B)) → length places ≤ number → idle_at number places ≡ None
idle_at-past number places past = rw (slice_get_past places number past)

-- a place whose turn comes when those before it are changed is as it was
pub get_or-unchanged : {B : Type 0} (change : Place B → Place B) (places now : List (Place B)) (number : ℕ) (default : Place B) → number < length places
    → now ≡ map change (take number places) ++ drop number places → get_or now number default ≡ get_or places number default
get_or-unchanged change places now number default within so_far =
    let changed : length (map change (take number places)) ≡ number = simp (length-map, length-take) (omega arith) in
    ap (λ list. get_or list number default) so_far
    ∙ get_or-append_right (map change (take number places)) (drop number places) number number default changed (omega arith)
    ∙ get_or-drop number places (number - number) default
    ∙ ap (λ n. get_or places n default) (omega arith)

away-retired : {B : Type 0} (kind_of : B → Kind) (kind : Kind) (presence : Presence B) → IsAwayIn kind presence → IsAwayIn kind (retired_from kind_of presence)
away-retired kind_of kind (Idle worker) away = absurd away
away-retired kind_of kind (Away its retired) away = away
away-retired kind_of kind (Gone its) away = absurd away

-- an instance that is away stays so where its class is retired
pub IsAwayAt-retired : {B : Type 0} (kind_of : B → Kind) (class : List ℕ) (number : ℕ) (kind : Kind) (places : List (Place B)) → IsAwayAt number kind places
    → IsAwayAt number kind (map (retired_at kind_of class) places)
IsAwayAt-retired kind_of class number kind [] away = absurd away
IsAwayAt-retired kind_of class zero kind (place ∷ places) away =
    cond_both (bytes_eq place.class class) (made_retired kind_of place) place (λ changed. IsAwayIn kind changed.presence)
    (λ same. away-retired kind_of kind place.presence away) (λ other. away)
IsAwayAt-retired kind_of class (suc number) kind (place ∷ places) away = IsAwayAt-retired kind_of class number kind places away
