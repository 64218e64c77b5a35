-- The places of a bench beside the instances of a state.
use Rattle.std.proofs.Common.{◌≡◌, ℕ, ◌+◌, ◌<◌, ◌≤◌, true, false, List, [], ◌∷◌, map, Option, Some, None, option_map, option_and_then, slice_get, refl, sym, ◌∙◌, ap, arith, zero, suc, Bool, inl, inr}
use Rattle.std.specs.List.{AllByRecursion}
use Rattle.wm_bench.specs.Places.{away_from, back_in, changed_at, idle_at, idle_in, idle_worker, made_away, made_back, retired_in, IsAwayAt, IsAwayIn}
use Rattle.wm_bench.specs.Seat.{Seat}
use Rattle.wm_bench.specs.declared.place.Place.{Place}
use Rattle.wm_bench.specs.declared.place.Presence.TheVariants.{Idle, Away, Gone}
use Rattle.wm_bench.specs.declared.place.Presence.{Presence}
use Rattle.wm_machine.proofs.Runnings.{made_both}
use Rattle.wm_machine.specs.Runs.{with_out}
use Rattle.wm_collections.specs.Lists.{HasOne}
use Rattle.wm_machine.specs.Valid.{AreNumberedInOrder, IsInstanceOf}
use Rattle.wm_machine.specs.declared.state.Instance.{Instance}
use Rattle.wm_machine.specs.declared.state.Run.{Run}
use Rattle.wm_worker.specs.declared.kind.Kind.{Kind}
use Rattle.wm_seating.specs.Bench.{instance_traits, is_away, kind_at, place_traits, NoneAway, Traits}

-- ---- what stays of a place and of an instance

-- what stays of the instance of a place of this class
abbrev traits_in : {B : Type 0} → (B → Kind) → List ℕ → Presence B → Traits
traits_in kind_of class presence = record { class = class; kind = kind_at kind_of presence; retired = retired_in presence }

traits-away : {B : Type 0} (kind_of : B → Kind) (class : List ℕ) (presence : Presence B)
    → traits_in kind_of class (away_from kind_of presence) ≡ traits_in kind_of class presence
traits-away kind_of class (Idle worker) = refl
traits-away kind_of class (Away kind retired) = refl
traits-away kind_of class (Gone kind) = refl

back-traits : {B : Type 0} (kind_of : B → Kind) (class : List ℕ) (worker : B) (retired : Bool)
    → traits_in kind_of class (back_in kind_of worker retired) ≡ record { class = class; kind = kind_of worker; retired = retired }
back-traits kind_of class worker false = refl
back-traits kind_of class worker true = refl

traits-come_back : {B : Type 0} (kind_of : B → Kind) (class : List ℕ) (worker : B) (presence : Presence B) → IsAwayIn (kind_of worker) presence
    → traits_in kind_of class (back_in kind_of worker (retired_in presence)) ≡ traits_in kind_of class presence
traits-come_back kind_of class worker (Idle other) away = absurd away
traits-come_back kind_of class worker (Away kind retired) away =
    back-traits kind_of class worker retired ∙ ap (λ (kind : Kind). record { class = class; kind = kind; retired = retired }) (sym away)
traits-come_back kind_of class worker (Gone kind) away = absurd away

-- a worker that is taken leaves the traits
pub traits-taken : {B : Type 0} (kind_of : B → Kind) (number : ℕ) (places : List (Place B))
    → map (place_traits kind_of) (changed_at (made_away kind_of) number places) ≡ map (place_traits kind_of) places
traits-taken kind_of number [] = refl
traits-taken kind_of zero (place ∷ places) =
    ap (λ (traits : Traits). traits ∷ map (place_traits kind_of) places) (traits-away kind_of place.class place.presence)
traits-taken kind_of (suc number) (place ∷ places) = ap (λ (rest : List Traits). place_traits kind_of place ∷ rest) (traits-taken kind_of number places)

-- a worker that comes back leaves the traits, where one of its kind was away
pub traits-given : {B : Type 0} (kind_of : B → Kind) (worker : B) (number : ℕ) (places : List (Place B)) → IsAwayAt number (kind_of worker) places
    → map (place_traits kind_of) (changed_at (made_back kind_of worker) number places) ≡ map (place_traits kind_of) places
traits-given kind_of worker number [] away = refl
traits-given kind_of worker zero (place ∷ places) away =
    ap (λ (traits : Traits). traits ∷ map (place_traits kind_of) places) (traits-come_back kind_of place.class worker place.presence away)
traits-given kind_of worker (suc number) (place ∷ places) away =
    ap (λ (rest : List Traits). place_traits kind_of place ∷ rest) (traits-given kind_of worker number places away)

pub traits-back : {B : Type 0} (kind_of : B → Kind) (worker : B) (number : ℕ) (places now : List (Place B)) → IsAwayAt number (kind_of worker) places
    → now ≡ changed_at (made_back kind_of worker) number places → map (place_traits kind_of) now ≡ map (place_traits kind_of) places
traits-back kind_of worker number places now away are = ap (map (place_traits kind_of)) are ∙ traits-given kind_of worker number places away

-- an instance that is out or back keeps its traits
pub traits-with_out : (out : Bool) (number : ℕ) (instances : List Instance)
    → map instance_traits (with_out out number instances) ≡ map instance_traits instances
traits-with_out out number [] = refl
traits-with_out out number (instance ∷ instances) =
    made_both (λ changed. instance_traits changed ∷ map instance_traits (with_out out number instances) ≡ instance_traits instance
    ∷ map instance_traits instances) out number instance
    (λ same. ap (λ (rest : List Traits). instance_traits instance ∷ rest) (traits-with_out out number instances))
    (λ other. ap (λ (rest : List Traits). instance_traits instance ∷ rest) (traits-with_out out number instances))

-- ---- who is away

abbrev away_list : {B : Type 0} → List (Place B) → List Bool
away_list places = map (λ place. is_away place.presence) places

abbrev out_list : List Instance → List Bool
out_list instances = map (λ instance. instance.out) instances

-- below the first number nothing changes
out_list-below : (out : Bool) (number first : ℕ) (instances : List Instance) → AreNumberedInOrder first instances → number < first
    → out_list (with_out out number instances) ≡ out_list instances
out_list-below out number first [] in_order below = refl
out_list-below out number first (instance ∷ instances) in_order below =
    made_both (λ changed. changed.out ∷ out_list (with_out out number instances) ≡ instance.out ∷ out_list instances) out number instance
    (λ same. let is : instance.number ≡ first = in_order.0 in absurd (omega arith))
    (λ other. ap (λ rest. instance.out ∷ rest) (out_list-below out number (first + 1) instances in_order.1 (omega arith)))

-- a place and the instance of its number change alike
pub away-changed : {B : Type 0} (change : Place B → Place B) (away : Bool) (number first : ℕ) (places : List (Place B)) (instances : List Instance)
    → ((place : Place B) → slice_get places number ≡ Some place → is_away (change place).presence ≡ away) → AreNumberedInOrder first instances
    → away_list places ≡ out_list instances
    → away_list (changed_at change number places) ≡ out_list (with_out away (first + number) instances)
away-changed change away number first [] [] changes in_order same = refl
away-changed change away number first [] (instance ∷ instances) changes in_order same = absurd cc
away-changed change away number first (place ∷ places) [] changes in_order same = absurd cc
away-changed change away zero first (place ∷ places) (instance ∷ instances) changes in_order same =
    let rest : away_list places ≡ out_list instances = cc in
    let is : instance.number ≡ first = in_order.0 in
    made_both (λ changed. is_away (change place).presence ∷ away_list places ≡ changed.out ∷ out_list (with_out away (first + zero) instances)) away
    (first + zero) instance (λ here. ap (λ bit. bit ∷ away_list places) (changes place refl) ∙ ap (λ bits. away ∷ bits)
    (rest ∙ sym (out_list-below away (first + zero) (first + 1) instances in_order.1 (omega arith)))) (λ other. absurd (other (omega arith)))
away-changed change away (suc number) first (place ∷ places) (instance ∷ instances) changes in_order same =
    let rest : away_list places ≡ out_list instances = cc in
    let head : is_away place.presence ≡ instance.out = cc in
    let is : instance.number ≡ first = in_order.0 in
    let further : first + 1 + number ≡ first + suc number = omega arith in
    let more : away_list (changed_at change number places) ≡ out_list (with_out away (first + suc number) instances) =
    away-changed change away number (first + 1) places instances changes in_order.1 rest ∙ ap (λ n. out_list (with_out away n instances)) further in
    made_both (λ changed. is_away place.presence ∷ away_list (changed_at change number places) ≡ changed.out ∷ out_list
    (with_out away (first + suc number) instances)) away (first + suc number) instance (λ here. absurd (omega arith))
    (λ other. ap (λ bit. bit ∷ away_list (changed_at change number places)) head ∙ ap (λ bits. instance.out ∷ bits) more)

away_by : {B : Type 0} (kind_of : B → Kind) (worker : B) (presence : Presence B) → idle_in presence ≡ Some worker
    → is_away (away_from kind_of presence) ≡ true
away_by kind_of worker (Idle other) idle = refl
away_by kind_of worker (Away kind retired) idle = absurd cc
away_by kind_of worker (Gone kind) idle = absurd cc

-- a worker that was idle and is taken is away
pub away-taken : {B : Type 0} (kind_of : B → Kind) (worker : B) (number : ℕ) (places : List (Place B)) → idle_at number places ≡ Some worker
    → (place : Place B) → slice_get places number ≡ Some place → is_away (made_away kind_of place).presence ≡ true
away-taken kind_of worker number places idle place is = away_by kind_of worker place.presence (sym (ap (option_and_then idle_worker) is) ∙ idle)

here_by : {B : Type 0} (kind_of : B → Kind) (worker : B) (retired : Bool) → is_away (back_in kind_of worker retired) ≡ false
here_by kind_of worker false = refl
here_by kind_of worker true = refl

-- a worker that comes back isn't
pub here-back : {B : Type 0} (kind_of : B → Kind) (worker : B) (place : Place B) → is_away (made_back kind_of worker place).presence ≡ false
here-back kind_of worker place = here_by kind_of worker (retired_in place.presence)

-- nobody is away, and nobody is out
pub all_here : {B : Type 0} (kind_of : B → Kind) (places : List (Place B)) (instances : List Instance)
    → map (place_traits kind_of) places ≡ map instance_traits instances → NoneAway places → AllByRecursion (λ instance. instance.out ≡ false) instances
    → map (λ place. is_away place.presence) places ≡ map (λ instance. instance.out) instances
all_here kind_of [] [] same none all_in = refl
all_here kind_of [] (instance ∷ instances) same none all_in = absurd cc
all_here kind_of (place ∷ places) [] same none all_in = absurd cc
all_here kind_of (place ∷ places) (instance ∷ instances) same none all_in =
    let rest : map (place_traits kind_of) places ≡ map instance_traits instances = cc in
    let here : is_away place.presence ≡ instance.out = none.0 ∙ sym all_in.0 in
    ap (λ bit. bit ∷ map (λ place. is_away place.presence) places) here
    ∙ ap (λ bits. instance.out ∷ bits) (all_here kind_of places instances rest none.1 all_in.1)

-- ---- who is idle

number-from : (first : ℕ) (idle : Instance) (instances : List Instance) → AreNumberedInOrder first instances → HasOne (λ other. other ≡ idle) instances
    → first ≤ idle.number
number-from first idle [] in_order stored = absurd stored
number-from first idle (instance ∷ instances) in_order (inl same) =
    let is : instance.number ≡ idle.number = ap (λ (i : Instance). i.number) same in
    let here : instance.number ≡ first = in_order.0 in omega arith
number-from first idle (instance ∷ instances) in_order (inr later) =
    let further : first + 1 ≤ idle.number = number-from (first + 1) idle instances in_order.1 later in omega arith

idle_in-here : {B : Type 0} (presence : Presence B) → is_away presence ≡ false → retired_in presence ≡ false → idle_in presence ≡ None → ⊥
idle_in-here (Idle worker) here stays none = cc
idle_in-here (Away kind retired) here stays none = cc
idle_in-here (Gone kind) here stays none = cc

-- the worker of an instance that isn't out and isn't retired is at its place
pub idle_at-in : {B : Type 0} (kind_of : B → Kind) (idle : Instance) (number first : ℕ) (places : List (Place B)) (instances : List Instance)
    → AreNumberedInOrder first instances → away_list places ≡ out_list instances → map (place_traits kind_of) places ≡ map instance_traits instances
    → HasOne (λ other. other ≡ idle) instances → idle.out ≡ false → idle.retired ≡ false → idle.number ≡ first + number
    → idle_at number places ≡ None → ⊥
idle_at-in kind_of idle number first places [] in_order same traits stored is_in stays is none = stored
idle_at-in kind_of idle number first [] (instance ∷ instances) in_order same traits stored is_in stays is none = cc
idle_at-in kind_of idle zero first (place ∷ places) (instance ∷ instances) in_order same traits (inl here) is_in stays is none =
    let away : is_away place.presence ≡ instance.out = cc in
    let head : place_traits kind_of place ≡ instance_traits instance = cc in
    idle_in-here place.presence (away ∙ ap (λ (i : Instance). i.out) here ∙ is_in)
    (ap (λ (t : Traits). t.retired) head ∙ ap (λ (i : Instance). i.retired) here ∙ stays) none
idle_at-in kind_of idle zero first (place ∷ places) (instance ∷ instances) in_order same traits (inr later) is_in stays is none =
    let further : first + 1 ≤ idle.number = number-from (first + 1) idle instances in_order.1 later in omega arith
idle_at-in kind_of idle (suc number) first (place ∷ places) (instance ∷ instances) in_order same traits (inl here) is_in stays is none =
    let same_number : instance.number ≡ idle.number = ap (λ (i : Instance). i.number) here in
    let first_is : instance.number ≡ first = in_order.0 in omega arith
idle_at-in kind_of idle (suc number) first (place ∷ places) (instance ∷ instances) in_order same traits (inr later) is_in stays is none =
    let rest : away_list places ≡ out_list instances = cc in
    let others : map (place_traits kind_of) places ≡ map instance_traits instances = cc in
    idle_at-in kind_of idle number (first + 1) places instances in_order.1 rest others later is_in stays (is ∙ omega arith) none

-- a seat that was taken holds the worker that was idle there
pub seat_is : {B : Type 0} (number : ℕ) (idle : Option B) (seat : Seat B) → Some seat ≡ option_map (λ worker. record { number = number; worker = worker }) idle
    → (idle ≡ Some seat.worker) × (seat.number ≡ number)
seat_is number None seat is = absurd cc
seat_is {B} number (Some worker) seat is =
    let made : Seat B = record { number = number; worker = worker } in
    let same : seat ≡ made = cc in
    (ap (λ (s : Seat B). Some s.worker) (sym same), ap (λ (s : Seat B). s.number) same)

pub no_seat : {B : Type 0} (number : ℕ) (idle : Option B)
    → None ≡ option_map (λ worker. let made : Seat B = record { number = number; worker = worker } in made) idle → idle ≡ None
no_seat number None is = refl
no_seat number (Some worker) is = absurd cc

-- ---- what kind a worker is of

kind_at-idle : {B : Type 0} (kind_of : B → Kind) (presence : Presence B) (worker : B) → idle_in presence ≡ Some worker
    → kind_at kind_of presence ≡ kind_of worker
kind_at-idle kind_of (Idle other) worker is = let same : other ≡ worker = cc in ap kind_of same
kind_at-idle kind_of (Away kind retired) worker is = absurd cc
kind_at-idle kind_of (Gone kind) worker is = absurd cc

pub run-from : (first : ℕ) (run : Run) (instances : List Instance) → AreNumberedInOrder first instances → HasOne (IsInstanceOf run) instances → first ≤ run.instance
run-from first run [] in_order one = absurd one
run-from first run (instance ∷ instances) in_order (inl is) =
    let number : instance.number ≡ run.instance = is.number in
    let here : instance.number ≡ first = in_order.0 in omega arith
run-from first run (instance ∷ instances) in_order (inr later) =
    let further : first + 1 ≤ run.instance = run-from (first + 1) run instances in_order.1 later in omega arith

-- the worker at the place of a run's instance is of the kind of the run
pub kind-of_run : {B : Type 0} (kind_of : B → Kind) (worker : B) (run : Run) (number first : ℕ) (places : List (Place B)) (instances : List Instance)
    → AreNumberedInOrder first instances → map (place_traits kind_of) places ≡ map instance_traits instances → HasOne (IsInstanceOf run) instances
    → run.instance ≡ first + number → idle_at number places ≡ Some worker → kind_of worker ≡ run.kind
kind-of_run kind_of worker run number first [] instances in_order same one here is = absurd cc
kind-of_run kind_of worker run number first (place ∷ places) [] in_order same one here is = absurd cc
kind-of_run kind_of worker run zero first (place ∷ places) (instance ∷ instances) in_order same (inl own) here is =
    let head : place_traits kind_of place ≡ instance_traits instance = cc in
    sym (kind_at-idle kind_of place.presence worker is) ∙ ap (λ (traits : Traits). traits.kind) head ∙ own.kind
kind-of_run kind_of worker run zero first (place ∷ places) (instance ∷ instances) in_order same (inr later) here is =
    let further : first + 1 ≤ run.instance = run-from (first + 1) run instances in_order.1 later in absurd (omega arith)
kind-of_run kind_of worker run (suc number) first (place ∷ places) (instance ∷ instances) in_order same (inl own) here is =
    let number_is : instance.number ≡ run.instance = own.number in
    let first_is : instance.number ≡ first = in_order.0 in absurd (omega arith)
kind-of_run kind_of worker run (suc number) first (place ∷ places) (instance ∷ instances) in_order same (inr later) here is =
    let rest : map (place_traits kind_of) places ≡ map instance_traits instances = cc in
    kind-of_run kind_of worker run number (first + 1) places instances in_order.1 rest later (here ∙ omega arith) is
