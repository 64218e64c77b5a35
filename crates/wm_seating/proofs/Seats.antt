-- The roll and the places beside the runs of a state: who is out, and what an event makes of them by its role.
use Rattle.std.proofs.Common.{◌≡◌, ◌≢◌, ℕ, zero, suc, ◌+◌, ◌<◌, ◌≤◌, Bool, true, false, cond, not, eqb, List, [], ◌∷◌, ◌++◌, map, Option, Some, None, IsSomeAnd, refl, sym, ◌∙◌, ap, subst, inl, inr, arith}
use Rattle.std.proofs.lemmas.Bool.{cases_Bool, eq-eqb, eqb-true, ne_eqb, true≢false}
use Rattle.std.specs.List.{list_any, AllByRecursion}
use Rattle.wm_bench.specs.Places.{changed_at, made_back, IsAwayAt, IsAwayIn, idle_at, made_away}
use Rattle.wm_bench.specs.declared.place.Place.{Place}
use Rattle.wm_bench.specs.declared.place.Presence.{Presence}
use Rattle.wm_bench.specs.declared.place.Presence.TheVariants.{Idle, Away, Gone}
use Rattle.wm_collections.proofs.Lists.{any_passes, list_any-false, list_any-filter, list_any-one, map-same, map-twice, one_gives, All-any, All-filter, All-kept, All-map, All-push, All-weaker, HasOne-front, HasOne-last, HasOne-weaker, find-stored, All-with2}
use Rattle.wm_collections.specs.Lists.{HasOne}
use Rattle.wm_machine.proofs.Runnings.{found_or_apart, found_valid, IsFoundOrApart}
use Rattle.wm_machine.proofs.Turns.{turned_at, turned_both}
use Rattle.wm_machine.specs.Frame.{Frame, instances_after, IsFramed}
use Rattle.wm_machine.specs.Role.{Role}
use Rattle.wm_machine.specs.Runs.{other_runs, run_numbered, with_out}
use Rattle.wm_machine.specs.Valid.{AreNumberedInOrder, IsInstanceOf, Valid}
use Rattle.wm_machine.specs.declared.state.Instance.{Instance}
use Rattle.wm_machine.specs.declared.state.Run.{Run}
use Rattle.wm_machine.specs.declared.state.State.{State}
use Rattle.wm_roll.proofs.Strikings.{listed-without}
use Rattle.wm_roll.specs.Parts.{is_of, without, IsListed}
use Rattle.wm_roll.specs.declared.part.Part.{Part}
use Rattle.wm_runs.proofs.RunLookups.{found-numbered, run_numbered-push}
use Rattle.wm_seating.proofs.PlacesAndInstances.{away-changed, here-back, run-from, traits-back, away-taken, traits-given, traits-taken, traits-with_out, kind-of_run}
use Rattle.wm_seating.proofs.RetiredPlaces.{away-after, workers-after}
use Rattle.wm_seating.specs.Bench.{instance_traits, is_away, is_out_on, kind_at, place_traits, Traits, places_after}
use Rattle.wm_seating.specs.Seats.{ListsExactly}
use Rattle.wm_engine.proofs.Parts.{none-without, part-same, out-framed}
use Rattle.wm_engine.specs.Parts.{part_of, ticket_part, IsItOrApart, WasOut, AreOut, Stands}
use Rattle.wm_engine.specs.Rolls.{given_again}
use Rattle.wm_engine.specs.TableState.{TicketState, ticket_of}
use Rattle.wm_worker.specs.declared.kind.Kind.{Kind}
use Rattle.wm_machine.specs.Role as role

-- ---- who is out

same_truth : (one other : Bool) → (one ≡ true → other ≡ true) → (other ≡ true → one ≡ true) → one ≡ other
same_truth true other there back = sym (there refl)
same_truth false true there back = back refl
same_truth false false there back = refl

-- where the roll lists exactly the runs, the instances of its parts are those that are out
pub out-agrees : (s : State) (roll : List Part) → Valid s → ListsExactly s.runs roll
    → map (is_out_on roll) s.instances ≡ map (λ instance. instance.out) s.instances
out-agrees s roll valid exact =
    map-same (is_out_on roll) (λ (instance : Instance). instance.out) s.instances
    (All-weaker s.instances (λ instance out.
    same_truth (is_out_on roll instance) (list_any (λ (run : Run). eqb run.instance instance.number) s.runs)
    (λ on.
    list_any-one (λ (run : Run). eqb run.instance instance.number) s.runs
    (one_gives roll (λ part one test. HasOne-weaker s.runs (λ run of. ap (λ (p : Part). eqb p.instance instance.number) of ∙ test) one) exact.of_runs
    (any_passes (λ (part : Part). eqb part.instance instance.number) roll on)))
    (λ on.
    list_any-one (λ (part : Part). eqb part.instance instance.number) roll
    (one_gives s.runs (λ run listed test. HasOne-weaker roll (λ part of. ap (λ (p : Part). eqb p.instance instance.number) of ∙ test) listed) exact.each
    (any_passes (λ (run : Run). eqb run.instance instance.number) s.runs on)))
    ∙ sym out) valid.instances.out)

-- ---- a run goes on

pub part-turned_at : (number : ℕ) (run : Run) → part_of (turned_at number run) ≡ part_of run
part-turned_at number run = turned_both (λ (r : Run). part_of r ≡ part_of run) number run (λ e. refl) (λ e. refl)

-- the part of a run is still listed once that of another, or its own, was given again
pub listed_again : (number : ℕ) (roll : List Part) (part : Part) (its run : Run) → part.run ≡ number → part_of its ≡ part → IsFoundOrApart number its run
    → IsListed roll (part_of run) → IsListed (given_again part roll) (part_of run)
listed_again number roll part its run number_is part_is (inl same) listed =
    HasOne-last (λ one. one ≡ part_of run) (without part.run roll) part (sym part_is ∙ ap part_of (sym same.1))
listed_again number roll part its run number_is part_is (inr other) listed =
    HasOne-front (λ one. one ≡ part_of run) (without part.run roll) (part ∷ [])
    (listed-without part.run roll (part_of run) (λ e. true≢false (sym (eq-eqb run.run number (e ∙ number_is)) ∙ other.0)) listed)

-- ---- a worker comes back

-- who is out once a part is off the roll
out_without : (ticket : TicketState) (roll : List Part) (instance : Instance) → AllByRecursion (IsItOrApart (ticket_part ticket)) roll
    → cond (eqb instance.number ticket.instance) false (is_out_on roll instance) ≡ is_out_on (without ticket.task.run roll) instance
out_without ticket roll instance alone = elim (cases_Bool (eqb instance.number ticket.instance)) [
  | inl hit ↦
      let its : instance.number ≡ ticket.instance = eqb-true instance.number ticket.instance hit in
      rw hit (sym (list_any-false (λ (part : Part). eqb part.instance instance.number) (without ticket.task.run roll)
      (All-filter (λ part. not (is_of ticket.task.run part)) roll
      (λ part stays is. elim is [
        | inl it ↦ absurd (true≢false (sym stays ∙ ap not (eq-eqb part.run ticket.task.run (ap (λ (p : Part). p.run) it))))
        | inr other ↦ ne_eqb part.instance instance.number (λ e. other.1 (e ∙ its))
      ]) alone)))
  | inr miss ↦
      rw miss (sym (list_any-filter (λ (part : Part). eqb part.instance instance.number) (λ part. not (is_of ticket.task.run part)) roll
      (All-weaker roll (λ part is drops. elim is [
        | inl it ↦
            ne_eqb part.instance instance.number (λ e.
            true≢false (sym (eq-eqb instance.number ticket.instance (sym e ∙ ap (λ (p : Part). p.instance) it)) ∙ miss))
        | inr other ↦ absurd (true≢false (sym (ap not (ne_eqb part.run ticket.task.run other.0)) ∙ drops))
      ]) alone)))
]

-- an instance that is out where its part is on the roll
abbrev on_roll : List Part → Instance → Instance
on_roll roll instance = record instance { out = is_out_on roll instance }

numbered-on_roll : (roll : List Part) (first : ℕ) (instances : List Instance) → AreNumberedInOrder first instances
    → AreNumberedInOrder first (map (on_roll roll) instances)
numbered-on_roll roll first [] in_order = tt
numbered-on_roll roll first (instance ∷ instances) in_order = (in_order.0, numbered-on_roll roll (first + 1) instances in_order.1)

-- the outs of such instances, with those of one number back
outs_back : (number : ℕ) (roll : List Part) (instances : List Instance)
    → map (λ (instance : Instance). instance.out) (with_out false number (map (on_roll roll) instances))
    ≡ map (λ instance. cond (eqb instance.number number) false (is_out_on roll instance)) instances
outs_back number roll [] = refl
outs_back number roll (instance ∷ instances) = elim (cases_Bool (eqb instance.number number)) [
  | inl hit ↦ rw hit (ap (λ (rest : List Bool). false ∷ rest) (outs_back number roll instances))
  | inr miss ↦ rw miss (ap (λ (rest : List Bool). is_out_on roll instance ∷ rest) (outs_back number roll instances))
]

-- the workers that are away are those of the parts on the roll, also once a part is off it and its worker back
pub away-given_back : {B : Type 0} (kind_of : B → Kind) (worker : B) (number : ℕ) (places : List (Place B)) (instances : List Instance) (roll : List Part)
    (ticket : TicketState)
    → AreNumberedInOrder 0 instances → AllByRecursion (IsItOrApart (ticket_part ticket)) roll → number ≡ ticket.instance
    → map (λ place. is_away place.presence) places ≡ map (is_out_on roll) instances
    → map (λ place. is_away place.presence) (changed_at (made_back kind_of worker) number places) ≡ map (is_out_on (without ticket.task.run roll)) instances
away-given_back kind_of worker number places instances roll ticket numbered alone same away =
    let from_zero : 0 + number ≡ ticket.instance = omega arith ∙ same in
    away-changed (made_back kind_of worker) false number 0 places (map (on_roll roll) instances) (λ place is. here-back kind_of worker place)
    (numbered-on_roll roll 0 instances numbered) (away ∙ sym (map-twice (on_roll roll) (λ (instance : Instance). instance.out) instances))
    ∙ ap (λ n. map (λ (instance : Instance). instance.out) (with_out false n (map (on_roll roll) instances))) from_zero
    ∙ outs_back ticket.instance roll instances
    ∙ map-same (λ instance. cond (eqb instance.number ticket.instance) false (is_out_on roll instance)) (is_out_on (without ticket.task.run roll)) instances
    (All-any instances (λ instance. out_without ticket roll instance alone))

-- ---- the worker of a part is away

away_of_kind : {B : Type 0} (kind_of : B → Kind) (presence : Presence B) (kind : Kind) → is_away presence ≡ true → kind_at kind_of presence ≡ kind
    → IsAwayIn kind presence
away_of_kind kind_of (Idle worker) kind away is = absurd (true≢false (sym away))
away_of_kind kind_of (Away its retired) kind away is = is
away_of_kind kind_of (Gone its) kind away is = absurd (true≢false (sym away))

away-of_run : {B : Type 0} (kind_of : B → Kind) (run : Run) (roll : List Part) (number first : ℕ) (places : List (Place B)) (instances : List Instance)
    → AreNumberedInOrder first instances → map (place_traits kind_of) places ≡ map instance_traits instances
    → map (λ place. is_away place.presence) places ≡ map (is_out_on roll) instances → HasOne (IsInstanceOf run) instances → run.instance ≡ first + number
    → HasOne (λ part. part.instance ≡ run.instance) roll → IsAwayAt number run.kind places
away-of_run kind_of run roll number first [] [] in_order same away one here listed = absurd one
away-of_run kind_of run roll number first [] (instance ∷ instances) in_order same away one here listed = absurd cc
away-of_run kind_of run roll number first (place ∷ places) [] in_order same away one here listed = absurd one
away-of_run kind_of run roll zero first (place ∷ places) (instance ∷ instances) in_order same away (inl own) here listed =
    let head : place_traits kind_of place ≡ instance_traits instance = cc in
    let here_away : is_away place.presence ≡ is_out_on roll instance = cc in
    let on : is_out_on roll instance ≡ true =
    list_any-one (λ (part : Part). eqb part.instance instance.number) roll
    (HasOne-weaker roll (λ part is. eq-eqb part.instance instance.number (is ∙ sym own.number)) listed) in
    away_of_kind kind_of place.presence run.kind (here_away ∙ on) (ap (λ (traits : Traits). traits.kind) head ∙ own.kind)
away-of_run kind_of run roll zero first (place ∷ places) (instance ∷ instances) in_order same away (inr later) here listed =
    let further : first + 1 ≤ run.instance = run-from (first + 1) run instances in_order.1 later in absurd (omega arith)
away-of_run kind_of run roll (suc number) first (place ∷ places) (instance ∷ instances) in_order same away (inl own) here listed =
    let number_is : instance.number ≡ run.instance = own.number in
    let first_is : instance.number ≡ first = in_order.0 in absurd (omega arith)
away-of_run kind_of run roll (suc number) first (place ∷ places) (instance ∷ instances) in_order same away (inr later) here listed =
    let rest : map (place_traits kind_of) places ≡ map instance_traits instances = cc in
    let others : map (λ place. is_away place.presence) places ≡ map (is_out_on roll) instances = cc in
    away-of_run kind_of run roll number (first + 1) places instances in_order.1 rest others later (here ∙ omega arith) listed

away_by : {B : Type 0} (kind_of : B → Kind) (s : State) (roll : List Part) (ticket : TicketState) (found : Option Run) (number : ℕ) (places : List (Place B))
    → Valid s → map (place_traits kind_of) places ≡ map instance_traits s.instances
    → map (λ place. is_away place.presence) places ≡ map (is_out_on roll) s.instances → IsListed roll (ticket_part ticket)
    → run_numbered ticket.task.run s.runs ≡ found
    → IsSomeAnd found (λ run. (run.instance ≡ ticket.instance) × (run.kind ≡ ticket.kind)) → number ≡ ticket.instance
    → IsAwayAt number ticket.kind places
away_by kind_of s roll ticket None number places valid traits away listed is stands same = absurd stands
away_by kind_of s roll ticket (Some run) number places valid traits away listed is stands same =
    subst (λ kind. IsAwayAt number kind places) stands.1
    (away-of_run kind_of run roll number 0 places s.instances valid.instances.numbered traits away (found_valid s ticket.task.run run valid is).instance
    (stands.0 ∙ sym same ∙ omega arith) (HasOne-weaker roll (λ part of. ap (λ (p : Part). p.instance) of ∙ sym stands.0) listed))

-- the worker of a ticket that was out is away
pub away-out : {B : Type 0} (kind_of : B → Kind) (s : State) (roll : List Part) (ticket : TicketState) (number : ℕ) (worker : B) (places : List (Place B))
    → Valid s → map (place_traits kind_of) places ≡ map instance_traits s.instances
    → map (λ place. is_away place.presence) places ≡ map (is_out_on roll) s.instances → number ≡ ticket.instance → kind_of worker ≡ ticket.kind
    → WasOut s roll ticket → IsAwayAt number (kind_of worker) places
away-out kind_of s roll ticket number worker places valid traits away same kind out =
    subst (λ kind. IsAwayAt number kind places) (sym kind)
    (away_by kind_of s roll ticket (run_numbered ticket.task.run s.runs) number places valid traits away out.listed refl out.stands same)

-- nobody is away where nothing is on the roll
none_on : {B : Type 0} (places : List (Place B)) (instances : List Instance) → map (λ place. is_away place.presence) places ≡ map (is_out_on []) instances
    → AllByRecursion (λ place. is_away place.presence ≡ false) places
none_on [] instances same = tt
none_on (place ∷ places) [] same = absurd cc
none_on (place ∷ places) (instance ∷ instances) same =
    let here : is_away place.presence ≡ false = cc in
    let rest : map (λ place. is_away place.presence) places ≡ map (is_out_on []) instances = cc in
    (here, none_on places instances rest)

pub none_away : {B : Type 0} (places : List (Place B)) (instances : List Instance) (roll : List Part) → roll ≡ []
    → map (λ place. is_away place.presence) places ≡ map (is_out_on roll) instances → AllByRecursion (λ place. is_away place.presence ≡ false) places
none_away places instances roll none same =
    none_on places instances (subst (λ (roll : List Part). map (λ place. is_away place.presence) places ≡ map (is_out_on roll) instances) none same)

-- ---- what doesn't change

-- a part that is new is off the roll as if it hadn't been given
pub without-new : (number : ℕ) (roll : List Part) (part : Part) → part.run ≡ number → AllByRecursion (λ one. one.run ≢ number) roll
    → without number (roll ++ part ∷ []) ≡ roll
without-new number [] part its new = let hit = eq-eqb part.run number its in rw hit refl
without-new number (first ∷ roll) part its new =
    let miss = ne_eqb first.run number new.0 in rw miss (ap (λ (rest : List Part). first ∷ rest) (without-new number roll part its new.1))

-- a part that was given again is off the roll as if it hadn't been
pub taken_again : (ticket : TicketState) (roll : List Part)
    → without ticket.task.run (given_again (ticket_part ticket) roll) ≡ without ticket.task.run roll
taken_again ticket roll =
    without-new ticket.task.run (without ticket.task.run roll) (ticket_part ticket) refl (none-without ticket.task.run roll)

-- ---- a worker that comes back where its ticket was out

-- the workers are those of the instances, and those that are away are those of the parts that are left on the roll
pub given_back : {B : Type 0} (kind_of : B → Kind) (s : State) (roll : List Part) (ticket : TicketState) (number : ℕ) (worker : B)
    (places now : List (Place B))
    → Valid s → map (place_traits kind_of) places ≡ map instance_traits s.instances
    → map (λ place. is_away place.presence) places ≡ map (is_out_on roll) s.instances → number ≡ ticket.instance → kind_of worker ≡ ticket.kind
    → WasOut s roll ticket → now ≡ changed_at (made_back kind_of worker) number places
    → (map (place_traits kind_of) now ≡ map (place_traits kind_of) places)
    × (map (λ place. is_away place.presence) now ≡ map (is_out_on (without ticket.task.run roll)) s.instances)
given_back kind_of s roll ticket number worker places now valid traits away same kind out are = (
  traits-back kind_of worker number places now (away-out kind_of s roll ticket number worker places valid traits away same kind out) are,
  ap (map (λ place. is_away place.presence)) are
      ∙ away-given_back kind_of worker number places s.instances roll ticket valid.instances.numbered out.alone same away,
)

-- the worker of the run of this number is back at its place
abbrev pub IsBackOf : {B : Type 0} → (B → Kind) → ℕ → State → List (Place B) → List (Place B) → Type 0
IsBackOf {B} kind_of number s places now =
    IsSomeAnd (run_numbered number s.runs)
    (λ run. (worker : B) × IsAwayAt run.instance (kind_of worker) places × (now ≡ changed_at (made_back kind_of worker) run.instance places))

-- the places after an event of this role: a class that a line retires is retired, the worker of a run that begins is taken, and that of one that is
-- over is back
abbrev pub ArePlacedBy : {B : Type 0} → (B → Kind) → Role → State → List (Place B) → List (Place B) → Type 0
ArePlacedBy kind_of (role.Line asked) s places now = now ≡ places_after kind_of asked places
ArePlacedBy {B} kind_of (role.Begins number instance) s places now =
    (worker : B) × (idle_at instance places ≡ Some worker) × (now ≡ changed_at (made_away kind_of) instance places)
ArePlacedBy kind_of role.Refuses s places now = now ≡ places
ArePlacedBy kind_of (role.GoesOn number gave) s places now = now ≡ places
ArePlacedBy kind_of (role.Ends number reported) s places now = IsBackOf kind_of number s places now
ArePlacedBy kind_of (role.Returns number) s places now = IsBackOf kind_of number s places now

-- the roll after it, which has this frame: the part of a run that begins stands at its end, that of one that goes on was given again, and that of one
-- that is over is off
abbrev pub IsRolledBy : Role → State → Frame → List Part → List Part → Type 0
IsRolledBy (role.Line asked) s f roll now = now ≡ roll
IsRolledBy (role.Begins number instance) s f roll now = IsSomeAnd (run_numbered number f.runs) (λ run. now ≡ roll ++ part_of run ∷ [])
IsRolledBy role.Refuses s f roll now = now ≡ roll
IsRolledBy (role.GoesOn number gave) s f roll now = IsSomeAnd (run_numbered number s.runs) (λ run. now ≡ given_again (part_of run) roll)
IsRolledBy (role.Ends number reported) s f roll now = now ≡ without number roll
IsRolledBy (role.Returns number) s f roll now = now ≡ without number roll

-- ---- the roll lists exactly the runs

-- a part was given again
pub exact-again : (number : ℕ) (run : Run) (s : State) (roll : List Part) → Valid s → run_numbered number s.runs ≡ Some run → ListsExactly s.runs roll
    → ListsExactly s.runs (given_again (part_of run) roll)
exact-again number run s roll valid is exact =
    let part = part_of run in
    record {
      of_runs = All-push (λ part. HasOne (λ run. part_of run ≡ part) s.runs) (without part.run roll) part
          (All-kept (λ part. HasOne (λ run. part_of run ≡ part) s.runs) (λ other. not (is_of part.run other)) roll exact.of_runs)
          (HasOne-weaker s.runs (λ one same. ap part_of same) (find-stored (λ (r : Run). eqb r.run number) s.runs run is));
      each = All-with2 s.runs (λ one found listed. listed_again number roll part run one (found-numbered number s.runs run is) refl found listed)
          (found_or_apart number run s.runs is valid.runs.apart) exact.each;
    }

-- the run of a part is away
exact-gone : (number : ℕ) (run : Run) (s : State) (runs : List Run) (roll : List Part) → run_numbered number s.runs ≡ Some run
    → runs ≡ other_runs run.run s.runs → AreOut runs (without number roll) → ListsExactly s.runs roll → ListsExactly runs (without number roll)
exact-gone number run s runs roll is others out exact =
    let its = found-numbered number s.runs run is in
    record {
      of_runs = out;
      each = rw others
          (All-filter (λ other. not (eqb other.run run.run)) s.runs
          (λ other stays listed.
          listed-without number roll (part_of other) (λ e. true≢false (sym stays ∙ ap not (eq-eqb other.run run.run (e ∙ sym its)))) listed) exact.each);
    }

out-off : (number : ℕ) (s : State) (roll : List Part) → ListsExactly s.runs roll → AreOut s.runs (without number roll)
out-off number s roll exact = All-kept (λ part. HasOne (λ run. part_of run ≡ part) s.runs) (λ part. not (is_of number part)) roll exact.of_runs

pub exact-by : (r : Role) (s : State) (f : Frame) (roll now : List Part) → Valid s → IsFramed r s f → IsRolledBy r s f roll now → ListsExactly s.runs roll
    → ListsExactly f.runs now
exact-by (role.Line asked) s f roll now valid is rolled exact =
    subst (λ (roll : List Part). ListsExactly f.runs roll) (sym rolled) (record {
      of_runs = out-framed (role.Line asked) s f roll is tt exact.of_runs;
      each = rw (ap (λ (f : Frame). f.runs) is.frame_is)
          (All-map (λ run. IsListed roll (part_of run)) is.change s.runs
          (λ run listed. subst (IsListed roll) (sym (part-same run (is.change run) (is.keeps run))) listed) exact.each);
    })
exact-by (role.Begins number instance) s f roll now valid is rolled exact =
    let runs : f.runs ≡ s.runs ++ is.run ∷ [] = ap (λ (f : Frame). f.runs) is.frame_is in
    let part = part_of is.run in
    let next : number ≡ s.next_run = is.is_next in
    let below : AllByRecursion (λ other. other.run < number) s.runs =
    All-weaker s.runs (λ other its. let less = its.number in omega (arith, less, next)) valid.runs.each in
    let found : run_numbered number f.runs ≡ Some is.run =
    ap (run_numbered number) runs ∙ run_numbered-push number s.runs is.run below (sym is.number_is) in
    let its : now ≡ roll ++ part ∷ [] = subst (λ (o : Option Run). IsSomeAnd o (λ run. now ≡ roll ++ part_of run ∷ [])) found rolled in
    subst (λ (roll : List Part). ListsExactly f.runs roll) (sym its) (record {
      of_runs = All-push (λ part. HasOne (λ run. part_of run ≡ part) f.runs) roll part
          (out-framed (role.Begins number instance) s f roll is tt exact.of_runs)
          (rw runs (HasOne-last (λ run. part_of run ≡ part) s.runs is.run refl));
      each = rw runs
          (All-push (λ run. IsListed (roll ++ part ∷ []) (part_of run)) s.runs is.run
          (All-weaker s.runs (λ run listed. HasOne-front (λ one. one ≡ part_of run) roll (part ∷ []) listed) exact.each)
          (HasOne-last (λ one. one ≡ part) roll part refl));
    })
exact-by role.Refuses s f roll now valid is rolled exact =
    subst (λ (roll : List Part). ListsExactly f.runs roll) (sym rolled) (subst (λ (runs : List Run). ListsExactly runs roll) (sym (ap (λ (f : Frame). f.runs) is)) exact)
exact-by (role.GoesOn number gave) s f roll now valid is rolled exact =
    let part = part_of is.run in
    let again = exact-again number is.run s roll valid is.is_running exact in
    let its : now ≡ given_again part roll =
    subst (λ (o : Option Run). IsSomeAnd o (λ run. now ≡ given_again (part_of run) roll)) is.is_running rolled in
    subst (λ (roll : List Part). ListsExactly f.runs roll) (sym its) (record {
      of_runs = out-framed (role.GoesOn number gave) s f (given_again part roll) is tt again.of_runs;
      each = rw (ap (λ (f : Frame). f.runs) is.frame_is)
          (All-map (λ run. IsListed (given_again part roll) (part_of run)) (turned_at is.run.run) s.runs
          (λ run listed. subst (IsListed (given_again part roll)) (sym (part-turned_at is.run.run run)) listed) again.each);
    })
exact-by (role.Ends number reported) s f roll now valid is rolled exact =
    subst (λ (roll : List Part). ListsExactly f.runs roll) (sym rolled)
    (exact-gone number is.run s f.runs roll is.is_running (ap (λ (f : Frame). f.runs) is.frame_is)
    (out-framed (role.Ends number reported) s f (without number roll) is (none-without number roll) (out-off number s roll exact)) exact)
exact-by (role.Returns number) s f roll now valid is rolled exact =
    subst (λ (roll : List Part). ListsExactly f.runs roll) (sym rolled)
    (exact-gone number is.run s f.runs roll is.is_running (ap (λ (f : Frame). f.runs) is.frame_is)
    (out-framed (role.Returns number) s f (without number roll) is (none-without number roll) (out-off number s roll exact)) exact)

-- ---- the workers are those of the instances

-- of their class and kind, and away where they are out
pub record AreSeated {B : Type 0} (kind_of : B → Kind) (instances : List Instance) (places : List (Place B)) : Type 0 where
  pub workers : map (place_traits kind_of) places ≡ map instance_traits instances
  pub away : map (λ place. is_away place.presence) places ≡ map (λ instance. instance.out) instances

module _ {B : Type 0} (kind_of : B → Kind) (s : State) (f : Frame) (places now : List (Place B)) (numbered : AreNumberedInOrder 0 s.instances)
    (seated : AreSeated kind_of s.instances places) where
  seated-back : (number : ℕ) (run : Run) → run_numbered number s.runs ≡ Some run → f.instances ≡ with_out false run.instance s.instances
      → IsBackOf kind_of number s places now → AreSeated kind_of f.instances now
  seated-back number run found instances back =
      let from_zero : 0 + run.instance ≡ run.instance = omega arith in
      let its =
      subst (λ (o : Option Run). IsSomeAnd o (λ run. (worker : B) × IsAwayAt run.instance (kind_of worker) places
      × (now ≡ changed_at (made_back kind_of worker) run.instance places))) found back in
      record {
        workers = ap (map (place_traits kind_of)) its.2
            ∙ traits-given kind_of its.0 run.instance places its.1
            ∙ seated.workers
            ∙ sym (traits-with_out false run.instance s.instances)
            ∙ ap (map instance_traits) (sym instances);
        away = ap (map (λ place. is_away place.presence)) its.2
            ∙ away-changed (made_back kind_of its.0) false run.instance 0 places s.instances (λ place is. here-back kind_of its.0 place) numbered seated.away
            ∙ ap (λ n. map (λ instance. instance.out) (with_out false n s.instances)) from_zero
            ∙ ap (map (λ instance. instance.out)) (sym instances);
      }

  pub seated-by : (r : Role) → IsFramed r s f → ArePlacedBy kind_of r s places now → AreSeated kind_of f.instances now
  seated-by (role.Line asked) is placed =
      let instances : f.instances ≡ instances_after asked s.instances = ap (λ (f : Frame). f.instances) is.frame_is in
      record {
        workers = rw (placed, instances) (workers-after kind_of asked places s.instances seated.workers);
        away = rw (placed, instances) (away-after kind_of asked places s.instances seated.away);
      }
  seated-by (role.Begins number instance) is placed =
      let instances : f.instances ≡ with_out true instance s.instances = ap (λ (f : Frame). f.instances) is.frame_is in
      let from_zero : 0 + instance ≡ instance = omega arith in
      record {
        workers = ap (map (place_traits kind_of)) placed.2
            ∙ traits-taken kind_of instance places
            ∙ seated.workers
            ∙ sym (traits-with_out true instance s.instances)
            ∙ ap (map instance_traits) (sym instances);
        away = ap (map (λ place. is_away place.presence)) placed.2
            ∙ away-changed (made_away kind_of) true instance 0 places s.instances (away-taken kind_of placed.0 instance places placed.1) numbered seated.away
            ∙ ap (λ n. map (λ instance. instance.out) (with_out true n s.instances)) from_zero
            ∙ ap (map (λ instance. instance.out)) (sym instances);
      }
  seated-by role.Refuses is placed =
      let instances : f.instances ≡ s.instances = ap (λ (f : Frame). f.instances) is in
      record { workers = rw (placed, instances) seated.workers; away = rw (placed, instances) seated.away }
  seated-by (role.GoesOn number gave) is placed =
      let instances : f.instances ≡ s.instances = ap (λ (f : Frame). f.instances) is.frame_is in
      record { workers = rw (placed, instances) seated.workers; away = rw (placed, instances) seated.away }
  seated-by (role.Ends number reported) is placed =
      seated-back number is.run is.is_running (ap (λ (f : Frame). f.instances) is.frame_is) placed
  seated-by (role.Returns number) is placed = seated-back number is.run is.is_running (ap (λ (f : Frame). f.instances) is.frame_is) placed

-- ---- a run that is over

-- an event of this role is the end of the run of this number
abbrev pub IsEndOf : ℕ → Role → Type 0
IsEndOf number (role.Ends run reported) = run ≡ number
IsEndOf number (role.Returns run) = run ≡ number
IsEndOf number _ = ⊥

-- its worker is back, and its part off the roll
pub placed-end : {B : Type 0} (kind_of : B → Kind) (number : ℕ) (r : Role) (s : State) (places now : List (Place B)) → IsEndOf number r
    → IsBackOf kind_of number s places now → ArePlacedBy kind_of r s places now
placed-end kind_of number (role.Ends run reported) s places now ends back = subst (λ n. IsBackOf kind_of n s places now) (sym ends) back
placed-end kind_of number (role.Returns run) s places now ends back = subst (λ n. IsBackOf kind_of n s places now) (sym ends) back
placed-end kind_of number _ s places now ends back = absurd ends

pub rolled-end : (number : ℕ) (r : Role) (s : State) (f : Frame) (roll now : List Part) → IsEndOf number r → now ≡ without number roll → IsRolledBy r s f roll now
rolled-end number (role.Ends run reported) s f roll now ends off = off ∙ ap (λ n. without n roll) (sym ends)
rolled-end number (role.Returns run) s f roll now ends off = off ∙ ap (λ n. without n roll) (sym ends)
rolled-end number _ s f roll now ends off = absurd ends

-- ---- a ticket

-- the worker at the place of a ticket's instance is of the ticket's kind
pub ticket_kind : {B : Type 0} (kind_of : B → Kind) (worker : B) (s : State) (ticket : TicketState) (found : Option Run) (places : List (Place B)) → Valid s
    → map (place_traits kind_of) places ≡ map instance_traits s.instances → run_numbered ticket.task.run s.runs ≡ found
    → IsSomeAnd found (λ run. ticket ≡ ticket_of run) → idle_at ticket.instance places ≡ Some worker → kind_of worker ≡ ticket.kind
ticket_kind kind_of worker s ticket None places valid same is stands idle = absurd stands
ticket_kind kind_of worker s ticket (Some run) places valid same is stands idle =
    let here : run.instance ≡ 0 + ticket.instance = ap (λ (t : TicketState). t.instance) (sym stands) ∙ omega arith in
    kind-of_run kind_of worker run ticket.instance 0 places s.instances valid.instances.numbered same
    (found_valid s ticket.task.run run valid is).instance here idle
    ∙ ap (λ (t : TicketState). t.kind) (sym stands)

-- the part of a run that stands is its ticket's
pub part_standing : (s : State) (ticket : TicketState) (run : Run) → run_numbered ticket.task.run s.runs ≡ Some run → Stands s ticket
    → part_of run ≡ ticket_part ticket
part_standing s ticket run found stands =
    let number = found-numbered ticket.task.run s.runs run found in
    let stood = subst (λ (o : Option Run). IsSomeAnd o (λ run. (run.instance ≡ ticket.instance) × (run.kind ≡ ticket.kind))) found stands in
    λ i. record { run = number i; instance = stood.0 i; kind = stood.1 i }

exact_by : (s : State) (roll : List Part) (ticket : TicketState) (found : Option Run) → Valid s → run_numbered ticket.task.run s.runs ≡ found
    → IsSomeAnd found (λ run. (run.instance ≡ ticket.instance) × (run.kind ≡ ticket.kind)) → Stands s ticket → ListsExactly s.runs roll
    → ListsExactly s.runs (given_again (ticket_part ticket) roll)
exact_by s roll ticket None valid is some stands exact = absurd some
exact_by s roll ticket (Some run) valid is some stands exact =
    subst (λ (part : Part). ListsExactly s.runs (given_again part roll)) (part_standing s ticket run is stands)
    (exact-again ticket.task.run run s roll valid is exact)

-- the roll lists exactly the runs once a ticket's part was given again
pub exact-given_again : (s : State) (roll : List Part) (ticket : TicketState) → Valid s → Stands s ticket → ListsExactly s.runs roll
    → ListsExactly s.runs (given_again (ticket_part ticket) roll)
exact-given_again s roll ticket valid stands exact =
    exact_by s roll ticket (run_numbered ticket.task.run s.runs) valid refl stands stands exact
