-- Which work is first, and which instance is idle.
use Rattle.std.proofs.Common.{◌≡◌, ℕ, true, false, not, ◌&&◌, cond, List, [], ◌∷◌, filter, Option, Some, None, bytes_eq, refl, ap, subst}
use Rattle.std.specs.List.{AllByRecursion}
use Rattle.std.specs.Prelude.{nat_le}
use Rattle.std.proofs.lemmas.Bool.{cond_both, and_from, and_parts, not-true}
use Rattle.wm_conditions.specs.Met.{met}
use Rattle.wm_collections.proofs.Lists.{All-filter, All-stored, All-weaker, find-passes, find-stored, list_any-stored}
use Rattle.wm_machine.specs.Due.{due_of}
use Rattle.wm_machine.specs.First.{all_met, comes_before, earlier_of, first_of, has_room, idle_instance, is_idle, is_live, is_startable, is_waiting, least}
use Rattle.wm_machine.specs.Input.{cause_in, input_of}
use Rattle.wm_machine.specs.Runs.{start_refusal}
use Rattle.wm_collections.specs.Lists.{HasOne}
use Rattle.wm_machine.specs.declared.event.Cause.TheVariants.{NoWorker}
use Rattle.wm_machine.specs.Types.{Instance, Record, State}

-- ---- the work that is first

-- of two works one is the first
earlier_from : (P : Record → Type 0) (work : Record) (other : Option Record) → P work → ((found : Record) → other ≡ Some found → P found)
    → P (earlier_of work other)
earlier_from P work None here there = here
earlier_from P work (Some other) here there = cond_both (comes_before other work) other work P (λ e. there other refl) (λ e. here)

-- the work that comes before all others is one of them
least-from : (P : Record → Type 0) (works : List Record) (work : Record) → least works ≡ Some work → AllByRecursion P works → P work
least-from P [] work is all = absurd (cc)
least-from P (first ∷ works) work is all =
    let same : earlier_of first (least works) ≡ work = cc in
    subst P same (earlier_from P first (least works) all.0 (λ found e. least-from P works found e all.1))

-- what holds of each startable work holds of the first
pub first_of-from : (s : State) (work : Record) (P : Record → Type 0) → first_of s ≡ Some work
    → AllByRecursion (λ other. is_startable s other ≡ true → P other) s.works → P work
unfolding first_of
first_of-from s work P is all = least-from P (filter (is_startable s) s.works) work is (All-filter (is_startable s) s.works (λ x e gives. gives e) all)

-- the first work is one of the records
pub first_of-stored : (s : State) (work : Record) → first_of s ≡ Some work → HasOne (λ other. other ≡ work) s.works
first_of-stored s work is =
    first_of-from s work (λ work. HasOne (λ other. other ≡ work) s.works) is (All-weaker s.works (λ work one startable. one) (All-stored s.works))

-- the first work is startable
pub first_of-startable : (s : State) (work : Record) → first_of s ≡ Some work → is_startable s work ≡ true
first_of-startable s work is =
    first_of-from s work (λ work. is_startable s work ≡ true) is (All-weaker s.works (λ work one startable. startable) (All-stored s.works))

-- what makes a work startable
pub record IsStartable (s : State) (work : Record) : Type 0 where
  pub waiting : is_waiting work.phase ≡ true
  pub prerequisites : all_met s.works work ≡ true
  pub due : nat_le (due_of work) s.now ≡ true
  pub constraints : met work.request.constraints s.conditions ≡ true
  pub room : has_room s.instances work.request.class ≡ true

pub IsStartable-from : (s : State) (work : Record) → is_startable s work ≡ true → IsStartable s work
unfolding is_startable
IsStartable-from s work is =
    let first = and_parts _ _ is in
    let second = and_parts _ _ first.1 in
    let third = and_parts _ _ second.1 in
    let fourth = and_parts _ _ third.1 in record {
      waiting = first.0;
      prerequisites = second.0;
      due = third.0;
      constraints = fourth.0;
      room = fourth.1;
    }

-- the first work waits
pub first_of-waiting : (s : State) (work : Record) → first_of s ≡ Some work → is_waiting work.phase ≡ true
first_of-waiting s work is = (IsStartable-from s work (first_of-startable s work is)).waiting

-- the class of the first work has an idle instance, or no worker
pub first_of-room : (s : State) (work : Record) → first_of s ≡ Some work → has_room s.instances work.request.class ≡ true
first_of-room s work is = (IsStartable-from s work (first_of-startable s work is)).room

-- where the class of the first work has no idle instance, it has no worker
pub first_of-no_worker : (s : State) (work : Record) → first_of s ≡ Some work → idle_instance s.instances work.request.class ≡ None
    → is_live s.instances work.request.class ≡ false
first_of-no_worker s work is none = not-true (is_live s.instances work.request.class) (rw none at (first_of-room s work is))

-- work that has no worker can't start for this cause
pub start_refusal-no_worker : (s : State) (work : Record) → is_live s.instances work.request.class ≡ false → start_refusal s work ≡ Some NoWorker
start_refusal-no_worker s work none = ap (λ live. cond live (cause_in (input_of s work)) (Some NoWorker)) none

-- ---- the idle instance

-- the idle instance is one of the instances
pub idle_instance-stored : (instances : List Instance) (class : List ℕ) (idle : Instance) → idle_instance instances class ≡ Some idle
    → HasOne (λ other. other ≡ idle) instances
unfolding idle_instance
idle_instance-stored instances class idle found = find-stored (is_idle class) instances idle found

-- an instance of the class that is neither out nor retired
pub record IsIdle (class : List ℕ) (idle : Instance) : Type 0 where
  pub same_class : bytes_eq idle.class class ≡ true
  pub is_in : idle.out ≡ false
  pub not_retired : idle.retired ≡ false

pub idle_instance-idle : (instances : List Instance) (class : List ℕ) (idle : Instance) → idle_instance instances class ≡ Some idle → IsIdle class idle
unfolding idle_instance
idle_instance-idle instances class idle found =
    let first = and_parts _ _ (find-passes (is_idle class) instances idle found) in
    let second = and_parts _ _ first.1 in record {
      same_class = first.0;
      is_in = not-true idle.out second.0;
      not_retired = not-true idle.retired second.1;
    }

-- a class with an idle instance has a worker
pub idle_instance-live : (instances : List Instance) (class : List ℕ) (idle : Instance) → idle_instance instances class ≡ Some idle
    → is_live instances class ≡ true
unfolding is_live
idle_instance-live instances class idle found =
    let is = idle_instance-idle instances class idle found in
    list_any-stored (λ i. bytes_eq i.class class && not i.retired) instances idle (idle_instance-stored instances class idle found)
    (and_from _ _ is.same_class (ap not is.not_retired))
