-- A state in which nothing is startable wakes when a work is due.
use Rattle.std.proofs.Common.{◌≡◌, ℕ, ◌==◌, ◌<◌, ◌≤◌, ◌&&◌, ◌||◌, Bool, true, false, not, List, [], ◌∷◌, filter, find, refl, sym, ap, subst, ◌∙◌, arith, Option, Some, None, inl, inr, is_some, nat_lt, nat_le, IfSome, IsSome}
use Rattle.std.proofs.lemmas.Bool.{cases_Bool, false≢true}
use Rattle.std.proofs.lemmas.Bool.Decides.{nat_tests}
use Rattle.std.specs.List.{list_any, AllByRecursion}
use Rattle.std.specs.Str.{bytes_eq}
use Rattle.wm_collections.specs.Lists.{HasOne}
use Rattle.wm_collections.proofs.Lists.{All-with2, All-weaker, filter-none, find-none, list_any-false, one_gives}
use Rattle.wm_conditions.specs.Met.{met}
use Rattle.wm_machine.specs.Due.{due_of}
use Rattle.wm_machine.specs.First.{all_met, first_of, has_room, idle_instance, is_idle, is_live, is_startable, is_waiting, least}
use Rattle.wm_machine.specs.Valid.{IsOutForRun, Valid}
use Rattle.wm_machine.specs.declared.record.Record.{Record}
use Rattle.wm_machine.specs.declared.state.Instance.{Instance}
use Rattle.wm_machine.specs.declared.state.State.{State}
use Rattle.wm_steps.proofs.Firsts.{none-startable}
use Rattle.wm_steps.specs.Wakes.{at_moment, waits_for_its_moment, IsLeastDue, IsWakeOf, WakesAt}

-- ---- rooms

-- where no instance is out, no class has to wait for one
room-found : (instances : List Instance) (class : List ℕ) (found : Option Instance) → idle_instance instances class ≡ found
    → AllByRecursion (λ instance. instance.out ≡ false) instances → (is_some found || not (is_live instances class)) ≡ true
unfolding idle_instance is_live
room-found instances class (Some idle) is none_out = refl
room-found instances class None is none_out =
    let dead : is_live instances class ≡ false =
    list_any-false (λ instance. bytes_eq instance.class class && not instance.retired) instances
    (All-with2 instances (λ instance not_idle is_in. rw is_in at not_idle) (find-none (is_idle class) instances is) none_out) in
    rw dead refl

-- no run, so no instance is out
pub rooms-quiet : (s : State) → Valid s → s.runs ≡ [] → (class : List ℕ) → has_room s.instances class ≡ true
rooms-quiet s valid none class =
    room-found s.instances class (idle_instance s.instances class) refl
    (All-weaker s.instances (λ instance out. out ∙ ap (λ runs. list_any (λ run. run.instance == instance.number) runs) none) valid.instances.out)

-- ---- a work at two moments

waits-by : (waiting all constraints room : Bool) (due now moment : ℕ) → (waiting && (all && (nat_le due now && (constraints && room)))) ≡ false
    → (waiting && (all && (nat_le due moment && (constraints && room)))) ≡ true → ((waiting && all) && (nat_lt now due && (constraints && room))) ≡ true
waits-by waiting all constraints room due now moment not_yet then = grind (arith, nat_tests)

due-by : (waiting all constraints room : Bool) (due moment : ℕ) → (waiting && (all && (nat_le due moment && (constraints && room)))) ≡ true → due ≤ moment
due-by waiting all constraints room due moment then = grind (arith, nat_tests)

starts-at : (waiting all constraints room : Bool) (due now moment : ℕ) → due ≡ moment
    → ((waiting && all) && (nat_lt now due && (constraints && room))) ≡ true → (waiting && (all && (nat_le due moment && (constraints && room)))) ≡ true
starts-at waiting all constraints room due now moment same waits = grind (arith, nat_tests)

module _ (s : State) (nothing : first_of s ≡ None) where
  -- what is startable at a moment, and isn't yet, waits for its moment, which has come
  startable-later : (moment : ℕ) (work : Record) → is_startable s work ≡ false → is_startable (at_moment s moment) work ≡ true
      → (waits_for_its_moment s work ≡ true) × (due_of work ≤ moment)
  unfolding is_startable
  startable-later moment work not_yet then =
      let waiting = is_waiting work.phase in
      let all = all_met s.works work in
      let constraints = met work.request.constraints s.conditions in
      let room = has_room s.instances work.request.class in (
        waits-by waiting all constraints room (due_of work) s.now moment not_yet then,
        due-by waiting all constraints room (due_of work) moment then,
      )

  startable-then : (moment : ℕ) (work : Record) → waits_for_its_moment s work ≡ true → due_of work ≡ moment → is_startable (at_moment s moment) work ≡ true
  unfolding is_startable
  startable-then moment work waits due =
      starts-at (is_waiting work.phase) (all_met s.works work) (met work.request.constraints s.conditions) (has_room s.instances work.request.class)
      (due_of work) s.now moment due waits

  asleep-by : (moment : ℕ) → AllByRecursion (λ work. waits_for_its_moment s work ≡ true → moment < due_of work) s.works
      → first_of (at_moment s moment) ≡ None
  unfolding first_of
  asleep-by moment later =
      ap least (filter-none (is_startable (at_moment s moment)) s.works
      (All-with2 s.works (λ (work : Record) not_yet (after : waits_for_its_moment s work ≡ true → moment < due_of work).
      elim (cases_Bool (is_startable (at_moment s moment) work)) as (λ _. is_startable (at_moment s moment) work ≡ false) [
        | inl startable ↦
            (let is = startable-later moment work not_yet startable in
            let above = after is.0 in
            let by = is.1 in
            absurd (omega (arith, above, by)))
        | inr not_startable ↦ not_startable
      ]) (none-startable s nothing) later))

  found-at : (at : ℕ) → IsLeastDue s at → (found : Option Record) → first_of (at_moment s at) ≡ found → IsSome found
  found-at at first (Some work) is = refl
  found-at at first None none =
      absurd (one_gives s.works (λ work not_startable is. false≢true (sym not_startable ∙ startable-then at work is.0 is.1))
      (none-startable (at_moment s at) none) first.there)

  asleep-until : (wake : Option ℕ) → IsWakeOf s wake → (moment : ℕ) → IfSome wake (λ at. moment < at) → first_of (at_moment s moment) ≡ None
  asleep-until None none moment before =
      asleep-by moment (All-weaker s.works (λ work not_waiting waits. absurd (false≢true (sym not_waiting ∙ waits))) none)
  asleep-until (Some at) first moment before =
      asleep-by moment (All-weaker s.works (λ work least waits. let due = least waits in omega (arith, before, due)) first.least)

  awake-at : (wake : Option ℕ) → IsWakeOf s wake → IfSome wake (λ at. IsSome (first_of (at_moment s at)))
  awake-at None none = tt
  awake-at (Some at) first = found-at at first (first_of (at_moment s at)) refl

  pub wakes-at : (wake : Option ℕ) → IsWakeOf s wake → WakesAt s wake
  wakes-at wake is = record {
    asleep = asleep-until wake is;
    awake = awake-at wake is;
  }
