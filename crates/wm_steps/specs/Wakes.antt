-- When a state in which nothing is startable wakes, where nothing is changed in it but the moment. This project's own; WorkManager leaves it to the system's alarms.
use Rattle.std.specs.Prelude.{◌≡◌, ℕ, ◌<◌, ◌≤◌, ◌&&◌, Bool, true, false, nat_lt, Option, None, IfSome, IsSome, MatchOption}
use Rattle.std.specs.List.{AllByRecursion}
use Rattle.wm_collections.specs.Lists.{HasOne}
use Rattle.wm_conditions.specs.Met.{met}
use Rattle.wm_machine.specs.Due.{due_of}
use Rattle.wm_machine.specs.First.{first_of, has_room}
use Rattle.wm_machine.specs.declared.record.Record.{Record}
use Rattle.wm_machine.specs.declared.state.State.{State}
use Rattle.wm_changes.specs.Readiness.{is_ready_in}

-- whether a work waits for its moment alone: its prerequisites have succeeded, its constraints are met, its class has room, and it isn't due yet
abbrev pub waits_for_its_moment : State → Record → Bool
waits_for_its_moment s work =
    is_ready_in s.works work
    && (nat_lt s.now (due_of work) && (met work.request.constraints s.conditions && has_room s.instances work.request.class))

-- the least moment at which such a work is due
pub record IsLeastDue (s : State) (moment : ℕ) : Type 0 where
  pub there : HasOne (λ work. (waits_for_its_moment s work ≡ true) × (due_of work ≡ moment)) s.works
  pub least : AllByRecursion (λ work. waits_for_its_moment s work ≡ true → moment ≤ due_of work) s.works

-- the moment at which a state wakes, and none where no work waits for its moment alone
abbrev pub IsWakeOf : State → Option ℕ → Type 0
IsWakeOf s wake = MatchOption wake (AllByRecursion (λ work. waits_for_its_moment s work ≡ false) s.works) (IsLeastDue s)

-- ---- what it means

-- a state at another moment
abbrev pub at_moment : State → ℕ → State
at_moment s moment = record s { now = moment }

-- nothing is startable before a state wakes, and something is at that moment
pub record WakesAt (s : State) (wake : Option ℕ) : Type 0 where
  pub asleep : (moment : ℕ) → IfSome wake (λ at. moment < at) → first_of (at_moment s moment) ≡ None
  pub awake : IfSome wake (λ at. IsSome (first_of (at_moment s at)))
