-- What holds of every state that the machine reaches.
use Rattle.std.specs.Prelude.{◌≡◌, ◌≢◌, ℕ, ◌+◌, ◌^◌, ◌==◌, ◌<◌, ◌≤◌, true, List, [], ◌∷◌, length, Option, Some, None, is_some, IfSome}
use Rattle.std.specs.List.{AllByRecursion, list_any}
use Rattle.wm_collections.specs.Lists.{AllLater, HasOne}
use Rattle.wm_data.specs.Size.{IsData}
use Rattle.wm_data.specs.declared.data.DataEntry.{DataEntry}
use Rattle.wm_machine.specs.Limits.{FitsRow}
use Rattle.wm_machine.specs.declared.record.How.TheVariants as how
use Rattle.wm_machine.specs.declared.record.Phase.{Phase}
use Rattle.wm_machine.specs.declared.record.Phase.TheVariants as phase
use Rattle.wm_machine.specs.declared.record.Record.{Record}
use Rattle.wm_machine.specs.declared.state.Instance.{Instance}
use Rattle.wm_machine.specs.declared.state.Run.{Run}
use Rattle.wm_machine.specs.declared.state.State.{State}
use Rattle.wm_request.specs.Requests.{IsRequest, IsShortText}
use Rattle.wm_request.specs.declared.request.NextRun.TheVariants.{Leave}
use Rattle.wm_schedule.specs.declared.schedule.Period.{Period}

-- ---- a record by itself

-- running and succeeded work was started
abbrev pub IsAttemptIn : Phase → ℕ → Type 0
IsAttemptIn phase.Running attempt = 1 ≤ attempt
IsAttemptIn (phase.Done how.Succeeded) attempt = 1 ≤ attempt
IsAttemptIn _ attempt = Unit {0}

-- only work that succeeded or failed has given something
abbrev pub IsOutputIn : Phase → List DataEntry → Type 0
IsOutputIn (phase.Done how.Succeeded) output = IsData output
IsOutputIn (phase.Done how.Failed) output = IsData output
IsOutputIn _ output = output ≡ []

-- only running work tells something
abbrev pub IsProgressIn : Phase → List DataEntry → Type 0
IsProgressIn phase.Running progress = IsData progress
IsProgressIn _ progress = progress ≡ []

-- only finished work has a moment at which it finished
abbrev pub IsFinishedIn : Phase → ℕ → Type 0
IsFinishedIn (phase.Done how) finished_at = Unit {0}
IsFinishedIn _ finished_at = finished_at ≡ 0

-- only periodic work has a moment that takes the place of its period's
abbrev pub IsOverrideOf : Option Period → Option ℕ → Type 0
IsOverrideOf None override_at = override_at ≡ None
IsOverrideOf (Some period) override_at = Unit {0}

-- periodic work never succeeds or fails for good
abbrev pub IsPeriodicPhase : Phase → Type 0
IsPeriodicPhase (phase.Done how.Succeeded) = ⊥
IsPeriodicPhase (phase.Done how.Failed) = ⊥
IsPeriodicPhase _ = Unit {0}

pub record IsPeriodic (work : Record) : Type 0 where
  pub phase_is : IsPeriodicPhase work.phase
  pub no_output : work.output ≡ []
  pub no_prerequisite : work.prior ≡ []

-- a one-time work has run no period
abbrev pub IsOfKind : Option Period → Record → Type 0
IsOfKind None work = work.runs ≡ 0
IsOfKind (Some period) work = IsPeriodic work

-- at most 100 prerequisites, different, each of a smaller number
pub record ArePrior (seq : ℕ) (prior : List ℕ) : Type 0 where
  pub few : length prior ≤ 100
  pub different : AllLater (λ number later. number ≢ later) prior
  pub earlier : AllByRecursion (λ number. (1 ≤ number) × (number < seq)) prior

-- a record is within its limits
pub record IsRecord (work : Record) : Type 0 where
  pub number : 1 ≤ work.seq
  pub fits : FitsRow work
  pub name : IfSome work.name IsShortText
  pub request : IsRequest work.request
  pub prior : ArePrior work.seq work.prior
  pub attempt : work.attempt ≤ 1000000
  pub started : IsAttemptIn work.phase work.attempt
  pub backoff_n : work.backoff_n ≤ work.attempt
  pub runs : work.runs ≤ 1000000
  pub kind : IsOfKind work.request.period work
  pub leaves : work.request.next ≡ Leave
  pub override_at : IsOverrideOf work.request.period work.override_at
  pub finished_at : IsFinishedIn work.phase work.finished_at
  pub output : IsOutputIn work.phase work.output
  pub progress : IsProgressIn work.phase work.progress

-- ---- a record among the others

-- works of one unique name are all one-time, or there is one alone
abbrev pub AreOfOneKind : Record → Record → Type 0
AreOfOneKind one other =
    (name : List ℕ) → one.name ≡ Some name → other.name ≡ Some name → (one.request.period ≡ None) × (other.request.period ≡ None)

-- a record stands before another: its number is smaller, and they differ in their ids
pub record IsBefore (one other : Record) : Type 0 where
  pub number : one.seq < other.seq
  pub id : one.request.id ≢ other.request.id
  pub name : AreOfOneKind one other

-- work in this phase can still succeed, or has
abbrev pub MaySucceedOrHas : Phase → Type 0
MaySucceedOrHas (phase.Done how.Failed) = ⊥
MaySucceedOrHas (phase.Done how.Cancelled) = ⊥
MaySucceedOrHas _ = Unit {0}

-- the record of this number can still succeed, or has, and is one-time
pub record IsPrerequisite (number : ℕ) (work : Record) : Type 0 where
  pub seq : work.seq ≡ number
  pub open_is : MaySucceedOrHas work.phase
  pub one_time : work.request.period ≡ None

-- the record of this number has succeeded
pub record HasSucceeded (number : ℕ) (work : Record) : Type 0 where
  pub seq : work.seq ≡ number
  pub succeeded : work.phase ≡ phase.Done how.Succeeded

-- each prerequisite of waiting work is there, and of running work it has succeeded; of work that succeeded each that is there has
abbrev pub ArePriorSound : List Record → Phase → List ℕ → Type 0
ArePriorSound works phase.Waiting prior = AllByRecursion (λ number. HasOne (IsPrerequisite number) works) prior
ArePriorSound works phase.Running prior =
    AllByRecursion (λ number. HasOne (IsPrerequisite number) works × HasOne (HasSucceeded number) works) prior
ArePriorSound works (phase.Done how.Succeeded) prior =
    AllByRecursion (λ number. AllByRecursion (λ work. work.seq ≡ number → work.phase ≡ phase.Done how.Succeeded) works) prior
ArePriorSound works (phase.Done _) prior = Unit {0}

-- ---- instances and runs

-- the instances are numbered in order, from this number on
abbrev pub AreNumberedInOrder : ℕ → List Instance → Type 0
AreNumberedInOrder number [] = Unit {0}
AreNumberedInOrder number (instance ∷ instances) = (instance.number ≡ number) × AreNumberedInOrder (number + 1) instances

-- two runs differ in their number and their instance, and where both are current in their work
pub record AreApart (one other : Run) : Type 0 where
  pub runs : one.run ≢ other.run
  pub works : one.current ≡ true → other.current ≡ true → one.seq ≢ other.seq
  pub instances : one.instance ≢ other.instance

-- a record is the one that a run is of: it is running, in the run's attempt, and periodic where the run is renewed
pub record IsWorkOf (run : Run) (work : Record) : Type 0 where
  pub seq : work.seq ≡ run.seq
  pub running : work.phase ≡ phase.Running
  pub attempt : work.attempt ≡ run.attempt
  pub renewed : run.renewed ≡ true → is_some work.request.period ≡ true

-- a run is a current one of the work of this number
pub record IsCurrentOf (seq : ℕ) (run : Run) : Type 0 where
  pub of : run.seq ≡ seq
  pub current : run.current ≡ true

-- an instance is the one that a run is on: it is of its kind
pub record IsInstanceOf (run : Run) (instance : Instance) : Type 0 where
  pub number : instance.number ≡ run.instance
  pub kind : instance.kind ≡ run.kind

-- a run is numbered below the next one, in one of its 1,000 turns, with Data as its input, on an instance of its kind, and where it is current of
-- a running work
pub record IsValidRun (works : List Record) (instances : List Instance) (next : ℕ) (run : Run) : Type 0 where
  pub number : run.run < next
  pub turn : run.turn ≤ 999
  pub input : IsData run.input
  pub work : run.current ≡ true → HasOne (IsWorkOf run) works
  pub instance : HasOne (IsInstanceOf run) instances

-- an instance is out exactly where a run is on it
abbrev pub IsOutForRun : List Run → Instance → Type 0
IsOutForRun runs instance = instance.out ≡ list_any (λ run. run.instance == instance.number) runs

-- ---- a state

-- the works of a state: few, each within its limits, in order, sound by what they come after, and numbered below the next one
pub record AreWorks (next : ℕ) (works : List Record) : Type 0 where
  pub first : 1 ≤ next
  pub fits : next ≤ 2 ^ 53
  pub numbers : AllByRecursion (λ work. work.seq < next) works
  pub few : length works ≤ 100000
  pub records : AllByRecursion IsRecord works
  pub in_order : AllLater IsBefore works
  pub sound : AllByRecursion (λ work. ArePriorSound works work.phase work.prior) works

-- the runs beside these works and instances: each is valid, they are apart, and a running work has its run
pub record AreRuns (works : List Record) (instances : List Instance) (next : ℕ) (runs : List Run) : Type 0 where
  pub running : AllByRecursion (λ work. work.phase ≡ phase.Running → HasOne (IsCurrentOf work.seq) runs) works
  pub each : AllByRecursion (IsValidRun works instances next) runs
  pub apart : AllLater AreApart runs

-- the instances beside these runs: at most 10,000, numbered in order, and out exactly where a run is on them
pub record AreInstances (runs : List Run) (instances : List Instance) : Type 0 where
  pub few : length instances ≤ 10000
  pub out : AllByRecursion (IsOutForRun runs) instances
  pub numbered : AreNumberedInOrder 0 instances

pub record Valid (s : State) : Type 0 where
  pub works : AreWorks s.next s.works
  pub runs : AreRuns s.works s.instances s.next_run s.runs
  pub instances : AreInstances s.runs s.instances
  pub few_observers : length s.observers ≤ 100
  pub now : s.now < 2 ^ 53
