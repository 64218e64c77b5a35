-- What becomes of the workers that a session is given, each under its number.
use Rattle.std.specs.Prelude.{◌≡◌, ℕ, List, [], ◌∷◌, slice_get, Option, Some, IsSomeAnd}
use Rattle.wm_bench.specs.Places.{idle_at}
use Rattle.wm_bench.specs.declared.hand.Hand.{Hand}
use Rattle.wm_bench.specs.declared.place.Place.{Place}
use Rattle.wm_collections.specs.Lists.{HasOne}
use Rattle.wm_machine.specs.Diaries.{log_lines, IsDiaryWith}
use Rattle.wm_machine.specs.declared.event.Event.{Event}
use Rattle.wm_machine.specs.declared.event.Event.TheVariants as event
use Rattle.wm_machine.specs.declared.state.State.{State}
use Rattle.wm_worker.specs.Diary.{diary_with}
use Rattle.wm_worker.specs.declared.answer.Entry.{Entry}

-- a run starts on the instance of this number
abbrev pub IsStartOn : ℕ → Event → Type 0
IsStartOn number (event.Start run seq instance input) = instance ≡ number
IsStartOn number _ = ⊥

-- a diary that begins with what it was, where it is told
abbrev pub IsDiaryLater : Option (List Entry) → Option (List Entry) → Type 0
IsDiaryLater before now = (entries : List Entry) × (now ≡ diary_with entries before)

-- A worker that was given under this number, after a log: where no run started on it, it is the very same, and else its diary begins with
-- what it was.
pub record IsBoxAfter {B : Type 0} (diary_of : B → Option (List Entry)) (log : List Event) (number : ℕ) (given now : B) : Type 0 where
  pub untouched : (HasOne (IsStartOn number) log → ⊥) → now ≡ given
  pub diary : IsDiaryLater (diary_of given) (diary_of now)

-- a worker that tells a diary has written down its part of a log
abbrev pub HasTold : {B : Type 0} → (B → Option (List Entry)) → State → List Event → ℕ → B → B → Type 0
HasTold diary_of first log number given now = IsDiaryWith (log_lines number first log) (diary_of given) (diary_of now)

-- ---- of each worker

-- it holds of each worker that is at its place, beside the one that was given under its number
abbrev pub EachAtPlace : {B : Type 0} → (ℕ → B → B → Type 0) → List (Hand B) → List (Place B) → Type 0
EachAtPlace {B} fact given places =
    (number : ℕ) (worker : B) → idle_at number places ≡ Some worker → IsSomeAnd (slice_get given number) (λ hand. fact number hand.worker worker)

-- it holds of each worker that comes back, beside the one that was given under its number; these are their numbers
abbrev pub EachBack : {B : Type 0} → (ℕ → B → B → Type 0) → List (Hand B) → List ℕ → List (Hand B) → Type 0
EachBack fact given [] back = back ≡ []
EachBack fact given (number ∷ numbers) [] = ⊥
EachBack fact given (number ∷ numbers) (hand ∷ back) =
    IsSomeAnd (slice_get given number) (λ had. fact number had.worker hand.worker) × EachBack fact given numbers back
