-- That each run is reported once, and that its end counts just where no line stopped it: how often a log starts a run and how often it reports
-- that run, and which lines stop it.
use Rattle.std.specs.Prelude.{◌≡◌, ◌⊎◌, ℕ, ◌==◌, ◌≤◌, Bool, true, false, List, [], ◌∷◌, ◌++◌, count_by, Option, Some, option_map}
use Rattle.wm_machine.specs.Quiet.{IsQuiet}
use Rattle.wm_machine.specs.Replay.{state_after}
use Rattle.wm_machine.specs.Runs.{run_numbered}
use Rattle.wm_machine.specs.Step.{after}
use Rattle.wm_machine.specs.declared.event.Event.{Event}
use Rattle.wm_machine.specs.declared.event.Event.TheVariants as event
use Rattle.wm_machine.specs.declared.state.State.{State}

-- ---- starts and reports

-- the event starts the run of this number
abbrev pub is_start_of : ℕ → Event → Bool
is_start_of number (event.Start run seq instance input) = run == number
is_start_of number _ = false

-- the event ends the run of this number, and its end counts
abbrev pub is_end_of : ℕ → Event → Bool
is_end_of number (event.Finish run end) = run == number
is_end_of number (event.TimedOut run) = run == number
is_end_of number _ = false

-- the event reports that the run of this number is over, whether its end counts or comes too late
abbrev pub is_report_of : ℕ → Event → Bool
is_report_of number (event.Finish run end) = run == number
is_report_of number (event.TimedOut run) = run == number
is_report_of number (event.Late run) = run == number
is_report_of number _ = false

abbrev pub starts_in : List Event → ℕ → ℕ
starts_in log number = count_by (is_start_of number) log

abbrev pub reports_in : List Event → ℕ → ℕ
reports_in log number = count_by (is_report_of number) log

-- ---- stops

-- whether the run of this number is current, where it is unreturned
abbrev pub current_in : ℕ → State → Option Bool
current_in number s = option_map (λ run. run.current) (run_numbered number s.runs)

-- an event is a line
abbrev pub IsCommand : Event → Type 0
IsCommand (event.Command line asked answer) = Unit {0}
IsCommand _ = ⊥

-- an event in a state is a line, by which the run of this number, which was current, isn't any more
pub record Stops (number : ℕ) (s : State) (e : Event) : Type 0 where
  pub line : IsCommand e
  pub was : current_in number s ≡ Some true
  pub now : current_in number (after s e) ≡ Some false

-- a line of these events, from this state on, stops the run of this number
abbrev pub IsStoppedIn : ℕ → State → List Event → Type 0
IsStoppedIn number s [] = ⊥
IsStoppedIn number s (e ∷ log) = Stops number s e ⊎ IsStoppedIn number (after s e) log

-- ---- the law

-- A run that starts between two parts of a log, which leads from the first state to the last: no other start has its number, no report of it
-- precedes its start, at most one follows, and just one where there is nothing left to do. Its end comes too late just where a line between
-- its start and its end stopped it.
pub record IsReportedOnce (first : State) (run : ℕ) (before : List Event) (start : Event) (later : List Event) (last : State) : Type 0 where
  pub not_started_before : starts_in before run ≡ 0
  pub not_started_later : starts_in later run ≡ 0
  pub not_reported_before : reports_in before run ≡ 0
  pub at_most_once : reports_in later run ≤ 1
  pub just_once : IsQuiet last → reports_in later run ≡ 1
  pub late : (between rest : List Event) → later ≡ between ++ event.Late run ∷ rest
      → IsStoppedIn run (state_after first (before ++ start ∷ [])) between
  pub counts : (between rest : List Event) (end : Event) → is_end_of run end ≡ true → later ≡ between ++ end ∷ rest
      → IsStoppedIn run (state_after first (before ++ start ∷ [])) between → ⊥
