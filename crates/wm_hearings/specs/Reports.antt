-- What the events of a hearing report on: each for the one line that names its run, or since the lease of its run is over.
use Rattle.std.specs.Prelude.{◌≡◌, ◌⊎◌, ◌≤◌, ℕ, List, [], ◌∷◌, ◌++◌, filter_map, length, Option, Some, None, option_map}
use Rattle.std.specs.List.{AllByRecursion}
use Rattle.wm_hearings.specs.Hears.{date}
use Rattle.wm_hearings.specs.Lines.{hear}
use Rattle.wm_hearings.specs.Parts.{Part}
use Rattle.wm_hearings.specs.Runs.{named}
use Rattle.wm_hearings.specs.Session.{Session}
use Rattle.wm_hearings.specs.declared.hearing.Heard.{Heard}
use Rattle.wm_hearings.specs.declared.hearing.Heard.TheVariants as heard
use Rattle.wm_hearings.specs.declared.hearing.Hearing.{Hearing}
use Rattle.wm_hearings.specs.declared.hearing.Terms.{Terms}
use Rattle.wm_leases.specs.Leases.{over_at, runs_of}
use Rattle.wm_machine.specs.declared.event.Event.{Event}
use Rattle.wm_machine.specs.declared.event.Event.TheVariants as event
use Rattle.wm_serve_text.specs.Lines.{line_of}
use Rattle.wm_serve_text.specs.declared.lines.SessionLine.{SessionLine}
use Rattle.wm_serve_text.specs.declared.lines.SessionLine.TheVariants as line

-- the run that an event reports on, where it does
abbrev pub reported : Event → Option ℕ
reported (event.Turn run progress) = Some run
reported (event.Finish run end) = Some run
reported (event.TimedOut run) = Some run
reported (event.Late run) = Some run
reported _ = None

-- the runs that some events report on, in order
abbrev pub reports : List Event → List ℕ
reports events = filter_map reported events

-- an event isn't that a run used up its turns
abbrev pub IsNoTimeout : Event → Type 0
IsNoTimeout (event.TimedOut run) = ⊥
IsNoTimeout _ = Unit {0}

-- the run that is out and that a line names to report on it
abbrev pub named_by : Terms → SessionLine → Session → Option ℕ
named_by terms (line.Progress name told) session = option_map (λ lease. lease.run) (named terms name session)
named_by terms (line.Report name end) session = option_map (λ lease. lease.run) (named terms name session)
named_by terms _ session = None

abbrev pub named_in : Terms → Heard → Session → Option ℕ
named_in terms (heard.Line bytes) session = named_by terms (line_of bytes) session
named_in terms _ session = None

-- there is none, or one, on this run
abbrev pub IsAtMostOn : Option ℕ → List ℕ → Type 0
IsAtMostOn None runs = runs ≡ []
IsAtMostOn (Some run) runs = (runs ≡ []) ⊎ (runs ≡ run ∷ [])

-- a hearing that isn't the last: its line makes at most one event, and where that is a report it is on the run that the line names, and there is
-- none where it names none that is out; after that the runs are reported on whose leases are over; and there is no other report
pub record ReportsOn (terms : Terms) (n : ℕ) (hearing : Hearing) (old : Session) (part : Part) : Type 0 where
  pub dated : Session
  pub lined : Part
  pub dated_is : dated ≡ (date terms hearing.at old).session
  pub lined_is : lined ≡ hear terms n hearing.heard dated
  pub few : length lined.events ≤ 1
  pub by_line : IsAtMostOn (named_in terms hearing.heard dated) (reports lined.events)
  pub all : reports part.events ≡ reports lined.events ++ runs_of (over_at lined.session.clock lined.session.out)
  pub no_timeout : AllByRecursion IsNoTimeout part.events
