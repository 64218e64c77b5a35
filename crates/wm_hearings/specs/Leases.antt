-- 2, 4 and 5. Leases begin anew where the engine didn't listen, runs whose leases are over are given up, and runs that were stopped are told so.
use Rattle.std.specs.Prelude.{ℕ, ◌&&◌, Bool, true, not, List, [], ◌∷◌, filter, map, max, if◌then◌else◌, Option, option_and_then, option_map}
use Rattle.wm_hearings.specs.Moments.{end_after, has_overslept}
use Rattle.wm_hearings.specs.Parts.{◌>>=◌, makes, only, says, Part}
use Rattle.wm_hearings.specs.Runs.{give_up, was_stopped}
use Rattle.wm_hearings.specs.Session.{Session}
use Rattle.wm_hearings.specs.declared.hearing.Terms.{Terms}
use Rattle.wm_leases.specs.Leases.{changed_at, made_told, over_at, renewed, runs_of}
use Rattle.wm_leases.specs.declared.leases.Lease.{Lease}
use Rattle.wm_machine.specs.Input.{work_numbered}
use Rattle.wm_machine.specs.Runs.{run_numbered}
use Rattle.wm_machine.specs.Shown.{shown_of}
use Rattle.wm_machine.specs.declared.event.End.TheVariants.{Retry}
use Rattle.wm_machine.specs.declared.event.Event.{Event}
use Rattle.wm_machine.specs.declared.event.Event.TheVariants as event
use Rattle.wm_machine.specs.declared.record.Shown.{Shown}
use Rattle.wm_machine.specs.declared.state.State.{State}
use Rattle.wm_serve_text.specs.Names.{run_name}
use Rattle.wm_serve_text.specs.RunTexts.{expired_text, stop_text}

-- ---- 2. the clock

-- the leases once a session hears at a moment, which had told until when it has nothing to do
abbrev pub kept_on : Terms → Option ℕ → ℕ → List Lease → List Lease
kept_on terms until moment leases = if has_overslept terms until moment then map (renewed (end_after moment terms.lease)) leases else leases

-- the clock is the greatest moment heard
abbrev pub listen : Terms → Option ℕ → ℕ → Session → Part
listen terms until moment session = only (record session {
  out = kept_on terms until moment session.out;
  clock = max session.clock moment;
  heard = true;
})

-- ---- 4. expiries

-- a run is to be tried again, or was stopped and is away
abbrev pub expiry_of : State → ℕ → Event
expiry_of s run = if was_stopped s run then event.Late run else event.Finish run Retry

abbrev pub expire : Terms → ℕ → Session → Part
expire terms run session = makes (expiry_of session.state run) (expired_text (run_name terms.number run)) (give_up run session)

abbrev pub expire_each : Terms → List ℕ → Session → Part
expire_each terms [] session = only session
expire_each terms (run ∷ runs) session = expire terms run session >>= expire_each terms runs

-- the runs whose leases are over at the clock, in ascending number
abbrev pub expire_over : Terms → Session → Part
expire_over terms session = expire_each terms (runs_of (over_at session.clock session.out)) session

-- ---- 5. stops

-- whether a run was stopped, and wasn't told so
abbrev pub is_to_tell : State → Lease → Bool
is_to_tell s lease = was_stopped s lease.run && not lease.told

-- the state that is shown of the work of a run, where the work is there
abbrev pub state_shown : State → ℕ → Option Shown
state_shown s run =
    option_map (shown_of s.works) (option_and_then (λ own. work_numbered own.seq s.works) (run_numbered run s.runs))

abbrev pub tell_stop : Terms → ℕ → Session → Part
tell_stop terms run session =
    says (stop_text (run_name terms.number run) (state_shown session.state run))
    (record session { out = changed_at made_told run session.out })

abbrev pub tell_each : Terms → List ℕ → Session → Part
tell_each terms [] session = only session
tell_each terms (run ∷ runs) session = tell_stop terms run session >>= tell_each terms runs

-- the runs that were stopped and weren't told so, in ascending number
abbrev pub tell_stops : Terms → Session → Part
tell_stops terms session = tell_each terms (runs_of (filter (is_to_tell session.state) session.out)) session
