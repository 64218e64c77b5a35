-- 6 and 7. What is startable starts, and a session that was closed is over once no run is out.
use Rattle.std.specs.Prelude.{◌≡◌, ℕ, ◌&&◌, false, List, [], ◌∷◌, ◌++◌, count_by, nat_lt, Option, Some, None}
use Rattle.std.specs.Str.{bytes_eq}
use Rattle.wm_hearings.specs.Parts.{◌>>=◌, makes, only, says, Part}
use Rattle.wm_hearings.specs.Runs.{new_end}
use Rattle.wm_hearings.specs.Session.{Session}
use Rattle.wm_hearings.specs.declared.hearing.Stage.{Stage}
use Rattle.wm_hearings.specs.declared.hearing.Stage.TheVariants as stage
use Rattle.wm_hearings.specs.declared.hearing.Terms.{Terms}
use Rattle.wm_leases.specs.declared.leases.Lease.{Lease}
use Rattle.wm_machine.specs.First.{first_of}
use Rattle.wm_machine.specs.Input.{work_numbered}
use Rattle.wm_machine.specs.Runs.{run_numbered}
use Rattle.wm_machine.specs.Step.{after, Legal}
use Rattle.wm_machine.specs.declared.event.Cause.{Cause}
use Rattle.wm_machine.specs.declared.event.Event.{Event}
use Rattle.wm_machine.specs.declared.event.Event.TheVariants as event
use Rattle.wm_machine.specs.declared.record.Record.{Record}
use Rattle.wm_machine.specs.declared.state.Instance.{Instance}
use Rattle.wm_machine.specs.declared.state.Run.{Run}
use Rattle.wm_machine.specs.declared.state.State.{State}
use Rattle.wm_serve_text.specs.Answers.{closed_text}
use Rattle.wm_serve_text.specs.Names.{run_name}
use Rattle.wm_serve_text.specs.RunTexts.{failed_start_text, start_text}

-- ---- which events

-- an event is the start of the work that is first, or shows that it can't start
abbrev pub IsStartOfFirst : State → Event → Type 0
IsStartOfFirst s (event.Start run seq instance input) = Legal s (event.Start run seq instance input)
IsStartOfFirst s (event.StartFailed seq cause) = Legal s (event.StartFailed seq cause)
IsStartOfFirst s _ = ⊥

-- the events are such ones, each in the state that those before it give
abbrev pub AreStarts : State → List Event → Type 0
AreStarts s [] = Unit {0}
AreStarts s (e ∷ events) = IsStartOfFirst s e × AreStarts (after s e) events

-- and after them nothing is startable
abbrev pub AreAllStarts : State → List Event → Type 0
AreAllStarts s [] = first_of s ≡ None
AreAllStarts s (e ∷ events) = IsStartOfFirst s e × AreAllStarts (after s e) events

-- where a session was closed there is none
abbrev pub AreStartsIn : Stage → State → List Event → Type 0
AreStartsIn stage.Open s events = AreAllStarts s events
AreStartsIn _ s events = events ≡ []

-- ---- what each comes to

-- how many instances of a class stand before the one of this number, retired ones too
abbrev pub slot_of : List Instance → List ℕ → ℕ → ℕ
slot_of instances class number = count_by (λ other. nat_lt other.number number && bytes_eq other.class class) instances

-- the line by which a run begins, with what the run and the record of its work have then
abbrev pub start_line_for : Terms → List Instance → Run → Option Record → List ℕ
start_line_for terms instances run None = []
start_line_for terms instances run (Some work) =
    start_text (run_name terms.number run.run) run work (slot_of instances work.request.class run.instance)

abbrev pub start_line_of : Terms → State → Option Run → List ℕ
start_line_of terms s None = []
start_line_of terms s (Some run) = start_line_for terms s.instances run (work_numbered run.seq s.works)

abbrev pub start_line : Terms → State → ℕ → List ℕ
start_line terms s number = start_line_of terms s (run_numbered number s.runs)

-- the lease of a run that begins at the clock
abbrev pub new_lease : Terms → ℕ → Session → Lease
new_lease terms run session = record { run = run; end = new_end terms session; told = false }

-- a run is out, with a lease that begins at the clock
abbrev pub lend : Terms → ℕ → Session → Session
lend terms run session = record session { out = session.out ++ new_lease terms run session ∷ [] }

-- the line of a work that can't start
abbrev pub failed_line : Option Record → ℕ → Cause → List ℕ
failed_line None seq cause = []
failed_line (Some work) seq cause = failed_start_text work.request.id seq cause

abbrev pub start : Terms → Event → Session → Part
start terms (event.Start run seq instance input) session =
    makes (event.Start run seq instance input)
    (start_line terms (after session.state (event.Start run seq instance input)) run)
    (lend terms run session)
start terms (event.StartFailed seq cause) session =
    makes (event.StartFailed seq cause) (failed_line (work_numbered seq session.state.works) seq cause) session
start terms _ session = only session

abbrev pub start_each : Terms → List Event → Session → Part
start_each terms [] session = only session
start_each terms (e ∷ events) session = start terms e session >>= start_each terms events

-- ---- 7. the end

abbrev pub end_for : Stage → List Lease → Session → Part
end_for (stage.Closing line) [] session = says (closed_text line) (record session { stage = stage.Over })
end_for _ out session = only session

-- it was closed, and no run is out: that answers the line that closed it
abbrev pub end : Session → Part
end session = end_for session.stage session.out session
