-- What the workers of a run write down.
use Rattle.std.specs.Prelude.{◌≡◌, ℕ, ◌==◌, List, [], ◌∷◌, ◌++◌, if◌then◌else◌, Option, Some, None}
use Rattle.wm_machine.specs.Role as role
use Rattle.wm_machine.specs.Role.{HasGiven, Reported, Role, This}
use Rattle.wm_machine.specs.Runs.{run_numbered}
use Rattle.wm_machine.specs.Step.{after, role_of}
use Rattle.wm_machine.specs.declared.event.Event.{Event}
use Rattle.wm_machine.specs.declared.state.Run.{Run}
use Rattle.wm_machine.specs.declared.state.State.{State}
use Rattle.wm_worker.specs.declared.answer.Entry.{Entry}
use Rattle.wm_worker.specs.declared.answer.Entry.TheVariants as entry
use Rattle.wm_worker.specs.declared.answer.Given.{Given}

-- what the log tells of an entry of a diary: that this run began, or that this run gave so in this turn
pub data DiaryLine : Type 0 where
  Began : ℕ → DiaryLine
  Gave : ℕ → ℕ → Reported → DiaryLine

-- ---- what the log tells

-- of the worker of this instance, where a run's worker gave so
abbrev pub given_lines : ℕ → Option Run → Reported → List DiaryLine
given_lines number None gave = []
given_lines number (Some run) gave = if run.instance == number then Gave run.run run.turn gave ∷ [] else []

-- of the worker of this instance, by an event in a state
abbrev pub lines_by : ℕ → State → Role → List DiaryLine
lines_by number s (role.Begins run instance) = if instance == number then Began run ∷ [] else []
lines_by number s (role.GoesOn run gave) = given_lines number (run_numbered run s.runs) (This gave)
lines_by number s (role.Ends run gave) = given_lines number (run_numbered run s.runs) gave
lines_by number s _ = []

abbrev pub event_lines : ℕ → State → Event → List DiaryLine
event_lines number s e = lines_by number s (role_of e)

-- of the worker of this instance, by a log, in its order
abbrev pub log_lines : ℕ → State → List Event → List DiaryLine
log_lines number first [] = []
log_lines number first (e ∷ log) = event_lines number first e ++ log_lines number (after first e) log

-- ---- what is written down

-- an entry is as the log tells it
abbrev pub IsEntry : DiaryLine → Entry → Type 0
IsEntry (Began run) written = written ≡ entry.Begun run
IsEntry (Gave run k told) written = (gave : Given) × HasGiven told gave × (written ≡ entry.Gave run k gave)

-- so are entries, one after another
abbrev pub AreEntries : List DiaryLine → List Entry → Type 0
AreEntries [] entries = entries ≡ []
AreEntries (line ∷ lines) [] = ⊥
AreEntries (line ∷ lines) (written ∷ entries) = IsEntry line written × AreEntries lines entries

-- a diary with such entries more, where it is told
abbrev pub IsDiaryWith : List DiaryLine → Option (List Entry) → Option (List Entry) → Type 0
IsDiaryWith lines None diary = diary ≡ None
IsDiaryWith lines (Some before) diary = (entries : List Entry) × AreEntries lines entries × (diary ≡ Some (before ++ entries))
