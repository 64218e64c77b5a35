-- The line of an event of an audit, and what such a line tells: an event, without the reply where it is one of a command.
use Rattle.std.specs.Prelude.{ℕ, List, [], ◌∷◌, codes, Option, Some, None, option_and_then, option_map, unwrap_or}
use Rattle.std.specs.Map.{lookup}
use Rattle.std.specs.Str.{bytes_eq}
use Rattle.serde_json.specs.Data as json
use Rattle.serde_json.specs.Find.{get}
use Rattle.wm_audit_text.specs.Fields.{data_at, data_of, number_at, small_at, text_at}
use Rattle.wm_audit_text.specs.declared.entry.Entry.{Entry}
use Rattle.wm_audit_text.specs.declared.entry.Entry.TheVariants as entry
use Rattle.wm_data.specs.DataJson.{data_json}
use Rattle.wm_data.specs.declared.data.DataEntry.{DataEntry}
use Rattle.wm_machine.specs.declared.command.Command.{Command}
use Rattle.wm_machine.specs.declared.event.Cause.{Cause}
use Rattle.wm_machine.specs.declared.event.Cause.TheVariants.{NoWorker, Conflict, TooLarge}
use Rattle.wm_machine.specs.declared.event.End.{End}
use Rattle.wm_machine.specs.declared.event.End.TheVariants.{Success, Failure, Retry}
use Rattle.wm_machine.specs.declared.event.Event.{Event}
use Rattle.wm_machine.specs.declared.event.Event.TheVariants as event
use Rattle.wm_spelling.specs.Commands.{command_in, spelled}
use Rattle.wm_spelling.specs.Works.{count}

-- ---- written

-- the name of the event, and then these
abbrev pub event_members : List ℕ → json.Members → json.Members
event_members name more = json.member (codes "event") (json.string name) more

-- the line of a command, under its number
abbrev pub command_json : ℕ → Command → json.Data
command_json line asked = json.object
    (json.member (codes "command") (spelled asked)
    (event_members (codes "command") (json.member (codes "line") (count line) json.no_members)))

abbrev pub start_json : ℕ → ℕ → ℕ → List DataEntry → json.Data
start_json run seq instance input = json.object
    (event_members (codes "start")
    (json.member (codes "input") (data_json input)
    (json.member (codes "instance") (count instance)
    (json.member (codes "run") (count run)
    (json.member (codes "seq") (count seq) json.no_members)))))

-- the name of the cause, then these, and the number of the work
abbrev pub cause_json : List ℕ → json.Members → json.Data
cause_json name more = json.object (json.member (codes "cause") (json.string name) (event_members (codes "start_failed") more))

abbrev pub failed_json : ℕ → Cause → json.Data
failed_json seq NoWorker = cause_json (codes "NoWorker") (json.member (codes "seq") (count seq) json.no_members)
failed_json seq (Conflict key) = cause_json (codes "Conflict")
    (json.member (codes "key") (json.string key) (json.member (codes "seq") (count seq) json.no_members))
failed_json seq (TooLarge size) = cause_json (codes "TooLarge")
    (json.member (codes "seq") (count seq) (json.member (codes "size") (count size) json.no_members))

-- an event of a run that tells no more
abbrev pub run_json : List ℕ → ℕ → json.Data
run_json name run = json.object (event_members name (json.member (codes "run") (count run) json.no_members))

abbrev pub turn_json : ℕ → Option (List DataEntry) → json.Data
turn_json run None = run_json (codes "turn") run
turn_json run (Some progress) = json.object
    (event_members (codes "turn") (json.member (codes "progress") (data_json progress) (json.member (codes "run") (count run) json.no_members)))

-- an end with its output
abbrev pub ended_json : List ℕ → ℕ → List DataEntry → json.Data
ended_json name run output = json.object
    (json.member (codes "end") (json.string name)
    (event_members (codes "finish")
    (json.member (codes "output") (data_json output) (json.member (codes "run") (count run) json.no_members))))

abbrev pub finish_json : ℕ → End → json.Data
finish_json run (Success output) = ended_json (codes "success") run output
finish_json run (Failure output) = ended_json (codes "failure") run output
finish_json run Retry = json.object
    (json.member (codes "end") (json.string (codes "retry")) (event_members (codes "finish") (json.member (codes "run") (count run) json.no_members)))

-- the line of an event; the reply to a command isn't written
abbrev pub event_json : Event → json.Data
event_json (event.Command line asked reply) = command_json line asked
event_json (event.Start run seq instance input) = start_json run seq instance input
event_json (event.StartFailed seq cause) = failed_json seq cause
event_json (event.Turn run progress) = turn_json run progress
event_json (event.Finish run end) = finish_json run end
event_json (event.TimedOut run) = run_json (codes "timed_out") run
event_json (event.Late run) = run_json (codes "late") run

-- ---- what a line tells

-- of an event, all but the reply to a command
abbrev pub entry_of : Event → Entry
entry_of (event.Command line asked reply) = entry.Command line asked
entry_of e = entry.Run e

abbrev pub entry_json : Entry → json.Data
entry_json (entry.Command line asked) = command_json line asked
entry_json (entry.Run e) = event_json e

-- ---- read

abbrev pub cause_in : json.Data → Cause
cause_in d = unwrap_or (lookup (bytes_eq (text_at (codes "cause") d))
    ((codes "Conflict", Conflict (text_at (codes "key") d)) ∷ (codes "TooLarge", TooLarge (number_at (codes "size") d)) ∷ [])) NoWorker

abbrev pub end_in : json.Data → End
end_in d = unwrap_or (lookup (bytes_eq (text_at (codes "end") d))
    ((codes "success", Success (data_at (codes "output") d)) ∷ (codes "failure", Failure (data_at (codes "output") d)) ∷ [])) Retry

-- progress, where there is a value for it
abbrev pub progress_in : json.Data → Option (List DataEntry)
progress_in d = option_map data_of (get (codes "progress") d)

abbrev pub command_entry : json.Data → Option Entry
command_entry d = option_map (λ asked. entry.Command (small_at (codes "line") d) (command_in asked)) (get (codes "command") d)

abbrev pub start_in : json.Data → Event
start_in d = event.Start (number_at (codes "run") d) (number_at (codes "seq") d) (small_at (codes "instance") d) (data_at (codes "input") d)

abbrev pub failed_in : json.Data → Event
failed_in d = event.StartFailed (number_at (codes "seq") d) (cause_in d)

abbrev pub turn_in : json.Data → Event
turn_in d = event.Turn (number_at (codes "run") d) (progress_in d)

abbrev pub finish_in : json.Data → Event
finish_in d = event.Finish (number_at (codes "run") d) (end_in d)

-- the events by their names, each with its reader
abbrev pub entry_readers : List (List ℕ × (json.Data → Option Entry))
entry_readers =
    (codes "command", command_entry) ∷
    (codes "start", λ d. Some (entry.Run (start_in d))) ∷
    (codes "start_failed", λ d. Some (entry.Run (failed_in d))) ∷
    (codes "turn", λ d. Some (entry.Run (turn_in d))) ∷
    (codes "finish", λ d. Some (entry.Run (finish_in d))) ∷
    (codes "timed_out", λ d. Some (entry.Run (event.TimedOut (number_at (codes "run") d)))) ∷
    (codes "late", λ d. Some (entry.Run (event.Late (number_at (codes "run") d)))) ∷ []

-- what a value of this name tells
abbrev pub entry_under : List ℕ → json.Data → Option Entry
entry_under name d = option_and_then (λ reader. reader d) (lookup (bytes_eq name) entry_readers)

-- what a value tells
unfoldable pub entry_in : json.Data → Option Entry
entry_in d = entry_under (text_at (codes "event") d) d
