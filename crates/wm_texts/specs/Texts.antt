-- What is written for an event and for a log.
use Rattle.std.specs.Prelude.{ℕ, Bool, true, false, not, List, [], ◌∷◌, ◌++◌, map, codes, if◌then◌else◌, Option, Some, None}
use Rattle.serde_json.specs.Data as json
use Rattle.serde_json.specs.View.{items_of}
use Rattle.serde_json.specs.Written.{compact_text}
use Rattle.uuid.specs.Text.{hyphenated_text, lower}
use Rattle.wm_data.specs.DataJson.{data_json}
use Rattle.wm_machine.specs.Step.{after}
use Rattle.wm_machine.specs.declared.command.LineFault.{LineFault}
use Rattle.wm_machine.specs.declared.command.LineFault.TheVariants as fault
use Rattle.wm_machine.specs.declared.event.Event.{Event}
use Rattle.wm_machine.specs.declared.event.Event.TheVariants as event
use Rattle.wm_machine.specs.declared.record.Shown.{Shown}
use Rattle.wm_machine.specs.declared.record.Shown.TheVariants as shown
use Rattle.wm_machine.specs.declared.reply.Applied.{Applied}
use Rattle.wm_machine.specs.declared.reply.Applied.TheVariants as applied
use Rattle.wm_machine.specs.declared.reply.Counts.{Counts}
use Rattle.wm_machine.specs.declared.reply.Refusal.{Refusal}
use Rattle.wm_machine.specs.declared.reply.Refusal.TheVariants as refusal
use Rattle.wm_machine.specs.declared.reply.Reply.{Reply}
use Rattle.wm_machine.specs.declared.reply.Reply.TheVariants as reply
use Rattle.wm_machine.specs.declared.reply.WorkInfo.{WorkInfo}
use Rattle.wm_machine.specs.declared.state.State.{State}
use Rattle.wm_observe.specs.Notes.{notes_between}
use Rattle.wm_observe.specs.declared.note.Note.{Note}
use Rattle.wm_observe.specs.declared.note.Note.TheVariants as note

abbrev pub count : ℕ → json.Data
count n = json.number (json.unsigned n)

abbrev pub numbers : List ℕ → json.Data
numbers ns = json.array (items_of (map count ns))

-- an id prints hyphenated and in lower case
abbrev pub id_text : List ℕ → json.Data
id_text id = json.string (hyphenated_text lower id)

-- the name of a line's fault
abbrev pub fault_name : LineFault → List ℕ
fault_name fault.Bad = codes "Bad"
fault_name fault.EmptyKey = codes "EmptyKey"
fault_name (fault.BadData key) = codes "BadData"
fault_name (fault.TooLarge size) = codes "TooLarge"
fault_name fault.NoClass = codes "NoClass"
fault_name fault.TooManyTags = codes "TooManyTags"
fault_name fault.DelayTooLong = codes "DelayTooLong"
fault_name (fault.IdTwice id) = codes "IdTwice"
fault_name (fault.PeriodicInChain id) = codes "PeriodicInChain"

-- the name of a refusal
abbrev pub refusal_name : Refusal → List ℕ
refusal_name (refusal.Line found) = fault_name found
refusal_name (refusal.MomentBack now) = codes "MomentBack"
refusal_name (refusal.NoSuchWork id) = codes "NoSuchWork"
refusal_name (refusal.KindMismatch id) = codes "KindMismatch"
refusal_name (refusal.TooManyWorks n) = codes "TooManyWorks"
refusal_name (refusal.NumbersSpent next) = codes "NumbersSpent"
refusal_name (refusal.IdInUse id) = codes "IdInUse"
refusal_name (refusal.NoSuchPrerequisite id) = codes "NoSuchPrerequisite"
refusal_name (refusal.PeriodicInChain id) = codes "PeriodicInChain"
refusal_name (refusal.TooManyPrerequisites id) = codes "TooManyPrerequisites"
refusal_name (refusal.TooManyObservers n) = codes "TooManyObservers"
refusal_name refusal.NoSuchClass = codes "NoSuchClass"

-- the members, with the value that shows the fault, under its own name
abbrev pub with_fault : LineFault → json.Members → json.Members
with_fault (fault.BadData key) members = json.put (codes "key") (json.string key) members
with_fault (fault.TooLarge size) members = json.put (codes "size") (count size) members
with_fault (fault.IdTwice id) members = json.put (codes "id") (id_text id) members
with_fault (fault.PeriodicInChain id) members = json.put (codes "id") (id_text id) members
with_fault _ members = members

-- the members, with the value that shows the refusal, under its own name
abbrev pub with_refusal : Refusal → json.Members → json.Members
with_refusal (refusal.Line found) members = with_fault found members
with_refusal (refusal.MomentBack now) members = json.put (codes "now") (count now) members
with_refusal (refusal.NoSuchWork id) members = json.put (codes "id") (id_text id) members
with_refusal (refusal.KindMismatch id) members = json.put (codes "id") (id_text id) members
with_refusal (refusal.TooManyWorks n) members = json.put (codes "count") (count n) members
with_refusal (refusal.NumbersSpent next) members = json.put (codes "next") (count next) members
with_refusal (refusal.IdInUse id) members = json.put (codes "id") (id_text id) members
with_refusal (refusal.NoSuchPrerequisite id) members = json.put (codes "id") (id_text id) members
with_refusal (refusal.PeriodicInChain id) members = json.put (codes "id") (id_text id) members
with_refusal (refusal.TooManyPrerequisites id) members = json.put (codes "id") (id_text id) members
with_refusal (refusal.TooManyObservers n) members = json.put (codes "count") (count n) members
with_refusal refusal.NoSuchClass members = members

-- the name of a refusal and the number of the line
abbrev pub refused_members : ℕ → Refusal → json.Members
refused_members line found =
    json.member (codes "error") (json.string (refusal_name found))
    (json.member (codes "line") (count line) json.no_members)

-- ---- what is told of a work

abbrev pub state_name : Shown → List ℕ
state_name shown.Enqueued = codes "ENQUEUED"
state_name shown.Running = codes "RUNNING"
state_name shown.Succeeded = codes "SUCCEEDED"
state_name shown.Failed = codes "FAILED"
state_name shown.Blocked = codes "BLOCKED"
state_name shown.Cancelled = codes "CANCELLED"

abbrev pub texts : List (List ℕ) → json.Data
texts ts = json.array (items_of (map json.string ts))

-- the members, with the moment at which the work is due, where it shows one
abbrev pub with_due : Option ℕ → json.Members → json.Members
with_due None members = members
with_due (Some due) members = json.put (codes "due") (count due) members

-- the members, with the unique name of the work, where it has one
abbrev pub with_name : Option (List ℕ) → json.Members → json.Members
with_name None members = members
with_name (Some name) members = json.put (codes "name") (json.string name) members

-- what is told of every work
abbrev pub info_members : WorkInfo → json.Members
info_members info =
    json.member (codes "attempt") (count info.attempt)
    (json.member (codes "generation") (count info.generation)
    (json.member (codes "id") (id_text info.id)
    (json.member (codes "output") (data_json info.output)
    (json.member (codes "progress") (data_json info.progress)
    (json.member (codes "seq") (count info.seq)
    (json.member (codes "state") (json.string (state_name info.state))
    (json.member (codes "tags") (texts info.tags) json.no_members)))))))

abbrev pub info_json : WorkInfo → json.Data
info_json info = json.object (with_name info.name (with_due info.due (info_members info)))

abbrev pub infos : List WorkInfo → json.Data
infos works = json.array (items_of (map info_json works))

-- ---- replies

-- what an update did, after `androidx.work.WorkManager.UpdateResult`
abbrev pub applied_name : Applied → List ℕ
applied_name applied.NotApplied = codes "NOT_APPLIED"
applied_name applied.Immediately = codes "APPLIED_IMMEDIATELY"
applied_name applied.ForNextRun = codes "APPLIED_FOR_NEXT_RUN"

-- the number of the line and what was done, and then these
abbrev pub ok_members : ℕ → List ℕ → json.Members → json.Members
ok_members line done more = json.member (codes "line") (count line) (json.member (codes "ok") (json.string done) more)

-- a reply that tells what was done, and no more
abbrev pub done_json : ℕ → List ℕ → json.Data
done_json line done = json.object (ok_members line done json.no_members)

-- a reply that tells how many works it was done to
abbrev pub counted_json : ℕ → List ℕ → ℕ → json.Data
counted_json line done n = json.object (json.member (codes "count") (count n) (ok_members line done json.no_members))

-- the counts of a summary
abbrev pub summary_json : ℕ → Counts → json.Data
summary_json line counts = json.object
    (json.member (codes "attempts") (count counts.attempts)
    (json.member (codes "blocked") (count counts.blocked)
    (json.member (codes "cancelled") (count counts.cancelled)
    (json.member (codes "enqueued") (count counts.enqueued)
    (json.member (codes "failed") (count counts.failed)
    (ok_members line (codes "summary")
    (json.member (codes "running") (count counts.running)
    (json.member (codes "succeeded") (count counts.succeeded) json.no_members))))))))

-- the reply to a line, as JSON; that of `hush` is never written
abbrev pub reply_json : ℕ → Reply → json.Data
reply_json line (reply.Enqueued works) = json.object (ok_members line (codes "enqueued") (json.member (codes "works") (numbers works) json.no_members))
reply_json line reply.Kept = done_json line (codes "kept")
reply_json line (reply.Updated result generation) = json.object
    (json.member (codes "generation") (count generation)
    (ok_members line (codes "updated")
    (json.member (codes "result") (json.string (applied_name result)) json.no_members)))
reply_json line (reply.Cancelled n) = counted_json line (codes "cancelled") n
reply_json line reply.Moment = done_json line (codes "moment")
reply_json line (reply.Conditions stopped) = json.object
    (ok_members line (codes "conditions") (json.member (codes "stopped") (count stopped) json.no_members))
reply_json line (reply.Pruned n) = counted_json line (codes "pruned") n
reply_json line (reply.Query works) = json.object (ok_members line (codes "query") (json.member (codes "works") (infos works) json.no_members))
reply_json line (reply.Observing observer works) = json.object
    (json.member (codes "line") (count line)
    (json.member (codes "observer") (count observer)
    (json.member (codes "ok") (json.string (codes "observing"))
    (json.member (codes "works") (infos works) json.no_members))))
reply_json line (reply.Retired dropped) = json.object
    (json.member (codes "dropped") (count dropped) (ok_members line (codes "retired") json.no_members))
reply_json line reply.Settled = done_json line (codes "settled")
reply_json line reply.Hushed = json.null
reply_json line (reply.Summary counts) = summary_json line counts
reply_json line (reply.Refused found) = json.object (with_refusal found (refused_members line found))

-- a line: compact JSON, keys in ascending byte order, and LF
abbrev pub reply_text : ℕ → Reply → List ℕ
reply_text line answer = compact_text (reply_json line answer) ++ 10 ∷ []

-- whether a reply is written, where the state after it is hushed or isn't: that of `hush` never, that of `summary` always, and every
-- other one where it isn't
abbrev pub is_written : Reply → Bool → Bool
is_written reply.Hushed hushed = false
is_written (reply.Summary counts) hushed = true
is_written _ hushed = not hushed

-- ---- notes

-- a note, as JSON
abbrev pub note_json : Note → json.Data
note_json (note.Info observer info) = json.object
    (json.member (codes "info") (info_json info) (json.member (codes "note") (count observer) json.no_members))
note_json (note.Gone observer seq) = json.object
    (json.member (codes "gone") (count seq) (json.member (codes "note") (count observer) json.no_members))

-- a line, as that of a reply
abbrev pub note_text : Note → List ℕ
note_text told = compact_text (note_json told) ++ 10 ∷ []

abbrev pub notes_text : List Note → List ℕ
notes_text [] = []
notes_text (told ∷ notes) = note_text told ++ notes_text notes

-- ---- events

-- the text of a reply, where it is written
abbrev pub answer_text : Event → Bool → List ℕ
answer_text (event.Command line asked answer) hushed = if is_written answer hushed then reply_text line answer else []
answer_text _ hushed = []

-- the text of an event with its notes, where the state after it is hushed or isn't: the reply to a line, where it is written, and then the notes,
-- which are where it isn't hushed
unfoldable pub text_of : Event → List Note → Bool → List ℕ
text_of e notes hushed = answer_text e hushed ++ (if hushed then [] else notes_text notes)

-- what is written for an event in a state, with the state after it
abbrev pub event_text : State → Event → State → List ℕ
event_text s e t = text_of e (notes_between s t) t.hushed

-- what is written for a log, from a first state on
abbrev pub log_text : State → List Event → List ℕ
log_text first [] = []
log_text first (e ∷ log) = event_text first e (after first e) ++ log_text (after first e) log

-- what is written for the last event of a log
abbrev pub last_text : State → List Event → List ℕ
last_text first [] = []
last_text first (e ∷ []) = event_text first e (after first e)
last_text first (e ∷ later ∷ log) = last_text (after first e) (later ∷ log)
