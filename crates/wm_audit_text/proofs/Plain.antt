-- No line of an audit has a float, and none nests deep.
use Rattle.std.proofs.Common.{◌≡◌, ℕ, ℤ, pos, negsuc, ◌≤◌, false, List, Option, Some, None, refl, arith}
use Rattle.serde_json.specs.Data as json
use Rattle.serde_json.specs.Data.{depth, members_depth}
use Rattle.serde_json.specs.Written.{has_float, members_have_float}
use Rattle.wm_audit_text.specs.Entries.{entry_json, event_json, failed_json, finish_json, turn_json}
use Rattle.wm_audit_text.specs.Headers.{hand_json, header_json}
use Rattle.wm_audit_text.specs.StoredRows.{row_json, with_asked, with_moments, with_name, with_standing, with_texts}
use Rattle.wm_audit_text.specs.declared.entry.Entry.{Entry}
use Rattle.wm_audit_text.specs.declared.entry.Entry.TheVariants as entry
use Rattle.wm_data.proofs.NoFloats.{entries_have_no_float, list_has_no_float}
use Rattle.wm_data.specs.DataJson.{whole}
use Rattle.wm_data.specs.declared.data.DataEntry.{DataEntry}
use Rattle.wm_keeper.specs.declared.row.Row.{Row}
use Rattle.wm_machine.specs.declared.event.Cause.{Cause}
use Rattle.wm_machine.specs.declared.event.Cause.TheVariants.{NoWorker, Conflict, TooLarge}
use Rattle.wm_machine.specs.declared.event.End.{End}
use Rattle.wm_machine.specs.declared.event.End.TheVariants.{Success, Failure, Retry}
use Rattle.wm_machine.specs.declared.event.Event.{Event}
use Rattle.wm_machine.specs.declared.event.Event.TheVariants as event
use Rattle.wm_machine.specs.declared.state.Instance.{Instance}
use Rattle.wm_spelling.proofs.Shallow.{shallow-data, shallow-list, shallow-texts, spelled_has_no_float, spelled_is_shallow}

-- ---- an event

plain-failed : (seq : ℕ) (cause : Cause) → has_float (failed_json seq cause) ≡ false
plain-failed seq NoWorker = refl
plain-failed seq (Conflict key) = refl
plain-failed seq (TooLarge size) = refl

plain-turn : (run : ℕ) (progress : Option (List DataEntry)) → has_float (turn_json run progress) ≡ false
plain-turn run None = refl
plain-turn run (Some progress) = rw (entries_have_no_float progress) refl

plain-finish : (run : ℕ) (end : End) → has_float (finish_json run end) ≡ false
plain-finish run (Success output) = rw (entries_have_no_float output) refl
plain-finish run (Failure output) = rw (entries_have_no_float output) refl
plain-finish run Retry = refl

pub event_is_plain : (e : Event) → has_float (event_json e) ≡ false
event_is_plain (event.Command line asked reply) = rw (spelled_has_no_float asked) refl
event_is_plain (event.Start run seq instance input) = rw (entries_have_no_float input) refl
event_is_plain (event.StartFailed seq cause) = plain-failed seq cause
event_is_plain (event.Turn run progress) = plain-turn run progress
event_is_plain (event.Finish run end) = plain-finish run end
event_is_plain (event.TimedOut run) = refl
event_is_plain (event.Late run) = refl

pub entry_is_plain : (told : Entry) → has_float (entry_json told) ≡ false
entry_is_plain (entry.Command line asked) = rw (spelled_has_no_float asked) refl
entry_is_plain (entry.Run e) = event_is_plain e

shallow-failed : (seq : ℕ) (cause : Cause) → depth (failed_json seq cause) ≤ 127
shallow-failed seq NoWorker = omega arith
shallow-failed seq (Conflict key) = omega arith
shallow-failed seq (TooLarge size) = omega arith

shallow-turn : (run : ℕ) (progress : Option (List DataEntry)) → depth (turn_json run progress) ≤ 127
shallow-turn run None = omega arith
shallow-turn run (Some progress) = omega (arith, shallow-data progress)

shallow-finish : (run : ℕ) (end : End) → depth (finish_json run end) ≤ 127
shallow-finish run (Success output) = omega (arith, shallow-data output)
shallow-finish run (Failure output) = omega (arith, shallow-data output)
shallow-finish run Retry = omega arith

pub event_is_shallow : (e : Event) → depth (event_json e) ≤ 127
event_is_shallow (event.Command line asked reply) = omega (arith, spelled_is_shallow asked)
event_is_shallow (event.Start run seq instance input) = omega (arith, shallow-data input)
event_is_shallow (event.StartFailed seq cause) = shallow-failed seq cause
event_is_shallow (event.Turn run progress) = shallow-turn run progress
event_is_shallow (event.Finish run end) = shallow-finish run end
event_is_shallow (event.TimedOut run) = omega arith
event_is_shallow (event.Late run) = omega arith

-- ---- a row

plain-whole : (n : ℤ) → has_float (whole n) ≡ false
plain-whole (pos n) = refl
plain-whole (negsuc n) = refl

-- the members of a row without its name
abbrev rest_members : Row → json.Members
rest_members row = with_texts row (with_moments row (with_standing row (with_asked row json.no_members)))

plain-rest : (row : Row) → members_have_float (rest_members row) ≡ false
plain-rest row =
    rw (
      plain-whole row.version,
      plain-whole row.seq,
      plain-whole row.kind,
      plain-whole row.period,
      plain-whole row.flex,
      plain-whole row.delay,
      plain-whole row.policy,
      plain-whole row.wait,
      plain-whole row.merger,
      plain-whole row.network,
      plain-whole row.flags,
      plain-whole row.phase,
      plain-whole row.attempt,
      plain-whole row.backoff_n,
      plain-whole row.runs,
      plain-whole row.generation,
      plain-whole row.enqueued_at,
      plain-whole row.next_at,
      plain-whole row.keep_for,
      plain-whole row.finished_at,
      list_has_no_float whole row.prior plain-whole,
      list_has_no_float json.string row.tags (λ text. refl),
    ) refl

plain-named : (name : Option (List ℕ)) (row : Row) → members_have_float (with_name name (rest_members row)) ≡ false
plain-named None row = plain-rest row
plain-named (Some name) row = plain-rest row

pub row_is_plain : (row : Row) → has_float (row_json row) ≡ false
row_is_plain row = rw (plain-named row.name row) refl

shallow-rest : (row : Row) → members_depth (rest_members row) ≤ 1
shallow-rest row = omega (arith, shallow-list whole 0 row.prior (λ n. omega arith), shallow-texts row.tags)

shallow-named : (name : Option (List ℕ)) (row : Row) → members_depth (with_name name (rest_members row)) ≤ 1
shallow-named None row = shallow-rest row
shallow-named (Some name) row = omega (arith, shallow-rest row)

pub row_is_shallow : (row : Row) → depth (row_json row) ≤ 127
row_is_shallow row = omega (arith, shallow-named row.name row)

-- ---- a header and an end

pub header_is_plain : (hands : List Instance) (rows : ℕ) → has_float (header_json hands rows) ≡ false
header_is_plain hands rows = rw (list_has_no_float hand_json hands (λ hand. refl)) refl

pub header_is_shallow : (hands : List Instance) (rows : ℕ) → depth (header_json hands rows) ≤ 127
header_is_shallow hands rows = omega (arith, shallow-list hand_json 1 hands (λ hand. omega arith))
