-- An event is read from its line, but for the reply to a command.
use Rattle.std.proofs.Common.{◌≡◌, ℕ, ◌^◌, ◌<◌, List, Some, None, refl}
use Rattle.std.specs.Prelude.{codes}
use Rattle.wm_audit_text.proofs.LineValues.{read_by-text}
use Rattle.wm_audit_text.proofs.ReadFields.{data-read, small-read}
use Rattle.wm_audit_text.specs.Entries.{entry_in, entry_json, entry_of, event_json, failed_json, finish_json, start_json, turn_json}
use Rattle.wm_audit_text.specs.Fields.{number_at, text_at, text_in}
use Rattle.wm_audit_text.specs.Lines.{entry_at, event_line, HasCanonical, IsTold}
use Rattle.wm_audit_text.specs.Ranges.{IsInRange}
use Rattle.wm_data.proofs.ReadBack.{read_data-data_json}
use Rattle.wm_data.specs.Size.{IsData}
use Rattle.wm_data.specs.declared.data.DataEntry.{DataEntry}
use Rattle.wm_machine.specs.declared.event.Cause.{Cause}
use Rattle.wm_machine.specs.declared.event.Cause.TheVariants.{NoWorker, Conflict, TooLarge}
use Rattle.wm_machine.specs.declared.event.End.TheVariants.{Success, Failure, Retry}
use Rattle.wm_machine.specs.declared.event.Event.{Event}
use Rattle.wm_machine.specs.declared.event.Event.TheVariants as event
use Rattle.wm_script.specs.Lines.{value_of}
use Rattle.wm_spelling.specs.Commands.{IsCanonical}
use Rattle.wm_machine.specs.declared.command.Command.{Command}
use Rattle.wm_machine.specs.declared.reply.Reply.{Reply}

command-told : (line : ℕ) (asked : Command) (reply : Reply) → line < 2 ^ 32 → IsCanonical asked
    → entry_in (event_json (event.Command line asked reply)) ≡ Some (entry_of (event.Command line asked reply))
unfolding entry_in text_at text_in
command-told line asked reply below is =
    let d = event_json (event.Command line asked reply) in
    rw (small-read (codes "line") d line below refl, is) refl

start-told : (run seq instance : ℕ) (input : List DataEntry) → instance < 2 ^ 32 → IsData input
    → entry_in (start_json run seq instance input) ≡ Some (entry_of (event.Start run seq instance input))
unfolding entry_in text_at text_in number_at
start-told run seq instance input below is =
    let d = start_json run seq instance input in
    rw (small-read (codes "instance") d instance below refl, data-read (codes "input") d input is refl) refl

failed-told : (seq : ℕ) (cause : Cause) → entry_in (failed_json seq cause) ≡ Some (entry_of (event.StartFailed seq cause))
unfolding entry_in text_at text_in number_at
failed-told seq NoWorker = refl
failed-told seq (Conflict key) = refl
failed-told seq (TooLarge size) = refl

turn-plain : (run : ℕ) → entry_in (turn_json run None) ≡ Some (entry_of (event.Turn run None))
unfolding entry_in text_at text_in number_at
turn-plain run = refl

turn-told : (run : ℕ) (progress : List DataEntry) → IsData progress → entry_in (turn_json run (Some progress)) ≡ Some (entry_of (event.Turn run (Some progress)))
unfolding entry_in text_at text_in number_at
turn-told run progress is = rw (read_data-data_json progress is) refl

success-told : (run : ℕ) (output : List DataEntry) → IsData output → entry_in (finish_json run (Success output)) ≡ Some (entry_of (event.Finish run (Success output)))
unfolding entry_in text_at text_in number_at
success-told run output is =
    let d = finish_json run (Success output) in
    rw (data-read (codes "output") d output is refl) refl

failure-told : (run : ℕ) (output : List DataEntry) → IsData output → entry_in (finish_json run (Failure output)) ≡ Some (entry_of (event.Finish run (Failure output)))
unfolding entry_in text_at text_in number_at
failure-told run output is =
    let d = finish_json run (Failure output) in
    rw (data-read (codes "output") d output is refl) refl

retry-told : (run : ℕ) → entry_in (finish_json run Retry) ≡ Some (entry_of (event.Finish run Retry))
unfolding entry_in text_at text_in number_at
retry-told run = refl

timed_out-told : (run : ℕ) → entry_in (event_json (event.TimedOut run)) ≡ Some (entry_of (event.TimedOut run))
unfolding entry_in text_at text_in number_at
timed_out-told run = refl

late-told : (run : ℕ) → entry_in (event_json (event.Late run)) ≡ Some (entry_of (event.Late run))
unfolding entry_in text_at text_in number_at
late-told run = refl

entry-told : (e : Event) → IsInRange e → HasCanonical e → entry_in (event_json e) ≡ Some (entry_of e)
entry-told (event.Command line asked reply) is canonical = command-told line asked reply is canonical
entry-told (event.Start run seq instance input) is canonical = start-told run seq instance input is.0 is.1
entry-told (event.StartFailed seq cause) is canonical = failed-told seq cause
entry-told (event.Turn run None) is canonical = turn-plain run
entry-told (event.Turn run (Some progress)) is canonical = turn-told run progress is
entry-told (event.Finish run (Success output)) is canonical = success-told run output is
entry-told (event.Finish run (Failure output)) is canonical = failure-told run output is
entry-told (event.Finish run Retry) is canonical = retry-told run
entry-told (event.TimedOut run) is canonical = timed_out-told run
entry-told (event.Late run) is canonical = late-told run

same_json : (e : Event) → entry_json (entry_of e) ≡ event_json e
same_json (event.Command line asked reply) = refl
same_json (event.Start run seq instance input) = refl
same_json (event.StartFailed seq cause) = refl
same_json (event.Turn run progress) = refl
same_json (event.Finish run end) = refl
same_json (event.TimedOut run) = refl
same_json (event.Late run) = refl

pub IsTold-event : (e : Event) → IsInRange e → value_of (event_line e) ≡ Some (event_json e) → HasCanonical e → IsTold e
unfolding entry_at
IsTold-event e is value canonical =
    let same = same_json e in
    let text = read_by-text entry_json entry_in (entry_of e) (rw same value) (rw same (entry-told e is canonical)) in
    rw same at text
