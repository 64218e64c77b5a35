-- No line of a session has a float, so its compact text is what `to_vec` gives.
use Rattle.std.proofs.Common.{◌≡◌, ℕ, List, Option, Some, None, false, refl}
use Rattle.serde_json.specs.Data as json
use Rattle.serde_json.specs.Written.{has_float}
use Rattle.wm_data.proofs.NoFloats.{entries_have_no_float, list_has_no_float}
use Rattle.wm_machine.specs.declared.event.Cause.{Cause}
use Rattle.wm_machine.specs.declared.event.Cause.TheVariants as cause
use Rattle.wm_machine.specs.declared.record.Record.{Record}
use Rattle.wm_machine.specs.declared.record.Shown.{Shown}
use Rattle.wm_machine.specs.declared.state.Run.{Run}
use Rattle.wm_serve_text.specs.Answers.{beat_json, run_reply_json}
use Rattle.wm_serve_text.specs.RunTexts.{failed_start_json, start_json, stop_json}
use Rattle.wm_serve_text.specs.declared.answers.RunReply.{RunReply}
use Rattle.wm_serve_text.specs.declared.answers.RunReply.TheVariants as reply

pub run_reply_has_no_float : (line : ℕ) (run : List ℕ) (answer : RunReply) → has_float (run_reply_json line run answer) ≡ false
run_reply_has_no_float line run reply.Progress = refl
run_reply_has_no_float line run reply.Reported = refl
run_reply_has_no_float line run reply.Late = refl
run_reply_has_no_float line run reply.NoTurnLeft = refl
run_reply_has_no_float line run reply.NoSuchRun = refl

pub beat_has_no_float : (line : ℕ) (gone late : List (List ℕ)) → has_float (beat_json line gone late) ≡ false
beat_has_no_float line gone late =
    rw (list_has_no_float json.string gone (λ text. refl), list_has_no_float json.string late (λ text. refl))

pub start_has_no_float : (name : List ℕ) (run : Run) (work : Record) (slot : ℕ) → has_float (start_json name run work slot) ≡ false
start_has_no_float name run work slot =
    rw (entries_have_no_float run.input, list_has_no_float json.string work.request.tags (λ text. refl))

pub failed_start_has_no_float : (id : List ℕ) (seq : ℕ) (why : Cause) → has_float (failed_start_json id seq why) ≡ false
failed_start_has_no_float id seq cause.NoWorker = refl
failed_start_has_no_float id seq (cause.Conflict key) = refl
failed_start_has_no_float id seq (cause.TooLarge size) = refl

pub stop_has_no_float : (name : List ℕ) (state : Option Shown) → has_float (stop_json name state) ≡ false
stop_has_no_float name None = refl
stop_has_no_float name (Some state) = refl
