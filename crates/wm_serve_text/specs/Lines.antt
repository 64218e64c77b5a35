-- What the lines of a session say: six names of its own, those of a test driver's asks that need no clock, and the commands of
-- `wm_script/specs/Lines.antt`. This project's own.
use Rattle.std.specs.Prelude.{ℕ, List, [], ◌∷◌, codes, if◌then◌else◌, Option, Some, None, option_and_then, option_map, Result, Ok, Err}
use Rattle.std.specs.Map.{lookup}
use Rattle.std.specs.Str.{bytes_eq}
use Rattle.serde_json.specs.Data as json
use Rattle.serde_json.specs.Find.{as_str, get}
use Rattle.wm_machine.specs.declared.command.Command.{Command}
use Rattle.wm_machine.specs.declared.command.Command.TheVariants as command
use Rattle.wm_machine.specs.declared.command.LineFault.{LineFault}
use Rattle.wm_machine.specs.declared.command.LineFault.TheVariants as fault
use Rattle.wm_machine.specs.declared.event.End.TheVariants as end
use Rattle.wm_machine.specs.Outcome.{IsLegalLine}
use Rattle.wm_machine.specs.declared.state.State.{State}
use Rattle.wm_script.specs.Lines.{command_of, id_under, value_of}
use Rattle.wm_script.specs.Objects.{has_only}
use Rattle.wm_serve_text.specs.Parts.{◌>>=◌, data_at, formed, progress_at, run_of, runs_in}
use Rattle.wm_serve_text.specs.declared.lines.Met.{Met}
use Rattle.wm_serve_text.specs.declared.lines.Met.TheVariants as met
use Rattle.wm_serve_text.specs.declared.lines.SessionLine.{SessionLine}
use Rattle.wm_serve_text.specs.declared.lines.SessionLine.TheVariants as line

-- ---- reports: the form of the line comes first, then its Data

abbrev pub data_keys : List (List ℕ)
data_keys = codes "cmd" ∷ codes "data" ∷ codes "run" ∷ []

-- a run goes on, and may tell its progress
unfoldable pub progress_of : json.Data → Result SessionLine LineFault
progress_of d = do
  run ← run_of data_keys d
  progress ← progress_at (get (codes "data") d)
  Ok (line.Progress run progress)

-- a run succeeded, or failed, and gave this
unfoldable pub success_of : json.Data → Result SessionLine LineFault
success_of d = do
  run ← run_of data_keys d
  output ← data_at (get (codes "data") d)
  Ok (line.Report run (end.Success output))

unfoldable pub failure_of : json.Data → Result SessionLine LineFault
failure_of d = do
  run ← run_of data_keys d
  output ← data_at (get (codes "data") d)
  Ok (line.Report run (end.Failure output))

-- a run is to be tried again
unfoldable pub retry_of : json.Data → Result SessionLine LineFault
retry_of d = do
  run ← run_of (codes "cmd" ∷ codes "run" ∷ []) d
  Ok (line.Report run end.Retry)

-- runs are still at work
unfoldable pub beat_of : json.Data → Result SessionLine LineFault
beat_of d = if has_only (codes "cmd" ∷ codes "runs" ∷ []) d then (do
  list ← formed (get (codes "runs") d)
  runs ← runs_in list
  Ok (line.Beat runs)) else Err fault.Bad

-- ---- what has no further key, or the id of a work

abbrev pub alone : SessionLine → json.Data → Result SessionLine LineFault
alone said d = if has_only (codes "cmd" ∷ []) d then Ok said else Err fault.Bad

abbrev pub id_at : json.Data → Result (List ℕ) LineFault
id_at d = formed (id_under (codes "id") d)

abbrev pub of_id : (List ℕ → Met) → json.Data → Result SessionLine LineFault
of_id asked d = do
  id ← id_at d
  Ok (line.Met (asked id))

-- ---- a line

-- the names that are no command's, each with its reader
abbrev pub readers : List (List ℕ × (json.Data → Result SessionLine LineFault))
readers =
    (codes "progress", progress_of) ∷
    (codes "success", success_of) ∷
    (codes "failure", failure_of) ∷
    (codes "retry", retry_of) ∷
    (codes "beat", beat_of) ∷
    (codes "close", alone line.Close) ∷
    (codes "delay_met", of_id met.Delay) ∷
    (codes "period_met", of_id met.Period) ∷
    (codes "constraints_met", of_id met.Constraints) ∷
    (codes "wake", alone line.Wake) ∷ []

-- what was read, or that the line has this fault
abbrev pub or_faulty : Result SessionLine LineFault → SessionLine
or_faulty (Ok said) = said
or_faulty (Err found) = line.Command (command.Faulty found)

-- what a value says that has one of these names
abbrev pub named_line : List ℕ → json.Data → Option SessionLine
named_line name d = option_map (λ (reader : json.Data → Result SessionLine LineFault). or_faulty (reader d)) (lookup (bytes_eq name) readers)

unfoldable pub said_by : json.Data → Option SessionLine
said_by d = option_and_then (λ (name : List ℕ). named_line name d) (option_and_then as_str (get (codes "cmd") d))

-- what a line says that is no command
abbrev pub own_line : List ℕ → Option SessionLine
own_line bytes = option_and_then said_by (value_of bytes)

-- the moment is the clock's, and a session doesn't wait until nothing is left to do: the commands of a script for these are bad lines
abbrev pub served : Command → Command
served (command.Moment at) = command.Faulty fault.Bad
served command.Settle = command.Faulty fault.Bad
served asked = asked

abbrev pub or_command : List ℕ → Option SessionLine → SessionLine
or_command bytes (Some said) = said
or_command bytes None = line.Command (served (command_of bytes))

-- what a line says, which is given without its LF
abbrev pub line_of : List ℕ → SessionLine
line_of bytes = or_command bytes (own_line bytes)

-- a command that a line says is legal in every state
abbrev pub IsAlwaysLegal : SessionLine → Type 0
IsAlwaysLegal (line.Command asked) = (s : State) → IsLegalLine s asked
IsAlwaysLegal _ = Unit {0}
