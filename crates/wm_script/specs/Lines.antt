-- The commands that the lines of a script are. The grammar is this project's own choice; which value
-- the bytes of a line have is `serde_json`'s reading.
use Rattle.std.specs.Prelude.{ℕ, ◌==◌, Bool, true, false, List, [], ◌∷◌, map, codes, if◌then◌else◌, Option, Some, None, Result, Ok, Err, option_and_then, option_map, unwrap_or}
use Rattle.std.specs.Map.{lookup}
use Rattle.std.specs.Option.{option_or}
use Rattle.std.specs.Str.{bytes_eq, is_utf8}
use Rattle.serde_json.specs.Data as json
use Rattle.serde_json.specs.Find.{as_bool, as_str, get}
use Rattle.serde_json.specs.Read.{read}
use Rattle.wm_machine.specs.declared.command.Command.{Command}
use Rattle.wm_machine.specs.declared.command.Command.TheVariants.{Cancel, Conditions, Enqueue, Faulty, Hush, Moment, Observe, Prune, Query, Retire, Settle, Summary, Update}
use Rattle.wm_machine.specs.declared.command.LineFault.TheVariants as fault
use Rattle.wm_machine.specs.declared.command.Target.{Target}
use Rattle.wm_machine.specs.declared.command.Target.TheVariants.{All, Id, Name, Tag}
use Rattle.wm_script.specs.Batches.{batch_in}
use Rattle.wm_script.specs.Conditions.{conditions_in}
use Rattle.wm_script.specs.Names.{named_by}
use Rattle.wm_script.specs.Objects.{has_only}
use Rattle.wm_script.specs.Parts.{◌>>=◌, formed}
use Rattle.wm_script.specs.Queries.{query_in}
use Rattle.wm_script.specs.Requests.{request_in}
use Rattle.wm_script.specs.Values.{id_in, short_in, whole_in}
use Rattle.wm_script.specs.declared.parts.Unread.{Unread}
use Rattle.wm_script.specs.declared.parts.Unread.TheVariants.{Form, Fault}

-- ---- the cut

-- a byte in front of the first line
abbrev pub onto_first : ℕ → List (List ℕ) → List (List ℕ)
onto_first byte [] = (byte ∷ []) ∷ []
onto_first byte (line ∷ lines) = (byte ∷ line) ∷ lines

-- The lines of a script, cut at each LF. A last line without LF counts, and nothing after the last
-- LF is no line.
abbrev pub cut : List ℕ → List (List ℕ)
cut [] = []
cut (byte ∷ bytes) = if byte == 10 then [] ∷ cut bytes else onto_first byte (cut bytes)

-- ---- no further key, or one

-- a command that has no further key
abbrev pub alone : Command → json.Data → Result Command Unread
alone command d = if has_only (codes "cmd" ∷ []) d then Ok command else Err Form

-- the value of the one further key that a command has
unfoldable pub one_key : List ℕ → json.Data → Option json.Data
one_key key d = if has_only (codes "cmd" ∷ key ∷ []) d then get key d else None

-- an id under the one further key
unfoldable pub id_under : List ℕ → json.Data → Option (List ℕ)
id_under key d = option_and_then id_in (one_key key d)

-- a text of 1 to 200 bytes under the one further key
unfoldable pub text_under : List ℕ → json.Data → Option (List ℕ)
text_under key d = option_and_then short_in (one_key key d)

-- a number of milliseconds under the one further key
unfoldable pub whole_under : List ℕ → json.Data → Option ℕ
whole_under key d = option_and_then whole_in (one_key key d)

-- ---- an enqueue and an update

abbrev pub enqueue_keys : List (List ℕ)
enqueue_keys = codes "cmd" ∷ codes "layers" ∷ codes "name" ∷ codes "policy" ∷ codes "works" ∷ []

unfoldable pub enqueue_of : json.Data → Result Command Unread
enqueue_of d = if has_only enqueue_keys d then (do
  named ← named_by (get (codes "name") d) (get (codes "policy") d)
  batch ← batch_in (get (codes "works") d) (get (codes "layers") d)
  Ok (Enqueue named batch)) else Err Form

-- the work of an update has the id of the one that it is for
unfoldable pub update_of : json.Data → Result Command Unread
update_of d = do
  work ← formed (one_key (codes "work") d)
  request ← request_in work
  Ok (Update request)

-- ---- a cancel

-- by an id, by a tag, by a name
abbrev pub by_id : json.Data → Option Target
by_id d = option_map Id (id_under (codes "id") d)

abbrev pub by_tag : json.Data → Option Target
by_tag d = option_map Tag (text_under (codes "tag") d)

abbrev pub by_name : json.Data → Option Target
by_name d = option_map Name (text_under (codes "name") d)

-- of all: the one further key is `all`, which is true
unfoldable pub is_of_all : json.Data → Bool
is_of_all d = unwrap_or (option_and_then as_bool (one_key (codes "all") d)) false

abbrev pub of_all : json.Data → Option Target
of_all d = if is_of_all d then Some All else None

-- which works a cancel is for
unfoldable pub target_of : json.Data → Option Target
target_of d = option_or (by_id d) (option_or (by_tag d) (option_or (by_name d) (of_all d)))

abbrev pub cancel_of : json.Data → Result Command Unread
cancel_of d = do
  target ← formed (target_of d)
  Ok (Cancel target)

-- ---- a prune

-- whether a prune is by force: its one further key is `force`, which may be absent, and else is true
unfoldable pub force_at : Option json.Data → Option Bool
force_at None = Some false
force_at (Some d) = if unwrap_or (as_bool d) false then Some true else None

unfoldable pub prune_of : json.Data → Result Command Unread
prune_of d = if has_only (codes "cmd" ∷ codes "force" ∷ []) d then (do
  force ← formed (force_at (get (codes "force") d))
  Ok (Prune force)) else Err Form

-- ---- the moment, the conditions, a query, a retire and an observe

abbrev pub moment_of : json.Data → Result Command Unread
moment_of d = do
  at ← formed (whole_under (codes "at") d)
  Ok (Moment at)

abbrev pub conditions_of : json.Data → Result Command Unread
conditions_of d = do
  conditions ← formed (conditions_in d)
  Ok (Conditions conditions)

abbrev pub query_of : json.Data → Result Command Unread
query_of d = do
  query ← query_in d
  Ok (Query query)

abbrev pub retire_of : json.Data → Result Command Unread
retire_of d = do
  class ← formed (text_under (codes "class") d)
  Ok (Retire class)

abbrev pub observe_of : json.Data → Result Command Unread
observe_of d = do
  query ← query_in d
  Ok (Observe query)

-- ---- a line

-- the value that the bytes of a line have
abbrev pub value_of : List ℕ → Option json.Data
value_of line = if is_utf8 line then read line else None

-- the commands by their names, each with its reader
abbrev pub readers : List (List ℕ × (json.Data → Result Command Unread))
readers =
    (codes "enqueue", enqueue_of) ∷
    (codes "cancel", cancel_of) ∷
    (codes "update", update_of) ∷
    (codes "moment", moment_of) ∷
    (codes "conditions", conditions_of) ∷
    (codes "prune", prune_of) ∷
    (codes "settle", alone Settle) ∷
    (codes "hush", alone Hush) ∷
    (codes "summary", alone Summary) ∷
    (codes "query", query_of) ∷
    (codes "retire", retire_of) ∷
    (codes "observe", observe_of) ∷ []

-- what a value of this name asks for
abbrev pub named_command : List ℕ → json.Data → Result Command Unread
named_command name d = do
  reader ← formed (lookup (bytes_eq name) readers)
  reader d

-- what a value asks for
unfoldable pub asked_by : json.Data → Result Command Unread
asked_by d = do
  name ← formed (option_and_then as_str (get (codes "cmd") d))
  named_command name d

-- what a line asks for
abbrev pub asked_in : List ℕ → Result Command Unread
asked_in line = do
  d ← formed (value_of line)
  asked_by d

-- the command that is asked for, or that of its fault; no reading answers want of memory
abbrev pub or_faulty : Result Command Unread → Command
or_faulty (Ok command) = command
or_faulty (Err (Fault found)) = Faulty found
or_faulty (Err _) = Faulty fault.Bad

-- the command of a line
unfoldable pub command_of : List ℕ → Command
command_of line = or_faulty (asked_in line)

-- the commands of a script
abbrev pub commands_in : List ℕ → List Command
commands_in bytes = map command_of (cut bytes)
