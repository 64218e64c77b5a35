-- A query as it stands in a line. The names of the states are those of `androidx.work.WorkInfo.State`; the grammar is this project's own choice.
use Rattle.std.specs.Prelude.{ℕ, List, [], ◌∷◌, codes, if◌then◌else◌, Option, Result, Ok, Err}
use Rattle.serde_json.specs.Data as json
use Rattle.serde_json.specs.Find.{get}
use Rattle.wm_machine.specs.declared.record.Shown.{Shown}
use Rattle.wm_machine.specs.declared.record.Shown.TheVariants as shown
use Rattle.wm_machine.specs.declared.state.WorkQuery.{WorkQuery}
use Rattle.wm_script.specs.Objects.{has_only}
use Rattle.wm_script.specs.Parts.{◌>>=◌, formed, list_at}
use Rattle.wm_script.specs.Values.{id_part, named_in, text_part}
use Rattle.wm_script.specs.declared.parts.Unread.{Unread}
use Rattle.wm_script.specs.declared.parts.Unread.TheVariants.{Form}

-- ---- states

abbrev pub states : List (List ℕ × Shown)
states =
    (codes "ENQUEUED", shown.Enqueued) ∷
    (codes "RUNNING", shown.Running) ∷
    (codes "SUCCEEDED", shown.Succeeded) ∷
    (codes "FAILED", shown.Failed) ∷
    (codes "BLOCKED", shown.Blocked) ∷
    (codes "CANCELLED", shown.Cancelled) ∷ []

-- a state by its name
unfoldable pub state_in : json.Data → Option Shown
state_in d = named_in states d

-- the same as an item of a list
abbrev pub state_part : json.Data → Result Shown Unread
state_part d = formed (state_in d)

-- ---- a query

abbrev pub query_keys : List (List ℕ)
query_keys = codes "cmd" ∷ codes "ids" ∷ codes "names" ∷ codes "states" ∷ codes "tags" ∷ []

-- the query that an object is: each of its lists stands as it is given, and is empty where it is absent
unfoldable pub query_in : json.Data → Result WorkQuery Unread
query_in d = if has_only query_keys d then (do
  ids ← list_at id_part (get (codes "ids") d)
  names ← list_at text_part (get (codes "names") d)
  states ← list_at state_part (get (codes "states") d)
  tags ← list_at text_part (get (codes "tags") d)
  Ok (record { ids = ids; names = names; states = states; tags = tags })) else Err Form
