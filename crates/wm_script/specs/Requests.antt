-- The request that a work of a line asks for, and the work after those that it names.
use Rattle.std.specs.Prelude.{ℕ, List, [], ◌∷◌, codes, is_none, if◌then◌else◌, Option, Some, None, option_map, Result, Ok, Err}
use Rattle.serde_json.specs.Data as json
use Rattle.serde_json.specs.Find.{get}
use Rattle.wm_data.specs.DataRead.{read_data}
use Rattle.wm_data.specs.declared.data.DataEntry.{DataEntry}
use Rattle.wm_data.specs.declared.fault.DataFault.{DataFault}
use Rattle.wm_request.specs.Building.{backoff_of, built_of, with_tag}
use Rattle.wm_request.specs.Requests.{RequestFields}
use Rattle.wm_request.specs.declared.request.NextRun.{NextRun}
use Rattle.wm_request.specs.declared.request.NextRun.TheVariants.{Leave}
use Rattle.wm_request.specs.declared.request.Node.{Node}
use Rattle.wm_schedule.specs.Clamped.{clamped_period}
use Rattle.wm_script.specs.Parts.{◌>>=◌, formed, list_at, of_data, of_request, or_fault}
use Rattle.wm_script.specs.Values.{id_part, text_part}
use Rattle.wm_script.specs.Works.{work_of, PeriodForm, WorkForm}
use Rattle.wm_script.specs.declared.parts.Unread.{Unread}
use Rattle.wm_script.specs.declared.parts.Unread.TheVariants.{Form}

-- tags with more of them, one after another
abbrev pub with_tags : List (List ℕ) → List (List ℕ) → List (List ℕ)
with_tags [] tags = tags
with_tags (tag ∷ more) tags = with_tags more (with_tag tag tags)

-- what is asked of the next run, where work is periodic
abbrev pub next_of : Option PeriodForm → NextRun
next_of None = Leave
next_of (Some period) = period.next

-- what is asked for by a work with these tags and this input
abbrev pub asked_for : WorkForm → List (List ℕ) → List DataEntry → RequestFields
asked_for work tags input = record {
  id = work.id;
  class = work.class;
  input = input;
  merger = work.merger;
  tags = with_tags tags [];
  constraints = work.constraints;
  backoff = backoff_of work.backoff.policy work.backoff.delay;
  initial_delay = work.delay;
  period = option_map (λ p. clamped_period p.period p.flex) work.period;
  keep = work.keep;
  next = next_of work.period;
}

-- the Data of an input, which is empty where there is none
abbrev pub input_in : Option json.Data → Result (List DataEntry) DataFault
input_in None = Ok []
input_in (Some d) = read_data d

-- A work after those that it names, or its first fault: its form comes first, then its input, then what its request has.
unfoldable pub node_in : json.Data → Result Node Unread
node_in d = do
  work ← formed (work_of d)
  tags ← list_at text_part (get (codes "tags") d)
  after ← list_at id_part (get (codes "after") d)
  input ← or_fault of_data (input_in work.input)
  request ← or_fault of_request (built_of (asked_for work tags input))
  Ok (record { request = request; after = after })

-- the request of a work without the key `after`
unfoldable pub request_in : json.Data → Result RequestFields Unread
request_in d = if is_none (get (codes "after") d) then (do
  node ← node_in d
  Ok node.request) else Err Form
