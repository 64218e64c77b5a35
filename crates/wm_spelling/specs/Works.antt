-- A work as it is spelled: each key with its value, those with their defaults too. The keys ascend.
use Rattle.std.specs.Prelude.{ℕ, List, codes, Option, Some, None}
use Rattle.serde_json.specs.Data as json
use Rattle.uuid.specs.Text.{hyphenated_text, lower}
use Rattle.wm_conditions.specs.declared.conditions.Constraints.{Constraints}
use Rattle.wm_data.specs.DataJson.{data_json, list_of}
use Rattle.wm_request.specs.Requests.{RequestFields}
use Rattle.wm_request.specs.declared.request.NextRun.{NextRun}
use Rattle.wm_request.specs.declared.request.NextRun.TheVariants.{Leave, At, Clear}
use Rattle.wm_request.specs.declared.request.Node.{Node}
use Rattle.wm_schedule.specs.declared.schedule.Backoff.{Backoff}
use Rattle.wm_schedule.specs.declared.schedule.Period.{Period}
use Rattle.wm_spelling.specs.Names.{backoff_name, merger_name, network_name}

-- ---- single values

abbrev pub count : ℕ → json.Data
count n = json.number (json.unsigned n)

-- an id, hyphenated and in lower case
abbrev pub id_json : List ℕ → json.Data
id_json id = json.string (hyphenated_text lower id)

abbrev pub ids_json : List (List ℕ) → json.Data
ids_json ids = list_of id_json ids

abbrev pub texts_json : List (List ℕ) → json.Data
texts_json texts = list_of json.string texts

abbrev pub backoff_json : Backoff → json.Data
backoff_json backoff = json.object
    (json.member (codes "delay") (count backoff.delay)
    (json.member (codes "policy") (json.string (backoff_name backoff.policy)) json.no_members))

abbrev pub constraints_json : Constraints → json.Data
constraints_json constraints = json.object
    (json.member (codes "battery_not_low") (json.boolean constraints.battery_not_low)
    (json.member (codes "charging") (json.boolean constraints.charging)
    (json.member (codes "idle") (json.boolean constraints.idle)
    (json.member (codes "network") (json.string (network_name constraints.network))
    (json.member (codes "storage_not_low") (json.boolean constraints.storage_not_low) json.no_members)))))

-- ---- a work

-- what is spelled of every work
abbrev pub work_members : RequestFields → json.Members
work_members request =
    json.member (codes "backoff") (backoff_json request.backoff)
    (json.member (codes "class") (json.string request.class)
    (json.member (codes "constraints") (constraints_json request.constraints)
    (json.member (codes "delay") (count request.initial_delay)
    (json.member (codes "id") (id_json request.id)
    (json.member (codes "input") (data_json request.input)
    (json.member (codes "keep") (count request.keep)
    (json.member (codes "merger") (json.string (merger_name request.merger))
    (json.member (codes "tags") (texts_json request.tags) json.no_members))))))))

-- the members, with the period and the flex interval of periodic work
abbrev pub with_period : Option Period → json.Members → json.Members
with_period None members = members
with_period (Some period) members = json.put (codes "flex") (count period.flex) (json.put (codes "period") (count period.period) members)

-- the members, with the moment of the next run, or null where it is cleared
abbrev pub with_next : NextRun → json.Members → json.Members
with_next Leave members = members
with_next (At moment) members = json.put (codes "next") (count moment) members
with_next Clear members = json.put (codes "next") json.null members

abbrev pub request_members : RequestFields → json.Members
request_members request = with_next request.next (with_period request.period (work_members request))

-- a work without those that it is after
abbrev pub request_json : RequestFields → json.Data
request_json request = json.object (request_members request)

-- a work with those that it is after
abbrev pub node_json : Node → json.Data
node_json node = json.object (json.put (codes "after") (ids_json node.after) (request_members node.request))
