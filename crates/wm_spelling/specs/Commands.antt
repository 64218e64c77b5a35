-- The one spelling of a command as JSON, and the command that such a spelling is read as. Every key is written with its value, those with
-- their defaults too, and the keys ascend.
use Rattle.std.specs.Prelude.{◌≡◌, ℕ, Bool, true, false, List, codes, Option, Some, None}
use Rattle.serde_json.specs.Data as json
use Rattle.wm_conditions.specs.declared.conditions.Conditions.{Conditions}
use Rattle.wm_data.specs.DataJson.{list_of}
use Rattle.wm_machine.specs.declared.command.Command.{Command}
use Rattle.wm_machine.specs.declared.command.Command.TheVariants as command
use Rattle.wm_machine.specs.declared.command.LineFault.{LineFault}
use Rattle.wm_machine.specs.declared.command.Target.{Target}
use Rattle.wm_machine.specs.declared.command.Target.TheVariants.{All, Id, Name, Tag}
use Rattle.wm_machine.specs.declared.command.UniqueName.{UniqueName}
use Rattle.wm_machine.specs.declared.record.Shown.{Shown}
use Rattle.wm_machine.specs.declared.state.WorkQuery.{WorkQuery}
use Rattle.wm_request.specs.declared.request.Node.{Node}
use Rattle.wm_script.specs.Lines.{asked_by, or_faulty}
use Rattle.wm_spelling.specs.Faults.{fault_json, fault_of}
use Rattle.wm_spelling.specs.Names.{policy_name, state_name}
use Rattle.wm_spelling.specs.Works.{count, id_json, ids_json, node_json, request_json, texts_json}

-- ---- written

-- the name of the command, and then these
abbrev pub cmd_members : List ℕ → json.Members → json.Members
cmd_members name more = json.member (codes "cmd") (json.string name) more

-- a command without a further key
abbrev pub alone_json : List ℕ → json.Data
alone_json name = json.object (cmd_members name json.no_members)

-- a command with one further key, which comes after its name
abbrev pub with_key : List ℕ → List ℕ → json.Data → json.Data
with_key name key d = json.object (cmd_members name (json.member key d json.no_members))

-- a command with one further key, which comes before its name
abbrev pub under_key : List ℕ → json.Data → List ℕ → json.Data
under_key key d name = json.object (json.member key d (cmd_members name json.no_members))

-- the works of an enqueue, each with those that it is after
abbrev pub works_json : List Node → json.Data
works_json works = list_of node_json works

-- works under a unique name, with its policy
abbrev pub named_enqueue : UniqueName → json.Data → json.Data
named_enqueue unique works = json.object
    (cmd_members (codes "enqueue")
    (json.member (codes "name") (json.string unique.name)
    (json.member (codes "policy") (json.string (policy_name unique.policy))
    (json.member (codes "works") works json.no_members))))

-- works under a unique name, where there is one
abbrev pub enqueue_json : Option UniqueName → List Node → json.Data
enqueue_json None works = with_key (codes "enqueue") (codes "works") (works_json works)
enqueue_json (Some unique) works = named_enqueue unique (works_json works)

abbrev pub cancel_json : Target → json.Data
cancel_json (Id id) = with_key (codes "cancel") (codes "id") (id_json id)
cancel_json (Tag tag) = with_key (codes "cancel") (codes "tag") (json.string tag)
cancel_json (Name name) = with_key (codes "cancel") (codes "name") (json.string name)
cancel_json All = under_key (codes "all") (json.boolean true) (codes "cancel")

abbrev pub conditions_json : Conditions → json.Data
conditions_json conditions = json.object
    (json.member (codes "battery_low") (json.boolean conditions.battery_low)
    (json.member (codes "charging") (json.boolean conditions.charging)
    (cmd_members (codes "conditions")
    (json.member (codes "connected") (json.boolean conditions.connected)
    (json.member (codes "idle") (json.boolean conditions.idle)
    (json.member (codes "metered") (json.boolean conditions.metered)
    (json.member (codes "roaming") (json.boolean conditions.roaming)
    (json.member (codes "storage_low") (json.boolean conditions.storage_low) json.no_members))))))))

-- by force is written only where it is
abbrev pub prune_json : Bool → json.Data
prune_json true = with_key (codes "prune") (codes "force") (json.boolean true)
prune_json false = alone_json (codes "prune")

abbrev pub state_json : Shown → json.Data
state_json state = json.string (state_name state)

-- a query, and an observe, with its four lists
abbrev pub query_json : List ℕ → WorkQuery → json.Data
query_json name query = json.object
    (cmd_members name
    (json.member (codes "ids") (ids_json query.ids)
    (json.member (codes "names") (texts_json query.names)
    (json.member (codes "states") (list_of state_json query.states)
    (json.member (codes "tags") (texts_json query.tags) json.no_members)))))

-- the spelling of a command
abbrev pub spelled : Command → json.Data
spelled (command.Enqueue named batch) = enqueue_json named batch.works
spelled (command.Cancel target) = cancel_json target
spelled (command.Update request) = with_key (codes "update") (codes "work") (request_json request)
spelled (command.Moment at) = under_key (codes "at") (count at) (codes "moment")
spelled (command.Conditions conditions) = conditions_json conditions
spelled (command.Prune force) = prune_json force
spelled (command.Query query) = query_json (codes "query") query
spelled (command.Observe query) = query_json (codes "observe") query
spelled (command.Retire class) = under_key (codes "class") (json.string class) (codes "retire")
spelled command.Settle = alone_json (codes "settle")
spelled command.Hush = alone_json (codes "hush")
spelled command.Summary = alone_json (codes "summary")
spelled (command.Faulty fault) = fault_json fault

-- ---- read

-- the command of a fault, where the value is one, and else what is asked for, as in a line
abbrev pub read_as : Option LineFault → json.Data → Command
read_as (Some fault) d = command.Faulty fault
read_as None d = or_faulty (asked_by d)

-- the command that a value is read as
unfoldable pub command_in : json.Data → Command
command_in d = read_as (fault_of d) d

-- a command is canonical: it is the one that its own spelling is read as
abbrev pub IsCanonical : Command → Type 0
IsCanonical asked = command_in (spelled asked) ≡ asked
