-- The command of a line is read from its spelling.
use Rattle.std.proofs.Common.{◌≡◌, ℕ, ◌<◌, ◌≤◌, true, false, List, [], ◌∷◌, length, map, Some, None, Ok, refl, lt-ltb, le-leb, arith}
use Rattle.std.specs.Prelude.{codes}
use Rattle.std.specs.List.{AllByRecursion}
use Rattle.std.proofs.lemmas.List.{length-map}
use Rattle.serde_json.specs.Data as json
use Rattle.wm_collections.proofs.Lists.{All-any, All-with2}
use Rattle.wm_data.proofs.ItemLists.{item_list-items_of}
use Rattle.wm_machine.specs.Built.{AreAsked}
use Rattle.wm_machine.specs.Outcome.{IsAskable}
use Rattle.wm_machine.specs.declared.command.Command.{Command}
use Rattle.wm_machine.specs.declared.command.Command.TheVariants as command
use Rattle.wm_machine.specs.declared.command.LineFault.{LineFault}
use Rattle.wm_machine.specs.declared.command.LineFault.TheVariants as fault
use Rattle.wm_machine.specs.declared.command.Policy.{Policy}
use Rattle.wm_machine.specs.declared.command.Policy.TheVariants as policy
use Rattle.wm_machine.specs.declared.command.Target.TheVariants.{All, Id, Name, Tag}
use Rattle.wm_machine.specs.declared.command.UniqueName.{UniqueName}
use Rattle.wm_machine.specs.declared.record.Shown.{Shown}
use Rattle.wm_machine.specs.declared.record.Shown.TheVariants as shown
use Rattle.wm_machine.specs.declared.state.WorkQuery.{WorkQuery}
use Rattle.wm_request.specs.Batches.{BatchFields}
use Rattle.wm_request.specs.Requests.{IsRequest, IsShortText}
use Rattle.wm_request.specs.declared.request.Node.{Node}
use Rattle.wm_script.proofs.BuiltCommands.{IsAskable-command_of}
use Rattle.wm_script.specs.Batches.{batch_in, works_in}
use Rattle.wm_script.specs.Conditions.{conditions_in}
use Rattle.wm_script.specs.Lines.{asked_by, command_of, commands_in, cut, enqueue_of, force_at, id_under, is_of_all, one_key, prune_of, target_of, text_under, update_of, whole_under}
use Rattle.wm_script.specs.Names.{named_by, policy_in}
use Rattle.wm_script.specs.Objects.{has_only}
use Rattle.wm_script.specs.Queries.{query_in, state_in, state_part}
use Rattle.wm_script.specs.Requests.{node_in}
use Rattle.wm_script.specs.Values.{flag_at}
use Rattle.wm_spelling.specs.Commands.{command_in, query_json, state_json, works_json, IsCanonical}
use Rattle.wm_spelling.specs.Faults.{fault_json, fault_of, id_of, key_of, size_of}
use Rattle.wm_spelling.specs.Names.{policy_name}
use Rattle.wm_spelling.specs.Works.{node_json}
use Rattle.wm_spelling.proofs.GivenParts.{IsOwnFault}
use Rattle.wm_spelling.proofs.OwnBatches.{IsOwnBatch, IsOwnNode, IsOwnRequest}
use Rattle.wm_spelling.proofs.OwnCommands.{IsOwn, IsOwn-command_of, IsOwnQuery, IsOwnTarget}
use Rattle.wm_spelling.proofs.ReadWorks.{node_in-node_json, read-count, read-each, read-id, read-ids, read-list, read-text, read-texts, request_in-request_json}

-- ---- an enqueue

nodes-read : (works : List Node) → AllByRecursion (λ node. IsRequest node.request) works → AllByRecursion IsOwnNode works
    → AllByRecursion (λ node. node_in (node_json node) ≡ Ok node) works
nodes-read works are own = All-with2 works node_in-node_json are own

works-read : (works : List Node) → 1 ≤ length works → length works ≤ 1000 → AllByRecursion (λ node. node_in (node_json node) ≡ Ok node) works
    → works_in (works_json works) ≡ Ok works
unfolding works_in
works-read works some few all =
    let more : 0 < length works = omega arith in
    rw (item_list-items_of (map node_json works), length-map works node_json, lt-ltb 0 (length works) more, le-leb (length works) 1000 few)
    (read-each node_json node_in works all)

batch-read : (batch : BatchFields) → AreAsked batch.works → IsOwnBatch batch → batch_in (Some (works_json batch.works)) None ≡ Ok batch
unfolding batch_in
batch-read batch asked own =
    rw (works-read batch.works asked.batch.not_empty own.few (nodes-read batch.works asked.requests own.nodes), own.faultless) refl

policy-read : (p : Policy) → policy_in (json.string (policy_name p)) ≡ Some p
unfolding policy_in
policy-read policy.Keep = refl
policy-read policy.Replace = refl
policy-read policy.Append = refl
policy-read policy.AppendOrReplace = refl
policy-read policy.CancelAndReenqueue = refl
policy-read policy.Update = refl

unnamed : (batch : BatchFields) → AreAsked batch.works → IsOwnBatch batch → IsCanonical (command.Enqueue None batch)
unfolding command_in fault_of asked_by enqueue_of named_by has_only
unnamed batch asked own = rw (batch-read batch asked own) refl

named : (unique : UniqueName) (batch : BatchFields) → IsShortText unique.name → AreAsked batch.works → IsOwnBatch batch
    → IsCanonical (command.Enqueue (Some unique) batch)
unfolding command_in fault_of asked_by enqueue_of named_by has_only
named unique batch short asked own = rw (read-text unique.name short, policy-read unique.policy, batch-read batch asked own) refl

-- ---- a query and an observe

state-read : (state : Shown) → state_part (state_json state) ≡ Ok state
unfolding state_in
state-read shown.Enqueued = refl
state-read shown.Running = refl
state-read shown.Succeeded = refl
state-read shown.Failed = refl
state-read shown.Blocked = refl
state-read shown.Cancelled = refl

query-read : (query : WorkQuery) → IsOwnQuery query → query_in (query_json (codes "query") query) ≡ Ok query
unfolding query_in has_only
query-read query own =
    rw (
      read-ids query.ids own.ids,
      read-texts query.names own.names,
      read-list state_json state_part query.states (All-any query.states state-read),
      read-texts query.tags own.tags,
    ) refl

observe-read : (query : WorkQuery) → IsOwnQuery query → query_in (query_json (codes "observe") query) ≡ Ok query
unfolding query_in has_only
observe-read query own =
    rw (
      read-ids query.ids own.ids,
      read-texts query.names own.names,
      read-list state_json state_part query.states (All-any query.states state-read),
      read-texts query.tags own.tags,
    ) refl

-- ---- a fault

fault-read : (found : LineFault) → IsOwnFault found → fault_of (fault_json found) ≡ Some found
unfolding fault_of key_of size_of id_of IsOwnFault
fault-read fault.Bad own = refl
fault-read fault.EmptyKey own = refl
fault-read (fault.BadData key) own = refl
fault-read (fault.TooLarge size) own = refl
fault-read fault.NoClass own = refl
fault-read fault.TooManyTags own = refl
fault-read fault.DelayTooLong own = refl
fault-read (fault.IdTwice id) own = rw (read-id id own) refl
fault-read (fault.PeriodicInChain id) own = rw (read-id id own) refl

-- ---- each command

pub IsCanonical-own : (asked : Command) → IsAskable asked → IsOwn asked → IsCanonical asked
unfolding command_in fault_of asked_by update_of target_of id_under text_under whole_under is_of_all one_key prune_of force_at conditions_in flag_at has_only IsOwn IsOwnTarget IsOwnRequest
IsCanonical-own (command.Enqueue None batch) askable own = unnamed batch askable own
IsCanonical-own (command.Enqueue (Some unique) batch) askable own = named unique batch askable.name_is askable.asked own
IsCanonical-own (command.Cancel (Id id)) askable own = rw (read-id id own) refl
IsCanonical-own (command.Cancel (Tag tag)) askable own = rw (read-text tag own) refl
IsCanonical-own (command.Cancel (Name name)) askable own = rw (read-text name own) refl
IsCanonical-own (command.Cancel All) askable own = refl
IsCanonical-own (command.Update request) askable own = rw (request_in-request_json request askable own) refl
IsCanonical-own (command.Moment at) askable own = rw (read-count at askable) refl
IsCanonical-own (command.Conditions conditions) askable own = refl
IsCanonical-own (command.Prune true) askable own = refl
IsCanonical-own (command.Prune false) askable own = refl
IsCanonical-own (command.Query query) askable own = rw (query-read query own) refl
IsCanonical-own (command.Observe query) askable own = rw (observe-read query own) refl
IsCanonical-own (command.Retire class) askable own = rw (read-text class own) refl
IsCanonical-own command.Settle askable own = refl
IsCanonical-own command.Hush askable own = refl
IsCanonical-own command.Summary askable own = refl
IsCanonical-own (command.Faulty found) askable own = rw (fault-read found own) refl

-- ---- each line

pub IsCanonical-line : (line : List ℕ) → IsCanonical (command_of line)
IsCanonical-line line = IsCanonical-own (command_of line) (IsAskable-command_of line) (IsOwn-command_of line)

each_line : (lines : List (List ℕ)) → AllByRecursion IsCanonical (map command_of lines)
each_line [] = tt
each_line (line ∷ lines) = (IsCanonical-line line, each_line lines)

pub AreCanonical-script : (bytes : List ℕ) → AllByRecursion IsCanonical (commands_in bytes)
AreCanonical-script bytes = each_line (cut bytes)
