-- No spelling has a float, and none nests deep.
use Rattle.std.proofs.Common.{◌≡◌, ℕ, ◌≤◌, false, true, List, [], ◌∷◌, map, Option, Some, None, Result, Ok, Err, IfOk, refl, sym, subst, arith}
use Rattle.std.specs.Prelude.{codes}
use Rattle.serde_json.specs.Data as json
use Rattle.serde_json.specs.Data.{depth, items_depth, members_depth}
use Rattle.serde_json.specs.View.{items_of, view}
use Rattle.serde_json.specs.Written.{has_float, members_have_float}
use Rattle.serde_json.specs.declared.value.Value.{Value as Written}
use Rattle.std.specs.declared.alloc.AllocError.{AllocError}
use Rattle.wm_data.proofs.NoFloats.{entries_have_no_float, list_has_no_float}
use Rattle.wm_data.specs.DataJson.{data_json, entries_json, value_json, whole}
use Rattle.wm_data.specs.declared.data.DataEntry.{DataEntry}
use Rattle.wm_data.specs.declared.value.Value.{Value}
use Rattle.wm_data.specs.declared.value.Value.TheVariants as value
use Rattle.wm_machine.specs.declared.command.Command.{Command}
use Rattle.wm_machine.specs.declared.command.Command.TheVariants as command
use Rattle.wm_machine.specs.declared.command.LineFault.TheVariants as fault
use Rattle.wm_machine.specs.declared.command.Target.TheVariants.{All, Id, Name, Tag}
use Rattle.wm_machine.specs.declared.command.UniqueName.{UniqueName}
use Rattle.wm_machine.specs.declared.state.WorkQuery.{WorkQuery}
use Rattle.wm_request.specs.Requests.{RequestFields}
use Rattle.wm_request.specs.declared.request.NextRun.{NextRun}
use Rattle.wm_request.specs.declared.request.NextRun.TheVariants.{Leave, At, Clear}
use Rattle.wm_request.specs.declared.request.Node.{Node}
use Rattle.wm_schedule.specs.declared.schedule.Period.{Period}
use Rattle.wm_spelling.specs.Commands.{enqueue_json, query_json, spelled, state_json}
use Rattle.wm_spelling.specs.Works.{id_json, ids_json, node_json, request_json, texts_json, with_next, with_period, work_members}

-- ---- no float

plain-work : (request : RequestFields) → members_have_float (work_members request) ≡ false
plain-work request = rw (entries_have_no_float request.input, list_has_no_float json.string request.tags (λ text. refl)) refl

plain-request : (request : RequestFields) (period : Option Period) (next : NextRun)
    → members_have_float (with_next next (with_period period (work_members request))) ≡ false
plain-request request None Leave = plain-work request
plain-request request None (At moment) = plain-work request
plain-request request None Clear = plain-work request
plain-request request (Some period) Leave = plain-work request
plain-request request (Some period) (At moment) = plain-work request
plain-request request (Some period) Clear = plain-work request

plain-after : (request : RequestFields) (period : Option Period) (next : NextRun) (after : json.Data) → has_float after ≡ false
    → members_have_float (json.put (codes "after") after (with_next next (with_period period (work_members request)))) ≡ false
plain-after request None Leave after plain = rw plain (plain-work request)
plain-after request None (At moment) after plain = rw plain (plain-work request)
plain-after request None Clear after plain = rw plain (plain-work request)
plain-after request (Some period) Leave after plain = rw plain (plain-work request)
plain-after request (Some period) (At moment) after plain = rw plain (plain-work request)
plain-after request (Some period) Clear after plain = rw plain (plain-work request)

plain-node : (node : Node) → has_float (node_json node) ≡ false
plain-node node =
    plain-after node.request node.request.period node.request.next (ids_json node.after) (list_has_no_float id_json node.after (λ id. refl))

plain-enqueue : (named : Option UniqueName) (works : List Node) → has_float (enqueue_json named works) ≡ false
plain-enqueue None works = rw (list_has_no_float node_json works plain-node) refl
plain-enqueue (Some unique) works = rw (list_has_no_float node_json works plain-node) refl

plain-query : (name : List ℕ) (query : WorkQuery) → has_float (query_json name query) ≡ false
plain-query name query =
    rw (
      list_has_no_float id_json query.ids (λ id. refl),
      list_has_no_float json.string query.names (λ text. refl),
      list_has_no_float state_json query.states (λ state. refl),
      list_has_no_float json.string query.tags (λ text. refl),
    ) refl

pub spelled_has_no_float : (asked : Command) → has_float (spelled asked) ≡ false
spelled_has_no_float (command.Enqueue named batch) = plain-enqueue named batch.works
spelled_has_no_float (command.Cancel (Id id)) = refl
spelled_has_no_float (command.Cancel (Tag tag)) = refl
spelled_has_no_float (command.Cancel (Name name)) = refl
spelled_has_no_float (command.Cancel All) = refl
spelled_has_no_float (command.Update request) = rw (plain-request request request.period request.next) refl
spelled_has_no_float (command.Prune true) = refl
spelled_has_no_float (command.Prune false) = refl
spelled_has_no_float (command.Query query) = plain-query (codes "query") query
spelled_has_no_float (command.Observe query) = plain-query (codes "observe") query
spelled_has_no_float (command.Faulty (fault.BadData key)) = refl
spelled_has_no_float (command.Faulty (fault.TooLarge size)) = refl
spelled_has_no_float (command.Faulty (fault.IdTwice id)) = refl
spelled_has_no_float (command.Faulty (fault.PeriodicInChain id)) = refl
spelled_has_no_float (command.Faulty _) = refl
spelled_has_no_float _ = refl

-- ---- not deep

pub shallow-list : {T : Type 0} (form : T → json.Data) (n : ℕ) (xs : List T) → ((x : T) → depth (form x) ≤ n) → items_depth (items_of (map form xs)) ≤ n
shallow-list form n [] each = omega arith
shallow-list form n (x ∷ xs) each = omega (arith, each x, shallow-list form n xs each)

shallow-value : (v : Value) → depth (value_json v) ≤ 2
shallow-value (value.Bool b) = omega arith
shallow-value (value.Byte n) = omega arith
shallow-value (value.Int n) = omega arith
shallow-value (value.Long n) = omega arith
shallow-value (value.Text text) = omega arith
shallow-value (value.Bools bs) = omega (arith, shallow-list json.boolean 0 bs (λ b. omega arith))
shallow-value (value.Bytes ns) = omega (arith, shallow-list whole 0 ns (λ n. omega arith))
shallow-value (value.Ints ns) = omega (arith, shallow-list whole 0 ns (λ n. omega arith))
shallow-value (value.Longs ns) = omega (arith, shallow-list whole 0 ns (λ n. omega arith))
shallow-value (value.Texts texts) = omega (arith, shallow-list json.string 0 texts (λ text. omega arith))

shallow-entries : (entries : List DataEntry) → members_depth (entries_json entries) ≤ 2
shallow-entries [] = omega arith
shallow-entries (entry ∷ entries) = omega (arith, shallow-value entry.value, shallow-entries entries)

pub shallow-data : (entries : List DataEntry) → depth (data_json entries) ≤ 3
shallow-data entries = omega (arith, shallow-entries entries)

pub shallow-texts : (texts : List (List ℕ)) → depth (texts_json texts) ≤ 1
shallow-texts texts = omega (arith, shallow-list json.string 0 texts (λ text. omega arith))

shallow-ids : (ids : List (List ℕ)) → depth (ids_json ids) ≤ 1
shallow-ids ids = omega (arith, shallow-list id_json 0 ids (λ id. omega arith))

shallow-work : (request : RequestFields) → members_depth (work_members request) ≤ 3
shallow-work request = omega (arith, shallow-data request.input, shallow-texts request.tags)

shallow-members : (request : RequestFields) (period : Option Period) (next : NextRun)
    → members_depth (with_next next (with_period period (work_members request))) ≤ 3
shallow-members request None Leave = shallow-work request
shallow-members request None (At moment) = omega (arith, shallow-work request)
shallow-members request None Clear = omega (arith, shallow-work request)
shallow-members request (Some period) Leave = omega (arith, shallow-work request)
shallow-members request (Some period) (At moment) = omega (arith, shallow-work request)
shallow-members request (Some period) Clear = omega (arith, shallow-work request)

shallow-request : (request : RequestFields) → depth (request_json request) ≤ 4
shallow-request request = omega (arith, shallow-members request request.period request.next)

shallow-after : (request : RequestFields) (period : Option Period) (next : NextRun) (after : json.Data) → depth after ≤ 1
    → members_depth (json.put (codes "after") after (with_next next (with_period period (work_members request)))) ≤ 3
shallow-after request None Leave after shallow = omega (arith, shallow-work request)
shallow-after request None (At moment) after shallow = omega (arith, shallow-work request)
shallow-after request None Clear after shallow = omega (arith, shallow-work request)
shallow-after request (Some period) Leave after shallow = omega (arith, shallow-work request)
shallow-after request (Some period) (At moment) after shallow = omega (arith, shallow-work request)
shallow-after request (Some period) Clear after shallow = omega (arith, shallow-work request)

shallow-node : (node : Node) → depth (node_json node) ≤ 4
shallow-node node =
    omega (arith, shallow-after node.request node.request.period node.request.next (ids_json node.after) (shallow-ids node.after))

shallow-enqueue : (named : Option UniqueName) (works : List Node) → depth (enqueue_json named works) ≤ 6
shallow-enqueue None works = omega (arith, shallow-list node_json 4 works shallow-node)
shallow-enqueue (Some unique) works = omega (arith, shallow-list node_json 4 works shallow-node)

shallow-query : (name : List ℕ) (query : WorkQuery) → depth (query_json name query) ≤ 6
shallow-query name query =
    let states = shallow-list state_json 0 query.states (λ state. omega arith) in
    omega (arith, shallow-ids query.ids, shallow-texts query.names, states, shallow-texts query.tags)

pub spelled_is_shallow : (asked : Command) → depth (spelled asked) ≤ 6
spelled_is_shallow (command.Enqueue named batch) = shallow-enqueue named batch.works
spelled_is_shallow (command.Cancel (Id id)) = omega arith
spelled_is_shallow (command.Cancel (Tag tag)) = omega arith
spelled_is_shallow (command.Cancel (Name name)) = omega arith
spelled_is_shallow (command.Cancel All) = omega arith
spelled_is_shallow (command.Update request) = omega (arith, shallow-request request)
spelled_is_shallow (command.Moment at) = omega arith
spelled_is_shallow (command.Conditions conditions) = omega arith
spelled_is_shallow (command.Prune true) = omega arith
spelled_is_shallow (command.Prune false) = omega arith
spelled_is_shallow (command.Query query) = shallow-query (codes "query") query
spelled_is_shallow (command.Observe query) = shallow-query (codes "observe") query
spelled_is_shallow (command.Retire class) = omega arith
spelled_is_shallow command.Settle = omega arith
spelled_is_shallow command.Hush = omega arith
spelled_is_shallow command.Summary = omega arith
spelled_is_shallow (command.Faulty fault.Bad) = omega arith
spelled_is_shallow (command.Faulty fault.EmptyKey) = omega arith
spelled_is_shallow (command.Faulty (fault.BadData key)) = omega arith
spelled_is_shallow (command.Faulty (fault.TooLarge size)) = omega arith
spelled_is_shallow (command.Faulty fault.NoClass) = omega arith
spelled_is_shallow (command.Faulty fault.TooManyTags) = omega arith
spelled_is_shallow (command.Faulty fault.DelayTooLong) = omega arith
spelled_is_shallow (command.Faulty (fault.IdTwice id)) = omega arith
spelled_is_shallow (command.Faulty (fault.PeriodicInChain id)) = omega arith

-- ---- of what is written

pub written_shallow : (asked : Command) (r : Result Written AllocError) → IfOk r (λ written. view written ≡ spelled asked)
    → IfOk r (λ written. depth (view written) ≤ 6)
written_shallow asked (Ok written) is = subst (λ d. depth d ≤ 6) (sym is) (spelled_is_shallow asked)
written_shallow asked (Err refused) is = tt

pub written_plain : (asked : Command) (r : Result Written AllocError) → IfOk r (λ written. view written ≡ spelled asked)
    → IfOk r (λ written. has_float (view written) ≡ false)
written_plain asked (Ok written) is = subst (λ d. has_float d ≡ false) (sym is) (spelled_has_no_float asked)
written_plain asked (Err refused) is = tt
