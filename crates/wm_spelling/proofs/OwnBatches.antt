-- The ids of the works that a line asks for are read again, and the works are few and without a fault.
use Rattle.std.proofs.Common.{◌≡◌, ℕ, ◌+◌, ◌≤◌, Bool, true, false, cond, not, ◌&&◌, ◌==◌, List, [], ◌∷◌, ◌++◌, length, map, find, Option, Some, None, IfSome, is_none, Result, Ok, Err, refl, subst, ap, ◌∙◌, arith}
use Rattle.std.specs.Prelude.{codes, nat_le, nat_lt}
use Rattle.std.specs.List.{AllByRecursion}
use Rattle.std.proofs.lemmas.Bool.{leb-true}
use Rattle.std.proofs.lemmas.List.{length-append, length-map}
use Rattle.serde_json.specs.Data as json
use Rattle.serde_json.specs.Find.{get}
use Rattle.wm_chain.specs.Layers.{chained, layered, no_layer, node_after, ContinuationFields}
use Rattle.wm_chain.specs.Walk.{after_periodic, again, batched, batched_by, fault_from, fault_in, fault_of, first_fault, id_twice, named_twice, periodic_after}
use Rattle.wm_chain.specs.declared.fault.ChainFault.{ChainFault}
use Rattle.wm_chain.specs.declared.fault.ChainFault.TheVariants as chain_fault
use Rattle.wm_collections.proofs.Lists.{All-append, All-map}
use Rattle.wm_collections.proofs.Options.{either, found, map_of, tested, then_any, then_of}
use Rattle.wm_data.specs.DataRead.{item_list}
use Rattle.wm_data.specs.declared.data.DataEntry.{DataEntry}
use Rattle.wm_data.specs.declared.fault.DataFault.{DataFault}
use Rattle.wm_data.specs.declared.fault.DataFault.TheVariants as data_fault
use Rattle.wm_request.specs.Batches.{has_id, is_periodic, periodic_ids, BatchFields}
use Rattle.wm_request.specs.Building.{built_of, has_long_delay, is_short}
use Rattle.wm_request.specs.Requests.{RequestFields}
use Rattle.wm_request.specs.declared.fault.RequestFault.TheVariants as request_fault
use Rattle.wm_request.specs.declared.request.Node.{Node}
use Rattle.wm_script.specs.Batches.{are_few, batch_in, count_in, layer_in, layers_in, total, works_in}
use Rattle.wm_script.specs.Parts.{each_in, formed, is_count, list_at, of_chain, of_data, of_request, or_fault}
use Rattle.wm_script.specs.Requests.{asked_for, input_in, node_in, request_in}
use Rattle.wm_script.specs.Values.{id_in, id_part, short_in, text_part, whole_at}
use Rattle.wm_script.specs.Works.{backoff_at, class_at, constraints_at, id_at, merger_at, period_at, work_of, WorkForm}
use Rattle.wm_script.specs.declared.parts.Unread.{Unread}
use Rattle.wm_spelling.proofs.GivenParts.{given-any, given-each, given-formed, given-joined, given-list, given-some, given-tested, given-then, Any, AreFew, AreGiven, IsGiven, IsOwnFault, IsOwnUnread}
use Rattle.wm_spelling.proofs.OwnIds.{IsOwnId, IsOwnId-id_in}

-- ---- a work

unfoldable pub IsOwnRequest : RequestFields → Type 0
IsOwnRequest request = IsOwnId request.id

-- its id, and those of the works that it is after
pub record IsOwnNode (node : Node) : Type 0 where
  pub id : IsOwnId node.request.id
  pub after : AllByRecursion IsOwnId node.after

HasOwnId : WorkForm → Type 0
HasOwnId work = IsOwnId work.id

IsOwnId-id_at : (value : Option json.Data) → IfSome (id_at value) IsOwnId
unfolding id_at
IsOwnId-id_at value = then_any IsOwnId id_in value IsOwnId-id_in

HasOwnId-work_of : (d : json.Data) → IfSome (work_of d) HasOwnId
unfolding work_of HasOwnId
HasOwnId-work_of d =
    either HasOwnId _ _ None
    (then_of IsOwnId HasOwnId _ (id_at (get (codes "id") d)) (IsOwnId-id_at (get (codes "id") d)) (λ id own.
    then_any HasOwnId _ (class_at (get (codes "class") d)) (λ class.
    then_any HasOwnId _ (merger_at (get (codes "merger") d)) (λ merger.
    then_any HasOwnId _ (constraints_at (get (codes "constraints") d)) (λ constraints.
    then_any HasOwnId _ (backoff_at (get (codes "backoff") d)) (λ backoff.
    then_any HasOwnId _ (whole_at 0 (get (codes "delay") d)) (λ delay.
    then_any HasOwnId _ (period_at (get (codes "period") d) (get (codes "flex") d) (get (codes "next") d)) (λ period.
    then_any HasOwnId _ (whole_at 0 (get (codes "keep") d)) (λ keep. own))))))))) tt

-- no fault of Data shows an id
given-data : (read : Result (List DataEntry) DataFault) → IsGiven Any (or_fault of_data read)
unfolding IsOwnFault IsOwnUnread Any
given-data (Ok entries) = tt
given-data (Err data_fault.EmptyKey) = tt
given-data (Err (data_fault.BadData key)) = tt
given-data (Err (data_fault.TooLarge size)) = tt
given-data (Err data_fault.Memory) = tt

-- and none of a request does
given-built : (short many long : Bool) (asked : RequestFields) → IsOwnRequest asked → IsGiven IsOwnRequest (or_fault of_request
    (cond (not short) (Err request_fault.NoClass) (cond many (Err request_fault.TooManyTags) (cond long (Err request_fault.DelayTooLong) (Ok asked)))))
unfolding IsOwnFault IsOwnUnread
given-built false many long asked own = tt
given-built true true long asked own = tt
given-built true false true asked own = tt
given-built true false false asked own = own

given-asked : (work : WorkForm) (tags : List (List ℕ)) (input : List DataEntry) → HasOwnId work
    → IsGiven IsOwnRequest (or_fault of_request (built_of (asked_for work tags input)))
unfolding HasOwnId IsOwnRequest
given-asked work tags input own =
    let asked = asked_for work tags input in
    given-built (is_short asked.class) (nat_lt 32 (length asked.tags)) (has_long_delay asked) asked own

pub given-ids : (value : Option json.Data) → IsGiven (AllByRecursion IsOwnId) (list_at id_part value)
given-ids value = given-list IsOwnId id_part (λ d. given-formed IsOwnId (id_in d) (IsOwnId-id_in d)) value

given-node : (d : json.Data) → IsGiven IsOwnNode (node_in d)
unfolding node_in IsOwnRequest
given-node d =
    given-then HasOwnId IsOwnNode _ (formed (work_of d)) (given-formed HasOwnId (work_of d) (HasOwnId-work_of d)) (λ work own.
    given-then (AllByRecursion Any) IsOwnNode _ (list_at text_part (get (codes "tags") d))
    (given-list Any text_part (λ e. given-any (short_in e)) (get (codes "tags") d)) (λ tags any.
    given-then (AllByRecursion IsOwnId) IsOwnNode _ (list_at id_part (get (codes "after") d)) (given-ids (get (codes "after") d)) (λ after owns.
    given-then Any IsOwnNode _ (or_fault of_data (input_in work.input)) (given-data (input_in work.input)) (λ input any.
    given-then IsOwnRequest IsOwnNode _ (or_fault of_request (built_of (asked_for work tags input))) (given-asked work tags input own)
    (λ request is. record { id = is; after = owns })))))

pub given-request : (d : json.Data) → IsGiven IsOwnRequest (request_in d)
unfolding request_in IsOwnRequest
given-request d =
    given-tested IsOwnRequest (is_none (get (codes "after") d)) _
    (λ e. given-then IsOwnNode IsOwnRequest _ (node_in d) (given-node d) (λ node own. own.id))

-- ---- the fault of a chain

IsOwnChainFault : ChainFault → Type 0
IsOwnChainFault (chain_fault.IdTwice id) = IsOwnId id
IsOwnChainFault (chain_fault.PeriodicInChain id) = IsOwnId id
IsOwnChainFault chain_fault.Memory = Unit {0}

IsOwnFaultOf : Option ChainFault → Type 0
IsOwnFaultOf found = IfSome found IsOwnChainFault

first-own : (checks : List (Option ChainFault)) → AllByRecursion IsOwnFaultOf checks → IsOwnFaultOf (first_fault checks)
unfolding IsOwnFaultOf
first-own [] all = tt
first-own (Some found ∷ checks) all = all.0
first-own (None ∷ checks) all = first-own checks all.1

again-own : (seen ids : List (List ℕ)) → AllByRecursion IsOwnId ids → IfSome (again seen ids) IsOwnId
again-own seen [] all = tt
again-own seen (id ∷ ids) all = either IsOwnId (has_id seen id) (Some id) (again (seen ++ id ∷ []) ids) all.0 (again-own (seen ++ id ∷ []) ids all.1)

fault_of-own : (periodic before : List (List ℕ)) (work : Node) → IsOwnNode work → IsOwnFaultOf (fault_of periodic before work)
unfolding IsOwnFaultOf IsOwnChainFault
fault_of-own periodic before work own =
    let twice = tested IsOwnChainFault (has_id before work.request.id) (chain_fault.IdTwice work.request.id) (λ e. own.id) in
    let named = map_of IsOwnId IsOwnChainFault chain_fault.IdTwice (again [] work.after) (again-own [] work.after own.after) (λ id is. is) in
    let alone = tested IsOwnChainFault (is_periodic work && not (length work.after == 0)) (chain_fault.PeriodicInChain work.request.id) (λ e. own.id) in
    let after = map_of IsOwnId IsOwnChainFault chain_fault.PeriodicInChain (find (has_id periodic) work.after)
    (found IsOwnId (has_id periodic) work.after own.after) (λ id is. is) in
    first-own (id_twice before work ∷ named_twice work ∷ periodic_after work ∷ after_periodic periodic work ∷ []) (twice, (named, (alone, (after, tt))))

fault_from-own : (periodic before : List (List ℕ)) (works : List Node) → AllByRecursion IsOwnNode works → IsOwnFaultOf (fault_from periodic before works)
unfolding IsOwnFaultOf
fault_from-own periodic before [] all = tt
fault_from-own periodic before (work ∷ works) all =
    first-own (fault_of periodic before work ∷ fault_from periodic (before ++ work.request.id ∷ []) works ∷ [])
    (fault_of-own periodic before work all.0, (fault_from-own periodic (before ++ work.request.id ∷ []) works all.1, tt))

-- ---- a batch

pub record IsOwnBatch (batch : BatchFields) : Type 0 where
  pub nodes : AllByRecursion IsOwnNode batch.works
  pub few : length batch.works ≤ 1000
  pub faultless : fault_in batch.works ≡ None

given-fault : (fault : ChainFault) → IsOwnChainFault fault → IsOwnUnread (of_chain fault)
unfolding IsOwnChainFault IsOwnFault IsOwnUnread
given-fault (chain_fault.IdTwice id) own = own
given-fault (chain_fault.PeriodicInChain id) own = own
given-fault chain_fault.Memory own = tt

given-batched_by : (works : List Node) (fault : Option ChainFault) → fault_in works ≡ fault → AreFew IsOwnNode works
    → IsGiven IsOwnBatch (or_fault of_chain (batched_by fault works))
unfolding IsOwnFaultOf
given-batched_by works None e are = record { nodes = are.all; few = are.few; faultless = e }
given-batched_by works (Some fault) e are =
    given-fault fault (subst IsOwnFaultOf e (fault_from-own (periodic_ids works) [] works are.all))

given-batched : (works : List Node) → AreFew IsOwnNode works → IsGiven IsOwnBatch (or_fault of_chain (batched works))
given-batched works are = given-batched_by works (fault_in works) refl are

-- ---- layers

-- the requests of a layer, as many as the list has items
record IsLayer (count : ℕ) (layer : List RequestFields) : Type 0 where
  all : AllByRecursion IsOwnRequest layer
  counted : length layer ≡ count

lengths : List (List RequestFields) → ℕ
lengths [] = 0
lengths (layer ∷ layers) = length layer + lengths layers

record AreLayers (count : ℕ) (layers : List (List RequestFields)) : Type 0 where
  all : AllByRecursion (AllByRecursion IsOwnRequest) layers
  counted : lengths layers ≡ count

layer_of : (n : ℕ) (r : Result (List RequestFields) Unread) → IsGiven (AreGiven IsOwnRequest n) r → IsGiven (IsLayer n) r
layer_of n (Ok layer) are = record { all = are.all; counted = are.as_many }
layer_of n (Err fault) are = are

given-layer : (d : json.Data) → IsGiven (IsLayer (count_in d)) (layer_in d)
unfolding layer_in IsOwnUnread
given-layer (json.array ds) =
    let items = item_list ds in
    given-tested (IsLayer (length items)) (is_count (length items)) (each_in request_in items) (λ e.
    layer_of (length items) (each_in request_in items) (given-each IsOwnRequest request_in given-request items))
given-layer json.null = tt
given-layer (json.boolean b) = tt
given-layer (json.number n) = tt
given-layer (json.string s) = tt
given-layer (json.object ms) = tt

given-each_layer : (ds : List json.Data) → IsGiven (AreLayers (total ds)) (each_in layer_in ds)
unfolding lengths
given-each_layer [] = record { all = tt; counted = refl }
given-each_layer (d ∷ ds) =
    given-joined (IsLayer (count_in d)) (AreLayers (total ds)) (AreLayers (count_in d + total ds)) (layer_in d) (each_in layer_in ds) (given-layer d)
    (given-each_layer ds) (λ layer layers is are.
    let one = is.counted in
    let others = are.counted in
    record { all = (is.all, are.all); counted = omega arith })

-- at most 1,000 requests in layers
record AreFewLayers (layers : List (List RequestFields)) : Type 0 where
  all : AllByRecursion (AllByRecursion IsOwnRequest) layers
  few : lengths layers ≤ 1000

few_layers : (n : ℕ) (r : Result (List (List RequestFields)) Unread) → n ≤ 1000 → IsGiven (AreLayers n) r → IsGiven AreFewLayers r
few_layers n (Ok layers) few are =
    let many = are.counted in
    record { all = are.all; few = omega arith }
few_layers n (Err fault) few are = are

given-layers : (d : json.Data) → IsGiven AreFewLayers (layers_in d)
unfolding layers_in are_few IsOwnUnread
given-layers (json.array ds) =
    let items = item_list ds in
    given-tested AreFewLayers (nat_le (total items) 1000) _ (λ few.
    given-tested AreFewLayers (is_count (length items)) (each_in layer_in items) (λ e.
    few_layers (total items) (each_in layer_in items) (leb-true (total items) 1000 few) (given-each_layer items)))
given-layers json.null = tt
given-layers (json.boolean b) = tt
given-layers (json.number n) = tt
given-layers (json.string s) = tt
given-layers (json.object ms) = tt

-- ---- the works of layers

own-layered : (chain : ContinuationFields) (layer : List RequestFields) → AllByRecursion IsOwnNode chain.works → AllByRecursion IsOwnId chain.last
    → AllByRecursion IsOwnRequest layer → AllByRecursion IsOwnNode (layered chain layer).works
unfolding IsOwnRequest
own-layered chain layer all last own =
    All-append IsOwnNode chain.works (map (node_after chain.last) layer) all
    (All-map IsOwnNode (node_after chain.last) layer (λ request is. record { id = is; after = last }) own)

own-last : (layer : List RequestFields) → AllByRecursion IsOwnRequest layer → AllByRecursion IsOwnId (map (λ request. request.id) layer)
unfolding IsOwnRequest
own-last layer own = All-map IsOwnId (λ request. request.id) layer (λ request is. is) own

own-chained : (chain : ContinuationFields) (layers : List (List RequestFields)) → AllByRecursion IsOwnNode chain.works → AllByRecursion IsOwnId chain.last
    → AllByRecursion (AllByRecursion IsOwnRequest) layers → AllByRecursion IsOwnNode (chained chain layers).works
own-chained chain [] all last own = all
own-chained chain (layer ∷ layers) all last own =
    own-chained (layered chain layer) layers (own-layered chain layer all last own.0) (own-last layer own.0) own.1

length-layered : (chain : ContinuationFields) (layer : List RequestFields) → length (layered chain layer).works ≡ length chain.works + length layer
length-layered chain layer =
    length-append chain.works (map (node_after chain.last) layer) ∙ ap (λ n. length chain.works + n) (length-map layer (node_after chain.last))

length-chained : (chain : ContinuationFields) (layers : List (List RequestFields))
    → length (chained chain layers).works ≡ length chain.works + lengths layers
unfolding lengths
length-chained chain [] = omega arith
length-chained chain (layer ∷ layers) =
    let here = length-layered chain layer in
    let rest = length-chained (layered chain layer) layers in
    omega arith

own-layers : (layers : List (List RequestFields)) → AreFewLayers layers → AreFew IsOwnNode (chained no_layer layers).works
own-layers layers are =
    let many = length-chained no_layer layers in
    let few = are.few in
    record { all = own-chained no_layer layers tt tt are.all; few = omega arith }

-- ---- the batch of an enqueue

pub given-batch : (works layers : Option json.Data) → IsGiven IsOwnBatch (batch_in works layers)
unfolding batch_in works_in IsOwnUnread
given-batch None None = tt
given-batch (Some works) None =
    given-then (AreFew IsOwnNode) IsOwnBatch _ (works_in works) (given-some IsOwnNode node_in given-node works) given-batched
given-batch None (Some layers) =
    given-then AreFewLayers IsOwnBatch _ (layers_in layers) (given-layers layers) (λ read are.
    given-batched (chained no_layer read).works (own-layers read are))
given-batch (Some works) (Some layers) = tt
