-- The works of lines are of requests within their limits.
use Rattle.std.proofs.Common.{◌≡◌, ℕ, ◌+◌, ◌^◌, ◌<◌, ◌≤◌, subst, zero, suc, List, [], ◌∷◌, ◌++◌, length, map, Option, Some, None, IfSome, is_none, option_map, Ok, IfOk, refl, ap, ◌∙◌, add-one, rules, arith}
use Rattle.std.specs.Prelude.{codes, nat_lt}
use Rattle.std.specs.List.{AllByRecursion}
use Rattle.std.proofs.lemmas.Bool.{ltb-true}
use Rattle.std.proofs.lemmas.List.{length-append, length-map}
use Rattle.serde_json.specs.Data as json
use Rattle.serde_json.specs.Find.{as_number, as_str, as_u64, get}
use Rattle.uuid.specs.Text.{by_index, parsed}
use Rattle.wm_chain.proofs.Sound.{IsBatch-sound}
use Rattle.wm_chain.specs.Layers.{chained, layered, no_layer, node_after, ContinuationFields}
use Rattle.wm_chain.specs.Walk.{batched, batched_by, fault_in}
use Rattle.wm_chain.specs.declared.fault.ChainFault.{ChainFault}
use Rattle.wm_collections.proofs.Options.{either, tested, then_any, then_of}
use Rattle.wm_data.proofs.ReadData.{IsData-read_data}
use Rattle.wm_data.specs.Size.{IsData}
use Rattle.wm_data.specs.declared.data.DataEntry.{DataEntry}
use Rattle.wm_machine.specs.Built.{AreAsked}
use Rattle.wm_request.proofs.Limits.{built_of-cases, IsShortText-is_short}
use Rattle.wm_request.proofs.Tags.{AreSortedTags-with_tag}
use Rattle.wm_request.specs.Batches.{BatchFields}
use Rattle.wm_request.specs.Building.{built_of, is_short, with_tag, IsBuilding}
use Rattle.wm_request.specs.declared.request.NextRun.{NextRun}
use Rattle.wm_request.specs.declared.request.NextRun.TheVariants.{Leave, At, Clear}
use Rattle.wm_request.specs.Requests.{AreSortedTags, IsNextRun, IsRequest, IsShortText, RequestFields}
use Rattle.wm_request.specs.declared.request.Node.{Node}
use Rattle.wm_schedule.proofs.Clamps.{IsBackoffDelay-clamped, IsPeriod-clamped}
use Rattle.wm_schedule.specs.Clamped.{clamped_period, IsPeriod}
use Rattle.wm_schedule.specs.declared.schedule.Period.{Period}
use Rattle.wm_script.proofs.PartsLemmas.{bind_any, bind_holds, formed_holds, list_holds, or_holds, some_holds, AreSome}
use Rattle.wm_script.proofs.PartsLemmas.{tested as tested_ok}
use Rattle.wm_script.specs.Batches.{are_few, batch_in, layer_in, layers_in, works_in}
use Rattle.wm_script.specs.Parts.{formed, list_at, of_chain, of_data, of_request, or_fault, some_in}
use Rattle.wm_script.specs.Requests.{asked_for, input_in, next_of, node_in, request_in, with_tags}
use Rattle.wm_script.specs.Values.{id_in, id_part, short_in, text_part, whole_at, whole_in}
use Rattle.wm_script.specs.Works.{backoff_at, class_at, constraints_at, flex_at, id_at, merger_at, next_at, next_in, period_at, work_of, IsMoment, PeriodForm, WorkForm}

-- ---- an id

HasSixteen : List ℕ → Type 0
HasSixteen id = length id ≡ 16

length-by_index : {X : Type 0} (n : ℕ) (f : ℕ → X) → length (by_index n f) ≡ n
unfolding by_index
length-by_index zero f = refl
length-by_index (suc n) f = length-append (by_index n f) (f n ∷ []) ∙ ap (λ m. m + 1) (length-by_index n f) ∙ add-one n

HasSixteen-parsed : (text : List ℕ) → IfSome (parsed text) HasSixteen
unfolding HasSixteen
HasSixteen-parsed text = search (rules, either, length-by_index)

HasSixteen-id_in : (d : json.Data) → IfSome (id_in d) HasSixteen
unfolding id_in
HasSixteen-id_in d = then_any HasSixteen parsed (as_str d) HasSixteen-parsed

HasSixteen-id_at : (value : Option json.Data) → IfSome (id_at value) HasSixteen
unfolding id_at
HasSixteen-id_at value = then_any HasSixteen id_in value HasSixteen-id_in

HasId : WorkForm → Type 0
HasId work = HasSixteen work.id

HasId-work_of : (d : json.Data) → IfSome (work_of d) HasId
unfolding work_of HasId
HasId-work_of d =
    either HasId _ _ None
    (then_of HasSixteen HasId _ (id_at (get (codes "id") d)) (HasSixteen-id_at (get (codes "id") d)) (λ id sixteen.
    then_any HasId _ (class_at (get (codes "class") d)) (λ class.
    then_any HasId _ (merger_at (get (codes "merger") d)) (λ merger.
    then_any HasId _ (constraints_at (get (codes "constraints") d)) (λ constraints.
    then_any HasId _ (backoff_at (get (codes "backoff") d)) (λ backoff.
    then_any HasId _ (whole_at 0 (get (codes "delay") d)) (λ delay.
    then_any HasId _ (period_at (get (codes "period") d) (get (codes "flex") d) (get (codes "next") d)) (λ period.
    then_any HasId _ (whole_at 0 (get (codes "keep") d)) (λ keep. sixteen))))))))) tt

-- ---- what is asked of the next run

IsBelow : ℕ → Type 0
IsBelow n = n < 2 ^ 53

IsBelow-whole_in : (d : json.Data) → IfSome (whole_in d) IsBelow
unfolding whole_in IsBelow
IsBelow-whole_in d =
    then_any IsBelow _ (as_number d) (λ number.
    then_any IsBelow _ (as_u64 number) (λ n. tested IsBelow (nat_lt n (2 ^ 53)) n (ltb-true n (2 ^ 53))))

IsMoment-next_in : (d : json.Data) → IfSome (next_in d) IsMoment
unfolding next_in IsBelow
IsMoment-next_in json.null = tt
IsMoment-next_in d = then_of IsBelow IsMoment _ (whole_in d) (IsBelow-whole_in d) (λ n below. below)

IsMoment-next_at : (value : Option json.Data) → IfSome (next_at value) IsMoment
unfolding next_at
IsMoment-next_at None = tt
IsMoment-next_at (Some d) = IsMoment-next_in d

HasMomentOf : Option PeriodForm → Type 0
HasMomentOf period = IsMoment (next_of period)

HasMomentOf-period_at : (period flex next : Option json.Data) → IfSome (period_at period flex next) HasMomentOf
unfolding period_at HasMomentOf
HasMomentOf-period_at None None None = tt
HasMomentOf-period_at None (Some flex) next = tt
HasMomentOf-period_at None None (Some next) = tt
HasMomentOf-period_at (Some d) flex next =
    then_any HasMomentOf _ (whole_in d) (λ period.
    then_any HasMomentOf _ (flex_at flex) (λ flex.
    then_of IsMoment HasMomentOf _ (next_at next) (IsMoment-next_at next) (λ next is. is)))

HasMoment : WorkForm → Type 0
HasMoment work = HasMomentOf work.period

HasMoment-work_of : (d : json.Data) → IfSome (work_of d) HasMoment
unfolding work_of HasMoment
HasMoment-work_of d =
    let period = period_at (get (codes "period") d) (get (codes "flex") d) (get (codes "next") d) in
    either HasMoment _ _ None
    (then_any HasMoment _ (id_at (get (codes "id") d)) (λ id.
    then_any HasMoment _ (class_at (get (codes "class") d)) (λ class.
    then_any HasMoment _ (merger_at (get (codes "merger") d)) (λ merger.
    then_any HasMoment _ (constraints_at (get (codes "constraints") d)) (λ constraints.
    then_any HasMoment _ (backoff_at (get (codes "backoff") d)) (λ backoff.
    then_any HasMoment _ (whole_at 0 (get (codes "delay") d)) (λ delay.
    then_of HasMomentOf HasMoment _ period (HasMomentOf-period_at (get (codes "period") d) (get (codes "flex") d) (get (codes "next") d)) (λ period moment.
    then_any HasMoment _ (whole_at 0 (get (codes "keep") d)) (λ keep. moment))))))))) tt

-- a work that is read asks for a moment within its limit
pub IsMoment-read : (d : json.Data) (work : WorkForm) → work_of d ≡ Some work → IsMoment (next_of work.period)
unfolding HasMoment HasMomentOf
IsMoment-read d work is = subst (λ (found : Option WorkForm). IfSome found (λ w. IsMoment (next_of w.period))) is (HasMoment-work_of d)

-- what a work that is read is known to have
abbrev IsRead : WorkForm → Type 0
IsRead work = HasId work × HasMoment work

both_read : (found : Option WorkForm) → IfSome found HasId → IfSome found HasMoment → IfSome found IsRead
both_read None id moment = tt
both_read (Some work) id moment = (id, moment)

-- what periodic work asks of its next run
IsNextRun-asked_of : (period : Period) (next : NextRun) → IsMoment next → IsNextRun (Some period) next
IsNextRun-asked_of period Leave is = tt
IsNextRun-asked_of period (At moment) is = is
IsNextRun-asked_of period Clear is = tt

IsNextRun-asked : (period : Option PeriodForm) → IsMoment (next_of period)
    → IsNextRun (option_map (λ p. clamped_period p.period p.flex) period) (next_of period)
IsNextRun-asked None is = tt
IsNextRun-asked (Some p) is = IsNextRun-asked_of (clamped_period p.period p.flex) p.next is

-- ---- a request

pub IsShortText-short_in : (d : json.Data) → IfSome (short_in d) IsShortText
unfolding short_in
IsShortText-short_in d = then_any IsShortText _ (as_str d) (λ text. tested IsShortText (is_short text) text (IsShortText-is_short text))

-- tags are texts that a request may have
AreShort-list_at : (value : Option json.Data) → IfOk (list_at text_part value) (AllByRecursion IsShortText)
AreShort-list_at value = list_holds IsShortText text_part (λ d. formed_holds IsShortText (short_in d) (IsShortText-short_in d)) value

pub AreShort-read : (value : Option json.Data) (tags : List (List ℕ)) → list_at text_part value ≡ Ok tags → AllByRecursion IsShortText tags
AreShort-read value tags is = rw is at (AreShort-list_at value)

sorted_tags : (tags all : List (List ℕ)) → AllByRecursion IsShortText tags → AreSortedTags all → AreSortedTags (with_tags tags all)
sorted_tags [] all short sorted = sorted
sorted_tags (tag ∷ tags) all short sorted = sorted_tags tags (with_tag tag all) short.1 (AreSortedTags-with_tag tag all short.0 sorted)

IsPeriod-asked : (period : Option PeriodForm) → IfSome (option_map (λ p. clamped_period p.period p.flex) period) IsPeriod
IsPeriod-asked None = tt
IsPeriod-asked (Some p) = IsPeriod-clamped p.period p.flex

-- the request of a work with these tags and this input
IsRequest-asked : (work : WorkForm) (tags : List (List ℕ)) (input : List DataEntry) → IsRead work → AllByRecursion IsShortText tags → IsData input
    → IfOk (or_fault of_request (built_of (asked_for work tags input))) IsRequest
unfolding HasId HasSixteen HasMoment HasMomentOf
IsRequest-asked work tags input read short is_data =
    let asked = asked_for work tags input in
    let building : IsBuilding asked.tags asked.backoff asked.period asked.next = record {
      tags_are = sorted_tags tags [] short (record { short = tt; ascending = tt });
      backoff_is = IsBackoffDelay-clamped work.backoff.delay;
      period_is = IsPeriod-asked work.period;
      next_is = IsNextRun-asked work.period read.1;
    } in
    built_of-cases (λ built. IfOk (or_fault of_request built) IsRequest) asked building tt tt tt
    (λ limits. record { id = read.0; input = is_data; within = limits })

IsData-input_in : (input : Option json.Data) → IfOk (input_in input) IsData
IsData-input_in None = record { ascending = tt; named = tt; in_type = tt; size = omega arith }
IsData-input_in (Some d) = IsData-read_data d

HasRequest : Node → Type 0
HasRequest node = IsRequest node.request

HasRequest-node_in : (d : json.Data) → IfOk (node_in d) HasRequest
unfolding node_in HasRequest
HasRequest-node_in d =
    bind_holds IsRead HasRequest _ (formed (work_of d))
    (formed_holds IsRead (work_of d) (both_read (work_of d) (HasId-work_of d) (HasMoment-work_of d))) (λ work read.
    bind_holds (AllByRecursion IsShortText) HasRequest _ (list_at text_part (get (codes "tags") d)) (AreShort-list_at (get (codes "tags") d)) (λ tags short.
    bind_any HasRequest _ (list_at id_part (get (codes "after") d)) (λ after.
    bind_holds IsData HasRequest _ (or_fault of_data (input_in work.input)) (or_holds IsData of_data (input_in work.input) (IsData-input_in work.input))
    (λ input is_data.
    bind_holds IsRequest HasRequest _ (or_fault of_request (built_of (asked_for work tags input)))
    (IsRequest-asked work tags input read short is_data) (λ request is. is)))))

pub IsRequest-request_in : (d : json.Data) → IfOk (request_in d) IsRequest
unfolding request_in HasRequest
IsRequest-request_in d =
    tested_ok IsRequest (is_none (get (codes "after") d)) _
    (λ e. bind_holds HasRequest IsRequest _ (node_in d) (HasRequest-node_in d) (λ node is. is))

-- ---- a batch

-- at least one work, each of a request within its limits
record AreNodes (works : List Node) : Type 0 where
  some : 1 ≤ length works
  requests : AllByRecursion HasRequest works

both : (works more : List Node) → AllByRecursion HasRequest works → AllByRecursion HasRequest more → AllByRecursion HasRequest (works ++ more)
both [] more all others = others
both (work ∷ works) more all others = (all.0, both works more all.1 others)

of_layer : (after : List (List ℕ)) (requests : List RequestFields) → AllByRecursion IsRequest requests
    → AllByRecursion HasRequest (map (node_after after) requests)
unfolding HasRequest
of_layer after [] all = tt
of_layer after (request ∷ requests) all = (all.0, of_layer after requests all.1)

AreNodes-layered : (chain : ContinuationFields) (requests : List RequestFields) → AllByRecursion HasRequest chain.works → AreSome IsRequest requests
    → AreNodes (layered chain requests).works
AreNodes-layered chain requests all are =
    let some = are.0 in
    let long = length-append chain.works (map (node_after chain.last) requests) in
    let many = length-map requests (node_after chain.last) in
    record {
      some = omega arith;
      requests = both chain.works (map (node_after chain.last) requests) all (of_layer chain.last requests are.1);
    }

AreNodes-chained : (chain : ContinuationFields) (layers : List (List RequestFields)) → AreNodes chain.works → AllByRecursion (AreSome IsRequest) layers
    → AreNodes (chained chain layers).works
AreNodes-chained chain [] are all = are
AreNodes-chained chain (layer ∷ layers) are all =
    AreNodes-chained (layered chain layer) layers (AreNodes-layered chain layer are.requests all.0) all.1

AreNodes-layers : (layers : List (List RequestFields)) → AreSome (AreSome IsRequest) layers → AreNodes (chained no_layer layers).works
AreNodes-layers [] are = absurd (omega arith)
AreNodes-layers (layer ∷ layers) are =
    AreNodes-chained (layered no_layer layer) layers (AreNodes-layered no_layer layer tt are.1.0) are.1.1

AreSome-layer_in : (d : json.Data) → IfOk (layer_in d) (AreSome IsRequest)
unfolding layer_in
AreSome-layer_in d = some_holds IsRequest request_in IsRequest-request_in d

AreSome-layers_in : (d : json.Data) → IfOk (layers_in d) (AreSome (AreSome IsRequest))
unfolding layers_in
AreSome-layers_in d =
    tested_ok (AreSome (AreSome IsRequest)) (are_few d) (some_in layer_in d) (λ e. some_holds (AreSome IsRequest) layer_in AreSome-layer_in d)

AreSome-works_in : (d : json.Data) → IfOk (works_in d) (AreSome HasRequest)
unfolding works_in
AreSome-works_in d = some_holds HasRequest node_in HasRequest-node_in d

unfoldable pub IsAsked : BatchFields → Type 0
IsAsked batch = AreAsked batch.works

IsAsked-batched_by : (works : List Node) (found : Option ChainFault) → fault_in works ≡ found → AreNodes works
    → IfOk (or_fault of_chain (batched_by found works)) IsAsked
unfolding IsAsked HasRequest
IsAsked-batched_by works None none are = record { batch = IsBatch-sound works are.some none; requests = are.requests }
IsAsked-batched_by works (Some found) e are = tt

IsAsked-batched : (works : List Node) → AreNodes works → IfOk (or_fault of_chain (batched works)) IsAsked
IsAsked-batched works are = IsAsked-batched_by works (fault_in works) refl are

pub IsAsked-batch_in : (works layers : Option json.Data) → IfOk (batch_in works layers) IsAsked
unfolding batch_in
IsAsked-batch_in None None = tt
IsAsked-batch_in (Some works) None =
    bind_holds (AreSome HasRequest) IsAsked _ (works_in works) (AreSome-works_in works)
    (λ nodes are. IsAsked-batched nodes (record { some = are.0; requests = are.1 }))
IsAsked-batch_in None (Some layers) =
    bind_holds (AreSome (AreSome IsRequest)) IsAsked _ (layers_in layers) (AreSome-layers_in layers)
    (λ found are. IsAsked-batched (chained no_layer found).works (AreNodes-layers found are))
IsAsked-batch_in (Some works) (Some layers) = tt
