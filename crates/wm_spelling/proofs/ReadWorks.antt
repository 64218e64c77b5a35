-- A work is read from its spelling.
use Rattle.std.proofs.Common.{◌≡◌, ℕ, ◌^◌, ◌<◌, Bool, true, false, List, [], ◌∷◌, ◌++◌, length, map, max, min, Option, Some, None, IfSome, option_map, Result, Ok, Less, Greater, refl, sym, ap, ◌∙◌, lt-ltb, le-leb, append_assoc, append-nil, arith}
use Rattle.std.specs.Prelude.{codes}
use Rattle.std.specs.Cmp.Lexicographic.{slice_cmp}
use Rattle.std.specs.List.{AllByRecursion}
use Rattle.std.specs.Ordering.{nat_cmp, ordering_reverse}
use Rattle.std.proofs.lemmas.Bool.{le-ltb}
use Rattle.std.proofs.lemmas.Cmp.{nat_list_cmp_total}
use Rattle.serde_json.specs.Data as json
use Rattle.serde_json.specs.Find.{get}
use Rattle.wm_collections.proofs.Lists.{All-weaker}
use Rattle.wm_collections.specs.Lists.{AscendByBytes}
use Rattle.wm_conditions.specs.declared.conditions.Constraints.{Constraints}
use Rattle.wm_conditions.specs.declared.conditions.Network.{Network}
use Rattle.wm_conditions.specs.declared.conditions.Network.TheVariants as network
use Rattle.wm_data.proofs.ItemLists.{item_list-items_of}
use Rattle.wm_data.proofs.ReadBack.{read_data-data_json}
use Rattle.wm_data.specs.DataJson.{data_json, list_of}
use Rattle.wm_data.specs.declared.merger.Merger.{Merger}
use Rattle.wm_data.specs.declared.merger.Merger.TheVariants.{Overwriting, ArrayCreating}
use Rattle.wm_request.specs.Building.{backoff_of, built_of, has_long_period, is_short, with_tag}
use Rattle.wm_request.specs.Requests.{IsNextRun, IsRequest, IsShortText, RequestFields}
use Rattle.wm_request.specs.declared.request.NextRun.{NextRun}
use Rattle.wm_request.specs.declared.request.NextRun.TheVariants.{Leave, At, Clear}
use Rattle.wm_request.specs.declared.request.Node.{Node}
use Rattle.wm_schedule.specs.Clamped.{clamped_delay, clamped_period, IsBackoffDelay, IsPeriod}
use Rattle.wm_schedule.specs.Moments.{IsDelay}
use Rattle.wm_schedule.specs.declared.schedule.Backoff.{Backoff}
use Rattle.wm_schedule.specs.declared.schedule.BackoffPolicy.{BackoffPolicy}
use Rattle.wm_schedule.specs.declared.schedule.BackoffPolicy.TheVariants.{Linear, Exponential}
use Rattle.wm_schedule.specs.declared.schedule.Period.{Period}
use Rattle.wm_script.specs.Objects.{has_only}
use Rattle.wm_script.specs.Parts.{each_in, list_at}
use Rattle.wm_script.specs.Requests.{asked_for, next_of, node_in, request_in, with_tags}
use Rattle.wm_script.specs.Values.{flag_at, id_in, id_part, short_in, text_part, whole_at, whole_in}
use Rattle.wm_script.specs.Works.{backoff_at, backoff_policy_at, class_at, constraints_at, flex_at, id_at, merger_at, network_at, next_at, next_in, period_at, work_keys, work_of, PeriodForm, WorkForm}
use Rattle.wm_script.specs.declared.parts.Unread.{Unread}
use Rattle.wm_spelling.specs.Names.{backoff_name, merger_name, network_name}
use Rattle.wm_spelling.specs.Works.{backoff_json, constraints_json, count, id_json, ids_json, node_json, request_json, texts_json, with_next, with_period, work_members}
use Rattle.wm_spelling.proofs.OwnBatches.{IsOwnNode}
use Rattle.wm_spelling.proofs.OwnIds.{IsOwnId}

-- ---- single values

pub read-count : (n : ℕ) → n < 2 ^ 53 → whole_in (count n) ≡ Some n
unfolding whole_in
read-count n below = rw (lt-ltb n (2 ^ 53) below) refl

-- a delay is read
read-delay : (n : ℕ) → IsDelay n → whole_in (count n) ≡ Some n
read-delay n is = read-count n (omega (arith, is))

pub read-id : (id : List ℕ) → IsOwnId id → id_in (id_json id) ≡ Some id
unfolding id_in IsOwnId
read-id id own = own

pub is_short-text : (text : List ℕ) → IsShortText text → is_short text ≡ true
is_short-text text short =
    let some = short.not_empty in
    let few = short.short in
    rw (lt-ltb 0 (length text) (omega arith), le-leb (length text) 200 few) refl

pub read-text : (text : List ℕ) → IsShortText text → short_in (json.string text) ≡ Some text
unfolding short_in
read-text text short = rw (is_short-text text short) refl

-- ---- lists

-- each item is read as what it was written for
pub read-each : {T : Type 0} (form : T → json.Data) (reading : json.Data → Result T Unread) (xs : List T)
    → AllByRecursion (λ x. reading (form x) ≡ Ok x) xs → each_in reading (map form xs) ≡ Ok xs
read-each form reading [] all = refl
read-each form reading (x ∷ xs) all = rw (all.0, read-each form reading xs all.1) refl

pub read-list : {T : Type 0} (form : T → json.Data) (reading : json.Data → Result T Unread) (xs : List T)
    → AllByRecursion (λ x. reading (form x) ≡ Ok x) xs → list_at reading (Some (list_of form xs)) ≡ Ok xs
read-list form reading xs all = ap (each_in reading) (item_list-items_of (map form xs)) ∙ read-each form reading xs all

pub read-ids : (ids : List (List ℕ)) → AllByRecursion IsOwnId ids → list_at id_part (Some (ids_json ids)) ≡ Ok ids
read-ids ids own = read-list id_json id_part ids (All-weaker ids (λ id is. rw (read-id id is) refl) own)

pub read-texts : (texts : List (List ℕ)) → AllByRecursion IsShortText texts → list_at text_part (Some (texts_json texts)) ≡ Ok texts
read-texts texts short = read-list json.string text_part texts (All-weaker texts (λ text is. rw (read-text text is) refl) short)

-- ---- the parts of a work

read-merger : (m : Merger) → merger_at (Some (json.string (merger_name m))) ≡ Some m
unfolding merger_at
read-merger Overwriting = refl
read-merger ArrayCreating = refl

read-network : (n : Network) → network_at (Some (json.string (network_name n))) ≡ Some n
unfolding network_at
read-network network.NotRequired = refl
read-network network.Connected = refl
read-network network.Unmetered = refl
read-network network.NotRoaming = refl
read-network network.Metered = refl

read-constraints : (c : Constraints) → constraints_at (Some (constraints_json c)) ≡ Some c
unfolding constraints_at flag_at has_only
read-constraints c = rw (read-network c.network) refl

read-policy : (p : BackoffPolicy) → backoff_policy_at (Some (json.string (backoff_name p))) ≡ Some p
unfolding backoff_policy_at
read-policy Linear = refl
read-policy Exponential = refl

read-backoff : (b : Backoff) → IsBackoffDelay b.delay → backoff_at (Some (backoff_json b)) ≡ Some b
unfolding backoff_at whole_at has_only
read-backoff b is =
    let most = is.most in
    rw (read-policy b.policy, read-count b.delay (omega arith)) refl

-- ---- the period

-- what stands under the keys of a period
abbrev period_at_key : Option Period → Option json.Data
period_at_key period = option_map (λ p. count p.period) period

abbrev flex_at_key : Option Period → Option json.Data
flex_at_key period = option_map (λ p. count p.flex) period

abbrev next_at_key : NextRun → Option json.Data
next_at_key Leave = None
next_at_key (At moment) = Some (count moment)
next_at_key Clear = Some json.null

-- the form of a period
abbrev form_of : Option Period → NextRun → Option PeriodForm
form_of period next = option_map (λ p. record { period = p.period; flex = Some p.flex; next = next }) period

read-next : (period : Period) (next : NextRun) → IsNextRun (Some period) next → next_at (next_at_key next) ≡ Some next
unfolding next_at next_in
read-next period Leave is = refl
read-next period (At moment) is = rw (read-count moment is) refl
read-next period Clear is = refl

read-period : (period : Option Period) (next : NextRun) → IfSome period (λ p. IsPeriod p × IsDelay p.period) → IsNextRun period next
    → period_at (period_at_key period) (flex_at_key period) (next_at_key next) ≡ Some (form_of period next)
unfolding period_at flex_at
read-period None Leave within is = refl
read-period None (At moment) within is = absurd is
read-period None Clear within is = absurd is
read-period (Some p) next within is =
    let flex_within = within.0.flex_within in
    let short = within.1 in
    rw (read-delay p.period short, read-delay p.flex (omega arith), read-next p next is) refl

-- ---- what is asked for

clamped : (p : Period) → IsPeriod p → clamped_period p.period (Some p.flex) ≡ p
clamped p is =
    let least = is.least in
    let least_flex = is.least_flex in
    let within = is.flex_within in
    let period : max p.period 900000 ≡ p.period = omega arith in
    let flex : min (max p.flex 300000) p.period ≡ p.flex = omega arith in
    rw (period, flex) refl

asked_period : (period : Option Period) (next : NextRun) → IfSome period (λ p. IsPeriod p × IsDelay p.period)
    → option_map (λ f. clamped_period f.period f.flex) (form_of period next) ≡ period
asked_period None next within = refl
asked_period (Some p) next within = ap Some (clamped p within.0)

asked_next : (period : Option Period) (next : NextRun) → IsNextRun period next → next_of (form_of period next) ≡ next
asked_next None Leave is = refl
asked_next None (At moment) is = absurd is
asked_next None Clear is = absurd is
asked_next (Some p) next is = refl

asked_backoff : (b : Backoff) → IsBackoffDelay b.delay → backoff_of b.policy b.delay ≡ b
asked_backoff b is =
    let least = is.least in
    let most = is.most in
    let same : clamped_delay b.delay ≡ b.delay = omega arith in
    rw same refl

-- a tag above the others goes last
tag_last : (tag : List ℕ) (done more : List (List ℕ)) → AscendByBytes (done ++ tag ∷ more) → with_tag tag done ≡ done ++ tag ∷ []
tag_last tag [] more up = refl
tag_last tag (first ∷ done) more up =
    let after : slice_cmp nat_cmp tag first ≡ Greater = nat_list_cmp_total.antisymm tag first ∙ ap ordering_reverse (above done up.0) in
    rw after (ap (λ rest. first ∷ rest) (tag_last tag done more up.1)) where
      above : (rest : List (List ℕ)) → AllByRecursion (λ later. slice_cmp nat_cmp first later ≡ Less) (rest ++ tag ∷ more) → slice_cmp nat_cmp first tag ≡ Less
      above [] all = all.0
      above (other ∷ rest) all = above rest all.1

asked_tags : (done more : List (List ℕ)) → AscendByBytes (done ++ more) → with_tags more done ≡ done ++ more
asked_tags done [] up = sym (append-nil done)
asked_tags done (tag ∷ more) up =
    let whole = append_assoc done (tag ∷ []) more in
    rw (tag_last tag done more up) (asked_tags (done ++ tag ∷ []) more (rw whole up) ∙ whole)

short_period : (period : Option Period) → IfSome period (λ p. IsPeriod p × IsDelay p.period) → has_long_period period ≡ false
short_period None within = refl
short_period (Some p) within = le-ltb 315360000000 p.period within.1

-- a request within its limits is built
built : (request : RequestFields) → IsRequest request → built_of request ≡ Ok request
built request is =
    let within = is.within in
    rw (
      is_short-text request.class within.class_is,
      le-ltb 32 (length request.tags) within.tags_are.few,
      le-ltb 315360000000 request.initial_delay within.delay_is,
      le-ltb 315360000000 request.keep within.keep_is,
      short_period request.period within.period_is,
    ) refl

-- ---- a work

-- what is found under the keys of a work, and whether it has no other key
record Found : Type 0 where
  keys : Bool
  id : Option json.Data
  class : Option json.Data
  input : Option json.Data
  merger : Option json.Data
  tags : Option json.Data
  constraints : Option json.Data
  backoff : Option json.Data
  delay : Option json.Data
  period : Option json.Data
  flex : Option json.Data
  next : Option json.Data
  keep : Option json.Data
  after : Option json.Data

abbrev found : json.Data → Found
found d = record {
  keys = has_only work_keys d;
  id = get (codes "id") d;
  class = get (codes "class") d;
  input = get (codes "input") d;
  merger = get (codes "merger") d;
  tags = get (codes "tags") d;
  constraints = get (codes "constraints") d;
  backoff = get (codes "backoff") d;
  delay = get (codes "delay") d;
  period = get (codes "period") d;
  flex = get (codes "flex") d;
  next = get (codes "next") d;
  keep = get (codes "keep") d;
  after = get (codes "after") d;
}

abbrev spelled : RequestFields → Option Period → NextRun → Option json.Data → Found
spelled request period next after = record {
  keys = true;
  id = Some (id_json request.id);
  class = Some (json.string request.class);
  input = Some (data_json request.input);
  merger = Some (json.string (merger_name request.merger));
  tags = Some (texts_json request.tags);
  constraints = Some (constraints_json request.constraints);
  backoff = Some (backoff_json request.backoff);
  delay = Some (count request.initial_delay);
  period = period_at_key period;
  flex = flex_at_key period;
  next = next_at_key next;
  keep = Some (count request.keep);
  after = after;
}

found-request : (request : RequestFields) (period : Option Period) (next : NextRun)
    → found (json.object (with_next next (with_period period (work_members request)))) ≡ spelled request period next None
unfolding has_only
found-request request None Leave = refl
found-request request None (At moment) = refl
found-request request None Clear = refl
found-request request (Some period) Leave = refl
found-request request (Some period) (At moment) = refl
found-request request (Some period) Clear = refl

found-node : (request : RequestFields) (period : Option Period) (next : NextRun) (after : json.Data)
    → found (json.object (json.put (codes "after") after (with_next next (with_period period (work_members request))))) ≡ spelled request period next (Some after)
unfolding has_only
found-node request None Leave after = refl
found-node request None (At moment) after = refl
found-node request None Clear after = refl
found-node request (Some period) Leave after = refl
found-node request (Some period) (At moment) after = refl
found-node request (Some period) Clear after = refl

-- the form of a request
abbrev work_form : RequestFields → WorkForm
work_form request = record {
  id = request.id;
  class = request.class;
  input = Some (data_json request.input);
  merger = request.merger;
  constraints = request.constraints;
  backoff = request.backoff;
  delay = request.initial_delay;
  period = form_of request.period request.next;
  keep = request.keep;
}

module _ (d : json.Data) (request : RequestFields) (given : Option json.Data) (is : IsRequest request) (own : IsOwnId request.id)
    (stands : found d ≡ spelled request request.period request.next given) where
  read-work : work_of d ≡ Some (work_form request)
  unfolding work_of id_at class_at whole_at
  read-work =
      let keys_is : has_only work_keys d ≡ true = ap (λ f. f.keys) stands in
      let id_is : get (codes "id") d ≡ Some (id_json request.id) = ap (λ f. f.id) stands in
      let class_is : get (codes "class") d ≡ Some (json.string request.class) = ap (λ f. f.class) stands in
      let input_is : get (codes "input") d ≡ Some (data_json request.input) = ap (λ f. f.input) stands in
      let merger_is : get (codes "merger") d ≡ Some (json.string (merger_name request.merger)) = ap (λ f. f.merger) stands in
      let constraints_is : get (codes "constraints") d ≡ Some (constraints_json request.constraints) = ap (λ f. f.constraints) stands in
      let backoff_is : get (codes "backoff") d ≡ Some (backoff_json request.backoff) = ap (λ f. f.backoff) stands in
      let delay_is : get (codes "delay") d ≡ Some (count request.initial_delay) = ap (λ f. f.delay) stands in
      let period_is : get (codes "period") d ≡ period_at_key request.period = ap (λ f. f.period) stands in
      let flex_is : get (codes "flex") d ≡ flex_at_key request.period = ap (λ f. f.flex) stands in
      let next_is : get (codes "next") d ≡ next_at_key request.next = ap (λ f. f.next) stands in
      let keep_is : get (codes "keep") d ≡ Some (count request.keep) = ap (λ f. f.keep) stands in
      rw (keys_is, id_is, class_is, input_is, merger_is, constraints_is, backoff_is, delay_is, period_is, flex_is, next_is, keep_is)
      (rw (
        read-id request.id own,
        read-merger request.merger,
        read-constraints request.constraints,
        read-backoff request.backoff is.within.backoff_is,
        read-delay request.initial_delay is.within.delay_is,
        read-period request.period request.next is.within.period_is is.within.next_is,
        read-delay request.keep is.within.keep_is,
      ) refl)

  asked : asked_for (work_form request) request.tags request.input ≡ request
  asked =
      rw (
        asked_tags [] request.tags is.within.tags_are.sorted.ascending,
        asked_backoff request.backoff is.within.backoff_is,
        asked_period request.period request.next is.within.period_is,
        asked_next request.period request.next is.within.next_is,
      ) refl

  read-node : (after : List (List ℕ)) → list_at id_part given ≡ Ok after → node_in d ≡ Ok (record { request = request; after = after })
  unfolding node_in
  read-node after read =
      let tags_is : get (codes "tags") d ≡ Some (texts_json request.tags) = ap (λ f. f.tags) stands in
      let after_is : get (codes "after") d ≡ given = ap (λ f. f.after) stands in
      let built_is : built_of (asked_for (work_form request) request.tags request.input) ≡ Ok request = ap built_of asked ∙ built request is in
      rw (
        read-work,
        tags_is,
        read-texts request.tags is.within.tags_are.sorted.short,
        after_is,
        read,
        read_data-data_json request.input is.input,
        built_is,
      ) refl

  read-request : given ≡ None → request_in d ≡ Ok request
  unfolding request_in
  read-request none =
      let after_is : get (codes "after") d ≡ None = ap (λ f. f.after) stands ∙ none in
      rw (after_is, read-node [] (rw none refl)) refl

pub request_in-request_json : (request : RequestFields) → IsRequest request → IsOwnId request.id → request_in (request_json request) ≡ Ok request
request_in-request_json request is own =
    read-request (request_json request) request None is own (found-request request request.period request.next) refl

pub node_in-node_json : (node : Node) → IsRequest node.request → IsOwnNode node → node_in (node_json node) ≡ Ok node
node_in-node_json node is own =
    let stands = found-node node.request node.request.period node.request.next (ids_json node.after) in
    read-node (node_json node) node.request (Some (ids_json node.after)) is own.id stands node.after (read-ids node.after own.after)
