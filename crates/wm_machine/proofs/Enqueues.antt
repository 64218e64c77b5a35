-- What is owed for an enqueue.
use Rattle.std.proofs.Common.{◌≡◌, ◌≢◌, ◌&&◌, ℕ, ◌+◌, ◌^◌, ◌<◌, ◌≤◌, Bool, true, false, cond, ltb, List, [], ◌∷◌, ◌++◌, filter, find, is_some, length, map, Option, Some, None, option_map, IfSome, refl, sym, ◌∙◌, ap, subst, arith, inl, inr, length-append}
use Rattle.std.proofs.lemmas.List.{map-append}
use Rattle.std.specs.List.{AllByRecursion}
use Rattle.std.specs.Str.{bytes_eq}
use Rattle.std.proofs.lemmas.Bool.{cases_Bool, cond_both, ltb-false, or_left, or_right, true≢false}
use Rattle.wm_collections.specs.Lists.{AllLater, HasOne}
use Rattle.wm_collections.proofs.Lists.{All-any, All-map, All-push, All-stored, All-weaker, All-with2, All-with3, AllLater-any, AllLater-push, HasOne-front, find-none, list_any-false, none_pass, option_map-none}
use Rattle.wm_machine.proofs.Owed.{IsAnswered, IsLinedIn-quiet}
use Rattle.wm_machine.proofs.Placings.{bytes_eq-refl, bytes_eq-same, few_named, few_others, idle-placed, IsOneTime, IsPlaceable, IsRecord-placed, placeable-naming, prior-both, sound-placed}
use Rattle.wm_machine.proofs.Runnings.{AreRuns-beside}
use Rattle.wm_machine.specs.Built.{AreAsked}
use Rattle.wm_machine.specs.Cancelled.{is_stored}
use Rattle.wm_machine.specs.Enqueued.{count_prior, first_refusal, id_in_use, is_stored_periodic, new_record, no_such_prerequisite, numbers_spent, outcome_by, periodic_in_chain, placed_after, prior_of, refusal_of, refusal_of_placing, too_many_after, too_many_works, with_work, without}
use Rattle.wm_machine.specs.Frame.{untouched}
use Rattle.wm_machine.specs.Plan.{placed_freely, Placing}
use Rattle.wm_machine.specs.Valid.{Valid, AreOfOneKind, ArePriorSound, IsRecord}
use Rattle.wm_machine.specs.Types.{Command, Node, Period, Phase, Record, Refusal, State}
use Rattle.wm_machine.specs.declared.command.Command.TheVariants as command
use Rattle.wm_machine.specs.declared.record.How.TheVariants as how
use Rattle.wm_machine.specs.declared.record.Phase.TheVariants as phase
use Rattle.wm_machine.specs.declared.reply.Refusal.TheVariants.{IdInUse, NumbersSpent, PeriodicInChain, TooManyPrerequisites, TooManyWorks}
use Rattle.wm_request.specs.Batches.{has_id, ids_of, is_periodic, periodic_ids, AreDifferent, BatchFields}
use Rattle.wm_request.specs.Requests.{of_record, IsRequest, IsShortText, RequestFields}

-- what is sound stays so beside a record of another number than any that is named
sound-front : (works : List Record) (work : Record) (p : Phase) (prior : List ℕ) → AllByRecursion (λ number. number ≢ work.seq) prior
    → ArePriorSound works p prior → ArePriorSound (works ++ work ∷ []) p prior
sound-front works work phase.Waiting prior others sound = All-weaker prior (λ number one. HasOne-front _ works (work ∷ []) one) sound
sound-front works work phase.Running prior others sound =
    All-weaker prior (λ number both. (HasOne-front _ works (work ∷ []) both.0, HasOne-front _ works (work ∷ []) both.1)) sound
sound-front works work (phase.Done how.Succeeded) prior others sound =
    All-with2 prior (λ number differs succeeded. All-push _ works work succeeded (λ same. absurd (differs (sym same)))) others sound
sound-front works work (phase.Done how.Failed) prior others sound = tt
sound-front works work (phase.Done how.Cancelled) prior others sound = tt

-- no record names the next number
names_before : (s : State) (work : Record) → work.seq < s.next → IsRecord work → AllByRecursion (λ number. number ≢ s.next) work.prior
names_before s work below is = All-weaker work.prior (λ number both same. let less = both.1 in absurd (omega (arith, less, below, same))) is.prior.earlier

-- nor does a work that is placed under it
own_names_before : (s : State) (work : Record) → IsRecord work → AllByRecursion (λ number. number ≢ work.seq) work.prior
own_names_before s work is = All-weaker work.prior (λ number both same. let less = both.1 in absurd (omega (arith, less, same))) is.prior.earlier

sound-with_work : (s : State) (work : Record) → Valid s → work.seq ≡ s.next → ArePriorSound (s.works ++ work ∷ []) work.phase work.prior
    → AllByRecursion (λ other. ArePriorSound (s.works ++ work ∷ []) other.phase other.prior) (s.works ++ work ∷ [])
sound-with_work s work valid numbered new =
    All-push _ s.works work (All-with3 s.works (λ other below fine sound. sound-front s.works work other.phase other.prior
    (subst (λ n. AllByRecursion (λ number. number ≢ n) other.prior) (sym numbered) (names_before s other below fine)) sound)
    valid.works.numbers valid.works.records
    valid.works.sound) new

-- a record under the next number and with a new id, of one kind with those of its name, which isn't running, keeps what is valid, where there
-- is room
Valid-with_work : (s : State) (work : Record) → Valid s → ArePriorSound (s.works ++ work ∷ []) work.phase work.prior → work.seq ≡ s.next
    → AllByRecursion (λ other. AreOfOneKind other work) s.works → is_stored s.works work.request.id ≡ false → IsRecord work → (work.phase ≡ phase.Running → ⊥)
    → length s.works + 1 ≤ 100000 → s.next + 1 ≤ 2 ^ 53 → Valid (with_work s work)
Valid-with_work s work valid sound numbered named new fine idle room numbers = record {
  works = record {
    first = let first = valid.works.first in omega arith;
    fits = numbers;
    numbers = All-push _ s.works work (All-weaker s.works (λ w below. omega arith) valid.works.numbers) (omega arith);
    few = omega (arith, length-append s.works (work ∷ []));
    records = All-push _ s.works work valid.works.records fine;
    in_order = AllLater-push _ s.works work valid.works.in_order (All-with3 s.works (λ other kind below differs. record {
      number = omega (arith, below, numbered);
      id = λ e. true≢false (sym (ap (λ id. bytes_eq id work.request.id) e ∙ bytes_eq-refl work.request.id) ∙ differs);
      name = kind;
    }) named valid.works.numbers (none_pass (λ other. bytes_eq other.request.id work.request.id) s.works new));
    sound = sound-with_work s work valid numbered sound;
  };
  runs = AreRuns-beside s (s.works ++ work ∷ []) valid (All-push _ s.works work valid.runs.running (λ e. absurd (idle e)))
      (λ run one. HasOne-front _ s.works (work ∷ []) one);
  instances = valid.instances;
  few_observers = valid.few_observers;
  now = valid.now;
}

pub first_refusal-none : (check : Option Refusal) (checks : List (Option Refusal)) → first_refusal (check ∷ checks) ≡ None
    → (check ≡ None) × (first_refusal checks ≡ None)
first_refusal-none (Some found) checks none = absurd (cc)
first_refusal-none None checks none = (refl, none)

pub not_found : (test : Bool) (found : Refusal) → cond test (Some found) None ≡ None → test ≡ false
not_found true found none = absurd (cc)
not_found false found none = refl

-- what the checks of a batch leave, where none refuses it
pub record PassesChecks (s : State) (placing : Placing) (works : List Node) : Type 0 where
  pub room : length s.works + length works ≤ 100000
  pub numbers : s.next + length works ≤ 2 ^ 53
  pub new : id_in_use s works ≡ None
  pub known : no_such_prerequisite (without placing.let_go s.works) [] works ≡ None
  pub one_time : periodic_in_chain s.works works ≡ None
  pub few : too_many_after placing.after works ≡ None

pub passes : (s : State) (placing : Placing) (works : List Node) → refusal_of_placing s placing works ≡ None → PassesChecks s placing works
passes s placing works none =
    let last = too_many_after placing.after works ∷ [] in
    let chain = periodic_in_chain s.works works ∷ last in
    let known = no_such_prerequisite (without placing.let_go s.works) [] works ∷ chain in
    let ids = id_in_use s works ∷ known in
    let first = first_refusal-none (too_many_works s works) (numbers_spent s works ∷ ids) none in
    let second = first_refusal-none (numbers_spent s works) ids first.1 in
    let third = first_refusal-none (id_in_use s works) known second.1 in
    let fourth = first_refusal-none (no_such_prerequisite (without placing.let_go s.works) [] works) chain third.1 in
    let fifth = first_refusal-none (periodic_in_chain s.works works) last fourth.1 in
    let sixth = first_refusal-none (too_many_after placing.after works) [] fifth.1 in
    record {
      room = ltb-false 100000 (length s.works + length works) (not_found (ltb 100000 (length s.works + length works)) (TooManyWorks (length s.works)) first.0);
      numbers = ltb-false (2 ^ 53) (s.next + length works) (not_found (ltb (2 ^ 53) (s.next + length works)) (NumbersSpent s.next) second.0);
      new = third.0;
      known = fourth.0;
      one_time = fifth.0;
      few = sixth.0;
    }

-- ---- what is asked of the works that are left

pub not_some : (period : Option Period) → is_some period ≡ false → period ≡ None
not_some None none = refl
not_some (Some period) none = absurd (true≢false none)

of_ids : (work : Node) (works : List Node) → AllByRecursion (λ id. work.request.id ≢ id) (ids_of works)
    → AllByRecursion (λ later. work.request.id ≢ later.request.id) works
of_ids work [] differ = tt
of_ids work (other ∷ works) differ = (differ.0, of_ids work works differ.1)

-- the ids of works differ
differ_each : (works : List Node) → AreDifferent (ids_of works) → AllLater (λ one later. one.request.id ≢ later.request.id) works
differ_each [] differ = tt
differ_each (work ∷ works) differ = (of_ids work works differ.0, differ_each works differ.1)

-- what a periodic request is not
abbrev IsOtherOrOneTime : List ℕ → RequestFields → Type 0
IsOtherOrOneTime id request = bytes_eq request.id id ≡ true → request.period ≡ None

-- each of the works names only one-time works of these requests, and of the works before it
abbrev NamesOneTime : List RequestFields → List Node → Type 0
NamesOneTime requests [] = Unit {0}
NamesOneTime requests (node ∷ nodes) =
    AllByRecursion (λ id. AllByRecursion (IsOtherOrOneTime id) requests) node.after × NamesOneTime (requests ++ of_record node.request.id node.request.keep node.request ∷ []) nodes

abbrev requests_of : List Record → List RequestFields
requests_of works = map (λ work. work.request) works

-- where a record has the name under which a work is placed, both are one-time
abbrev pub IsOfItsKind : Option (List ℕ) → Record → Node → Type 0
IsOfItsKind name work node = (text : List ℕ) → work.name ≡ Some text → name ≡ Some text → (work.request.period ≡ None) × (node.request.period ≡ None)

-- where there is a name, two works that are placed under it are one-time
abbrev pub AreBothOneTime : Option (List ℕ) → Node → Node → Type 0
AreBothOneTime name one other = (text : List ℕ) → name ≡ Some text → (one.request.period ≡ None) × (other.request.period ≡ None)

-- works can share this name with these records and among each other
pub record CanShare (works : List Record) (name : Option (List ℕ)) (nodes : List Node) : Type 0 where
  pub records : AllByRecursion (λ work. AllByRecursion (IsOfItsKind name work) nodes) works
  pub among : AllLater (AreBothOneTime name) nodes

-- works can come after the works of these numbers: those are different one-time records, and there are none where a work is periodic
pub record CanFollow (works : List Record) (after : List ℕ) (nodes : List Node) : Type 0 where
  pub different : AllLater (λ number later. number ≢ later) after
  pub one_time : AllByRecursion (λ number. HasOne (IsOneTime number) works) after
  pub alone : AllByRecursion (λ node. (period : Period) → node.request.period ≡ Some period → after ≡ []) nodes

-- works that can be placed after these records, one after another
pub record ArePlaceable (works : List Record) (name : Option (List ℕ)) (after : List ℕ) (nodes : List Node) : Type 0 where
  pub requests : AllByRecursion (λ node. IsRequest node.request) nodes
  pub new : AllByRecursion (λ node. is_stored works node.request.id ≡ false) nodes
  pub differ : AllLater (λ one later. one.request.id ≢ later.request.id) nodes
  pub few : AllByRecursion (λ node. count_prior after node.after ≤ 100) nodes
  pub different : AllByRecursion (λ node. AreDifferent node.after) nodes
  pub alone : AllByRecursion (λ node. (period : Period) → node.request.period ≡ Some period → node.after ≡ []) nodes
  pub one_time : NamesOneTime (requests_of works) nodes
  pub shares : CanShare works name nodes
  pub follows : CanFollow works after nodes

-- a fact of the requests is one of the records
of_requests : (P : RequestFields → Type 0) (works : List Record) → AllByRecursion P (requests_of works) → AllByRecursion (λ work. P work.request) works
of_requests P [] all = tt
of_requests P (work ∷ works) all = (all.0, of_requests P works all.1)

-- and the other way round
to_requests : (P : RequestFields → Type 0) (works : List Record) → AllByRecursion (λ work. P work.request) works → AllByRecursion P (requests_of works)
to_requests P [] all = tt
to_requests P (work ∷ works) all = (all.0, to_requests P works all.1)

-- the first of them
first_placeable : (s : State) (name : Option (List ℕ)) (after : List ℕ) (node : Node) (nodes : List Node) → Valid s
    → ArePlaceable s.works name after (node ∷ nodes) → IsPlaceable s (prior_of s.works after node.after) node
first_placeable s name after node nodes valid are =
    prior-both (λ prior. IsPlaceable s prior node) s.works after node.after
    (placeable-naming s node valid are.requests.0 (few_named after node.after are.few.0) are.different.0
    (All-weaker node.after (λ id all. of_requests (IsOtherOrOneTime id) s.works all) are.one_time.0) are.alone.0) (λ none. record {
      request = are.requests.0;
      few = few_others after node.after are.few.0 none;
      different = are.follows.different;
      one_time = are.follows.one_time;
      alone = are.follows.alone.0;
    })

-- a record more has the id of no work that is left
is_stored-push : (works : List Record) (work : Record) (id : List ℕ) → is_stored works id ≡ false → work.request.id ≢ id
    → is_stored (works ++ work ∷ []) id ≡ false
is_stored-push works work id none differs =
    list_any-false (λ w. bytes_eq w.request.id id) (works ++ work ∷ []) (All-push _ works work (none_pass (λ w. bytes_eq w.request.id id) works none)
    (elim (cases_Bool (bytes_eq work.request.id id)) [
      | inl e ↦ absurd (differs (bytes_eq-same work.request.id id e))
      | inr e ↦ e
    ]))

-- the others, once the first is placed
others_placeable : (works : List Record) (work : Record) (name : Option (List ℕ)) (after : List ℕ) (node : Node) (nodes : List Node)
    → work.request ≡ of_record node.request.id node.request.keep node.request → ArePlaceable works name after (node ∷ nodes) → ArePlaceable (works ++ work ∷ []) name after nodes
others_placeable works work name after node nodes same are =
    let period = ap (λ (r : RequestFields). r.period) same in
    record {
      requests = are.requests.1;
      new = All-with2 nodes (λ later one differs. is_stored-push works work later.request.id one
          (λ e. differs (sym (ap (λ (r : RequestFields). r.id) same) ∙ e))) are.new.1 are.differ.0;
      differ = are.differ.1;
      few = are.few.1;
      different = are.different.1;
      alone = are.alone.1;
      one_time = subst (λ (requests : List RequestFields). NamesOneTime requests nodes)
          (sym (map-append (λ (w : Record). w.request) works (work ∷ []) ∙ ap (λ r. requests_of works ++ r ∷ []) same)) are.one_time.1;
      shares = record {
        records = All-push _ works work (All-weaker works (λ w all. all.1) are.shares.records)
            (All-weaker nodes (λ later both text is has. let kinds = both text has in (period ∙ kinds.0, kinds.1)) are.shares.among.0);
        among = are.shares.among.1;
      };
      follows = record {
        different = are.follows.different;
        one_time = All-weaker after (λ number one. HasOne-front _ works (work ∷ []) one) are.follows.one_time;
        alone = are.follows.alone.1;
      };
    }

-- ---- a batch is placed

pub reached-placed : (s : State) (name : Option (List ℕ)) (after : List ℕ) (nodes : List Node) → Valid s → IfSome name IsShortText
    → ArePlaceable s.works name after nodes → length s.works + length nodes ≤ 100000 → s.next + length nodes ≤ 2 ^ 53
    → Valid (placed_after s name after nodes)
reached-placed s name after [] reached short are room numbers = reached
reached-placed s name after (node ∷ nodes) reached short are room numbers =
    let prior = prior_of s.works after node.after in
    let is = first_placeable s name after node nodes reached are in
    let work = new_record s name prior node in
    let one : s.next + 1 ≤ 2 ^ 53 = omega (arith, numbers) in
    let fine = IsRecord-placed s name prior node reached one short is in
    let sound = sound-placed s prior node is in
    let then = with_work s work in
    let valid =
    Valid-with_work s work reached (sound-front s.works work work.phase work.prior (own_names_before s work fine) sound) refl
    (All-weaker s.works (λ other kinds text has is. kinds.0 text has is) are.shares.records) are.new.0 fine
    (idle-placed s.works prior) (omega (arith, room)) one in
    let longer = length-append s.works (work ∷ []) in
    reached-placed then name after nodes (valid) short
    (others_placeable s.works work name after node nodes refl are) (omega (arith, room, longer)) (omega (arith, numbers))

-- ---- what the checks give

new_each : (s : State) (works : List Node) → id_in_use s works ≡ None → AllByRecursion (λ node. is_stored s.works node.request.id ≡ false) works
new_each s [] none = tt
new_each s (work ∷ works) none =
    cond_both (is_stored s.works work.request.id) (Some (IdInUse work.request.id)) (id_in_use s works)
    (λ (found : Option Refusal). found ≡ None → AllByRecursion (λ node. is_stored s.works node.request.id ≡ false) (work ∷ works))
    (λ e is. absurd (cc)) (λ e is. (e, new_each s works is)) none

few_each : (after : List ℕ) (works : List Node) → too_many_after after works ≡ None → AllByRecursion (λ node. count_prior after node.after ≤ 100) works
few_each after [] none = tt
few_each after (work ∷ works) none =
    cond_both (ltb 100 (count_prior after work.after)) (Some (TooManyPrerequisites work.request.id)) (too_many_after after works)
    (λ (found : Option Refusal). found ≡ None → AllByRecursion (λ node. count_prior after node.after ≤ 100) (work ∷ works))
    (λ e is. absurd (cc)) (λ e is. (ltb-false 100 (count_prior after work.after) e, few_each after works is)) none

-- nothing is found where each fails
pub none_found : {T U : Type 0} (test : T → Bool) (to : T → U) (xs : List T) → option_map to (find test xs) ≡ None → AllByRecursion (λ x. test x ≡ false) xs
none_found test to xs none = find-none test xs (option_map-none to (find test xs) none)

-- no stored record that a work names is periodic
stored_one_time : (stored : List Record) (works : List Node) → periodic_in_chain stored works ≡ None
    → AllByRecursion (λ node. AllByRecursion (λ id. AllByRecursion (IsOtherOrOneTime id) (requests_of stored)) node.after) works
stored_one_time stored [] none = tt
stored_one_time stored (work ∷ works) none =
    let first = first_refusal-none (option_map PeriodicInChain (find (is_stored_periodic stored) work.after)) (periodic_in_chain stored works ∷ []) none in
    let second = first_refusal-none (periodic_in_chain stored works) [] first.1 in (
      All-weaker work.after (λ id no_such. All-map _ (λ (w : Record). w.request) stored (λ other fails named.
          not_some other.request.period (sym (ap (λ b. b && is_some other.request.period) named) ∙ fails))
          (none_pass (λ other. bytes_eq other.request.id id && is_some other.request.period) stored no_such))
          (none_found (is_stored_periodic stored) PeriodicInChain work.after first.0),
      stored_one_time stored works second.0,
    )

-- the id of a periodic work of a batch is one of its periodic ids
periodic_there : (all : List Node) (id : List ℕ) (node : Node) → HasOne (λ other. other ≡ node) all → is_periodic node ≡ true
    → bytes_eq node.request.id id ≡ true → has_id (periodic_ids all) id ≡ true
periodic_there [] id node one periodic named = absurd one
periodic_there (first ∷ all) id node (inl is) periodic named =
    let here : is_periodic first ≡ true = ap is_periodic is ∙ periodic in
    subst (λ b. has_id (ids_of (cond b (first ∷ filter is_periodic all) (filter is_periodic all))) id ≡ true) (sym here)
    (or_left _ _ (ap (λ (n : Node). bytes_eq n.request.id id) is ∙ named))
periodic_there (first ∷ all) id node (inr one) periodic named =
    let rest = periodic_there all id node one periodic named in
    cond_both (is_periodic first) (first ∷ filter is_periodic all) (filter is_periodic all) (λ (found : List Node). has_id (ids_of found) id ≡ true)
    (λ e. or_right _ _ rest) (λ e. rest)

-- a work of a batch that another one names is one-time
batch_one_time : (all works : List Node) (id : List ℕ) → has_id (periodic_ids all) id ≡ false
    → AllByRecursion (λ node. HasOne (λ other. other ≡ node) all) works → AllByRecursion (λ node. IsOtherOrOneTime id node.request) works
batch_one_time all works id none stored =
    All-weaker works (λ node there named.
    elim (cases_Bool (is_periodic node)) [
      | inl e ↦ absurd (true≢false (sym (periodic_there all id node there e named) ∙ none))
      | inr e ↦ not_some node.request.period e
    ]) stored

-- what each work of a batch names, beside these requests and those before it
names_each : (all : List Node) (requests : List RequestFields) (works : List Node)
    → AllByRecursion (λ node. AllByRecursion (λ id. AllByRecursion (IsOtherOrOneTime id) requests) node.after) works
    → AllByRecursion (λ node. AllByRecursion (λ id. has_id (periodic_ids all) id ≡ false) node.after) works
    → AllByRecursion (λ node. HasOne (λ other. other ≡ node) all) works → NamesOneTime requests works
names_each all requests [] stored batch there = tt
names_each all requests (work ∷ works) stored batch there = (
  stored.0,
  names_each all (requests ++ of_record work.request.id work.request.keep work.request ∷ []) works
      (All-with2 works (λ node one_here also. All-with2 node.after (λ id one one_is. All-push _ requests (of_record work.request.id work.request.keep work.request) one
      (batch_one_time all (work ∷ []) id one_is (there.0, tt)).0) one_here also) stored.1 batch.1) batch.1 there.1,
)

-- what holds of the requests of all stored records holds of those of all works
abbrev pub HaveRequestsOf : List Record → List Record → Type 1
HaveRequestsOf works stored = (P : RequestFields → Type 0) → AllByRecursion (λ work. P work.request) stored → AllByRecursion (λ work. P work.request) works

-- a batch that no check refuses can be placed beside records of which there were those, where it can share its name and come after others
pub placeable : (s : State) (works : List Record) (name : Option (List ℕ)) (placing : Placing) (nodes : List Node) → AreAsked nodes
    → PassesChecks s placing nodes → HaveRequestsOf works s.works → CanShare works name nodes → CanFollow works placing.after nodes
    → ArePlaceable works name placing.after nodes
placeable s works name placing nodes asked checks same shares follows =
    let batch = asked.batch in
    record {
      requests = asked.requests;
      new = All-weaker nodes (λ node new. list_any-false (λ w. bytes_eq w.request.id node.request.id) works
          (same (λ request. bytes_eq request.id node.request.id ≡ false) (none_pass (λ w. bytes_eq w.request.id node.request.id) s.works new)))
          (new_each s nodes checks.new);
      differ = differ_each nodes batch.different;
      few = few_each placing.after nodes checks.few;
      different = All-weaker nodes (λ node is. is.different) batch.each;
      alone = All-weaker nodes (λ node is period repeats. is.alone (ap is_some repeats)) batch.each;
      one_time = names_each nodes (requests_of works) nodes (All-weaker nodes (λ node all. All-weaker node.after (λ id each.
          to_requests (IsOtherOrOneTime id) works (same (IsOtherOrOneTime id) (of_requests (IsOtherOrOneTime id) s.works each))) all)
          (stored_one_time s.works nodes checks.one_time)) (All-weaker nodes (λ node is. is.of_one_time) batch.each) (All-stored nodes);
      shares = shares;
      follows = follows;
    }

-- ---- without a name

no_name : (text : List ℕ) → None ≡ Some text → ⊥
no_name text is = absurd (cc)

-- works without a name share none
CanShare-unnamed : (works : List Record) (nodes : List Node) → CanShare works None nodes
CanShare-unnamed works nodes = record {
  records = All-any works (λ work. All-any nodes (λ node text has is. absurd (no_name text is)));
  among = AllLater-any nodes (λ one other text is. absurd (no_name text is));
}

-- and come after no other than they name
pub CanFollow-none : (works : List Record) (nodes : List Node) → CanFollow works [] nodes
CanFollow-none works nodes = record {
  different = tt;
  one_time = tt;
  alone = All-any nodes (λ node period is. refl);
}

reached-outcome : (s : State) (works : List Node) (found : Option Refusal) → AreAsked works → refusal_of s None works ≡ found → Valid s
    → Valid (outcome_by found s None works).state
reached-outcome s works (Some found) asked is reached = reached
reached-outcome s works None asked is reached =
    let checks = passes s placed_freely works is in
    reached-placed s None [] works reached tt
    (placeable s s.works None placed_freely works asked checks (λ P all. all) (CanShare-unnamed s.works works) (CanFollow-none s.works works)) checks.room
    checks.numbers

-- ---- the frame

pub frame-placed : (s : State) (commands : List Command) (name : Option (List ℕ)) (after : List ℕ) (nodes : List Node)
    → untouched (placed_after s name after nodes) commands ≡ untouched s commands
frame-placed s commands name after [] = refl
frame-placed s commands name after (node ∷ nodes) =
    frame-placed (with_work s (new_record s name (prior_of s.works after node.after) node)) commands name after nodes

frame-outcome : (s : State) (commands : List Command) (found : Option Refusal) (works : List Node)
    → untouched (outcome_by found s None works).state commands ≡ untouched s commands
frame-outcome s commands (Some found) works = refl
frame-outcome s commands None works = frame-placed s commands None [] works

-- ---- what is owed

pub enqueue-answered : (s : State) (batch : BatchFields) → AreAsked batch.works → IsAnswered s (command.Enqueue None batch)
enqueue-answered s batch asked = record {
  answered = λ rest. refl;
  reached = λ reached. reached-outcome s batch.works (refusal_of s None batch.works) asked refl reached;
  frame = IsLinedIn-quiet (command.Enqueue None batch) s _
      (frame-outcome s (command.Enqueue None batch ∷ []) (refusal_of s None batch.works) batch.works);
}
