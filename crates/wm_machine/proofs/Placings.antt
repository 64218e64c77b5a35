-- A new work with prerequisites: which records they are, and that it is as every record.
use Rattle.std.proofs.Common.{◌≡◌, ◌≢◌, ℕ, ◌+◌, ◌^◌, ◌<◌, ◌≤◌, ◌&&◌, Bool, true, false, cond, eqb, List, [], ◌∷◌, ◌++◌, map, filter, length, length-append, Option, Some, None, IfSome, refl, sym, ◌∙◌, ap, subst, arith, inl, inr}
use Rattle.std.specs.List.{AllByRecursion, list_any}
use Rattle.std.specs.Str.{bytes_eq}
use Rattle.std.proofs.lemmas.Bool.{and_from, and_parts, cond_both, eq-eqb, eqb-true, false≢true, true≢false}
use Rattle.std.proofs.lemmas.List.Concat.{flat_map-cons}
use Rattle.std.proofs.lemmas.List.Elements.{All-from_recursion}
use Rattle.wm_collections.specs.Lists.{AllLater, HasOne}
use Rattle.wm_collections.proofs.Lists.{All-append, All-filter, All-map, All-stored, All-weaker, All-with2, All-with3, AllLater-append, AllLater-few, HasOne-weaker, HasOne-with, none_pass, one_gives}
use Rattle.wm_machine.proofs.Records.{IsData-empty, IsRequest-of_record, next-fits, next-override}
use Rattle.wm_machine.proofs.Runnings.{all_of_number}
use Rattle.wm_machine.specs.Enqueued.{any_in, count_prior, first_finished_at, first_phase, is_cancelled, is_failed, new_record, numbers_of, prior_of}
use Rattle.wm_machine.specs.Valid.{ArePrior, ArePriorSound, IsAttemptIn, IsBefore, IsFinishedIn, IsOfKind, MaySucceedOrHas, IsOutputIn, IsPeriodicPhase, IsProgressIn, IsRecord, Valid}
use Rattle.wm_machine.specs.declared.record.How.TheVariants as how
use Rattle.wm_machine.specs.Types.{Node, Period, Phase, Record, State}
use Rattle.wm_machine.specs.declared.record.Phase.TheVariants as phase
use Rattle.wm_request.specs.Batches.{AreDifferent}
use Rattle.wm_request.specs.Requests.{IsRequest, IsShortText}

-- ---- texts

pub bytes_eq-refl : (text : List ℕ) → bytes_eq text text ≡ true
bytes_eq-refl [] = refl
bytes_eq-refl (byte ∷ text) = and_from _ _ (eq-eqb byte byte refl) (bytes_eq-refl text)

pub bytes_eq-same : (one other : List ℕ) → bytes_eq one other ≡ true → one ≡ other
bytes_eq-same [] [] is = refl
bytes_eq-same [] (byte ∷ other) is = absurd (false≢true is)
bytes_eq-same (byte ∷ one) [] is = absurd (false≢true is)
bytes_eq-same (byte ∷ one) (first ∷ other) is =
    let parts = and_parts (eqb byte first) (bytes_eq one other) is in
    rw (eqb-true byte first parts.0, bytes_eq-same one other parts.1) refl

-- ---- the records with an id

-- a record has this number and this id
record HasNumberAndId (number : ℕ) (id : List ℕ) (work : Record) : Type 0 where
  seq : work.seq ≡ number
  id_is : work.request.id ≡ id

-- each number is that of a record with the id
numbers_with_id : (works among : List Record) (id : List ℕ) → AllByRecursion (λ work. HasOne (λ other. other ≡ work) among) works
    → AllByRecursion (λ number. HasOne (HasNumberAndId number id) among) (map (λ work. work.seq) (filter (λ work. bytes_eq work.request.id id) works))
numbers_with_id works among id stored =
    All-map _ (λ (work : Record). work.seq) (filter (λ work. bytes_eq work.request.id id) works) (λ work one. one)
    (All-filter (λ work. bytes_eq work.request.id id) works (λ work passes there. HasOne-weaker among (λ other same. record {
      seq = ap (λ (w : Record). w.seq) same;
      id_is = ap (λ (w : Record). w.request.id) same ∙ bytes_eq-same work.request.id id passes;
    }) there) stored)

-- no later record has the id of an earlier one
none_with_id : (work : Record) (works : List Record) (id : List ℕ) → bytes_eq work.request.id id ≡ true → AllByRecursion (IsBefore work) works
    → filter (λ work. bytes_eq work.request.id id) works ≡ []
none_with_id work [] id is later = refl
none_with_id work (other ∷ works) id is later =
    cond_both (bytes_eq other.request.id id) (other ∷ filter (λ work. bytes_eq work.request.id id) works) (filter (λ work. bytes_eq work.request.id id) works)
    (λ (found : List Record). found ≡ []) (λ e. absurd (later.0.id (bytes_eq-same work.request.id id is ∙ sym (bytes_eq-same other.request.id id e))))
    (λ e. none_with_id work works id is later.1)

-- there is one at most
few_with_id : (works : List Record) (id : List ℕ) → AllLater IsBefore works
    → length (map (λ (work : Record). work.seq) (filter (λ work. bytes_eq work.request.id id) works)) ≤ 1
few_with_id [] id order = omega arith
few_with_id (work ∷ works) id order =
    let rest = few_with_id works id order.1 in
    cond_both (bytes_eq work.request.id id) (work ∷ filter (λ work. bytes_eq work.request.id id) works) (filter (λ work. bytes_eq work.request.id id) works)
    (λ (found : List Record). length (map (λ (work : Record). work.seq) found) ≤ 1) (λ e.
    let none : filter (λ work. bytes_eq work.request.id id) works ≡ [] = none_with_id work works id e order.0 in
    rw none (omega arith)) (λ e. rest)

-- ---- the prerequisites of a new work

-- the number of a record with one of these ids
abbrev IsOneOf : List Record → List (List ℕ) → ℕ → Type 0
IsOneOf works ids number = HasOne (λ id. HasOne (HasNumberAndId number id) works) ids

-- the numbers of the first id, and of the others
abbrev numbers_with : List Record → List ℕ → List ℕ
numbers_with works id = map (λ work. work.seq) (filter (λ work. bytes_eq work.request.id id) works)

numbers_of-cons : (works : List Record) (id : List ℕ) (ids : List (List ℕ)) → numbers_of works (id ∷ ids) ≡ numbers_with works id ++ numbers_of works ids
numbers_of-cons works id ids = flat_map-cons (numbers_with works) id ids

-- each is the number of a record with one of the ids
numbers_of-each : (works : List Record) (ids : List (List ℕ)) → AllByRecursion (IsOneOf works ids) (numbers_of works ids)
numbers_of-each works [] = tt
numbers_of-each works (id ∷ ids) =
    subst (AllByRecursion (IsOneOf works (id ∷ ids))) (sym (numbers_of-cons works id ids)) (All-append _ (numbers_with works id) (numbers_of works ids)
    (All-weaker (numbers_with works id) (λ number one. inl one) (numbers_with_id works works id (All-stored works)))
    (All-weaker (numbers_of works ids) (λ number one. inr one) (numbers_of-each works ids)))

-- there are no more than ids
numbers_of-few : (works : List Record) (ids : List (List ℕ)) → AllLater IsBefore works → length (numbers_of works ids) ≤ length ids
numbers_of-few works [] order = omega arith
numbers_of-few works (id ∷ ids) order =
    let one = few_with_id works id order in
    let rest = numbers_of-few works ids order in
    let all = length-append (numbers_with works id) (numbers_of works ids) in
    subst (λ (numbers : List ℕ). length numbers ≤ length (id ∷ ids)) (sym (numbers_of-cons works id ids)) (omega (arith, one, rest, all))

-- a number is that of one record, and so of one id
one_id : (works : List Record) (number : ℕ) (one other : List ℕ) → AllLater IsBefore works → HasOne (HasNumberAndId number one) works
    → HasOne (HasNumberAndId number other) works → one ≡ other
one_id works number one other order has also =
    one_gives works (λ work is of. sym (is of.seq) ∙ of.id_is) (all_of_number (λ work. work.request.id ≡ one) number works order
    (HasOne-weaker works (λ work of. (of.seq, of.id_is)) has)) also

-- different ids have different numbers
numbers_of-different : (works : List Record) (ids : List (List ℕ)) → AllLater IsBefore works → AreDifferent ids
    → AllLater (λ number later. number ≢ later) (numbers_of works ids)
numbers_of-different works [] order differ = tt
numbers_of-different works (id ∷ ids) order differ =
    subst (AllLater (λ number later. number ≢ later)) (sym (numbers_of-cons works id ids)) (AllLater-append _ (numbers_with works id) (numbers_of works ids)
    (AllLater-few _ (numbers_with works id) (few_with_id works id order)) (numbers_of-different works ids order differ.1)
    (All-weaker (numbers_with works id) (λ number one. All-weaker (numbers_of works ids) (λ later of same. one_gives ids
    (λ other differs has. differs (one_id works later id other order (subst (λ n. HasOne (HasNumberAndId n id) works) same one) has)) differ.0 of)
    (numbers_of-each works ids)) (numbers_with_id works works id (All-stored works))))

-- a fact of each record with one of these ids is one of each record of their numbers
record_of : (P : Record → Type 0) (works : List Record) (ids : List (List ℕ)) (number : ℕ)
    → AllByRecursion (λ id. AllByRecursion (λ work. bytes_eq work.request.id id ≡ true → P work) works) ids → IsOneOf works ids number
    → HasOne (λ work. (work.seq ≡ number) × P work) works
record_of P works ids number each of =
    one_gives ids (λ id all has.
    HasOne-with works (λ work is named. (named.seq, is (subst (λ text. bytes_eq text id ≡ true) (sym named.id_is) (bytes_eq-refl id)))) all has) each of

-- ---- the phase of a new work

-- what is neither failed nor cancelled can still succeed, or has
still_open : (p : Phase) → is_failed p ≡ false → is_cancelled p ≡ false → MaySucceedOrHas p
still_open phase.Waiting failed cancelled = tt
still_open phase.Running failed cancelled = tt
still_open (phase.Done how.Succeeded) failed cancelled = tt
still_open (phase.Done how.Failed) failed cancelled = absurd (true≢false failed)
still_open (phase.Done how.Cancelled) failed cancelled = absurd (true≢false cancelled)

-- no record of these numbers is in such a phase
none_in : (test : Phase → Bool) (works : List Record) (numbers : List ℕ) → any_in test works numbers ≡ false
    → AllByRecursion (λ number. AllByRecursion (λ work. work.seq ≡ number → test work.phase ≡ false) works) numbers
none_in test works numbers none =
    All-weaker numbers (λ number no_such. All-weaker works (λ work fails same. sym (ap (λ b. b && test work.phase) (eq-eqb work.seq number same)) ∙ fails)
    (none_pass (λ work. eqb work.seq number && test work.phase) works no_such)) (none_pass
    (λ number. list_any (λ work. eqb work.seq number && test work.phase) works) numbers none)

-- a new work isn't running
pub idle-placed : (works : List Record) (prior : List ℕ) → first_phase works prior ≡ phase.Running → ⊥
idle-placed works prior =
    cond_both (any_in is_failed works prior) (phase.Done how.Failed) (cond (any_in is_cancelled works prior) (phase.Done how.Cancelled) phase.Waiting)
    (λ (p : Phase). p ≡ phase.Running → ⊥) (λ e same. absurd (cc)) (λ e.
    cond_both (any_in is_cancelled works prior) (phase.Done how.Cancelled) phase.Waiting (λ (p : Phase). p ≡ phase.Running → ⊥) (λ f same. absurd (cc))
    (λ f same. absurd (cc)))

-- what holds of a failed, a cancelled and a waiting work holds of a new one
pub first_phase-both : (P : Phase → Type 0) (works : List Record) (prior : List ℕ) → P (phase.Done how.Failed) → P (phase.Done how.Cancelled)
    → (any_in is_failed works prior ≡ false → any_in is_cancelled works prior ≡ false → P phase.Waiting) → P (first_phase works prior)
first_phase-both P works prior failed cancelled waiting =
    cond_both (any_in is_failed works prior) (phase.Done how.Failed) (cond (any_in is_cancelled works prior) (phase.Done how.Cancelled) phase.Waiting) P
    (λ e. failed) (λ e. cond_both (any_in is_cancelled works prior) (phase.Done how.Cancelled) phase.Waiting P (λ f. cancelled) (λ f. waiting e f))

-- ---- a new work

-- what holds of the prerequisites that a work names, and of these numbers where it names none, holds of those that it gets
pub prior-both : (P : List ℕ → Type 0) (works : List Record) (after : List ℕ) (ids : List (List ℕ)) → P (numbers_of works ids) → (ids ≡ [] → P after)
    → P (prior_of works after ids)
prior-both P works [] ids named others = named
prior-both P works (number ∷ after) [] named others = others refl
prior-both P works (number ∷ after) (id ∷ ids) named others = named

-- it names few where it has few
pub few_named : (after : List ℕ) (ids : List (List ℕ)) → count_prior after ids ≤ 100 → length ids ≤ 100
few_named [] ids few = few
few_named (number ∷ after) [] few = omega arith
few_named (number ∷ after) (id ∷ ids) few = few

-- and comes after few where it names none
pub few_others : (after : List ℕ) (ids : List (List ℕ)) → count_prior after ids ≤ 100 → ids ≡ [] → length after ≤ 100
few_others [] ids few none = omega arith
few_others (number ∷ after) [] few none = few
few_others (number ∷ after) (id ∷ ids) few none = absurd (cc)

-- the record of this number is one-time
abbrev pub IsOneTime : ℕ → Record → Type 0
IsOneTime number work = (work.seq ≡ number) × (work.request.period ≡ None)

-- what is asked of a work that is placed with these prerequisites: that they are few, different one-time records, and that there are none where it
-- is periodic itself
pub record IsPlaceable (s : State) (prior : List ℕ) (node : Node) : Type 0 where
  pub request : IsRequest node.request
  pub few : length prior ≤ 100
  pub different : AllLater (λ number later. number ≢ later) prior
  pub one_time : AllByRecursion (λ number. HasOne (IsOneTime number) s.works) prior
  pub alone : (period : Period) → node.request.period ≡ Some period → prior ≡ []

-- a work that names few ids, which differ, none of a periodic record, and none at all where it is periodic itself
pub placeable-naming : (s : State) (node : Node) → Valid s → IsRequest node.request → length node.after ≤ 100 → AreDifferent node.after
    → AllByRecursion (λ id. AllByRecursion (λ work. bytes_eq work.request.id id ≡ true → work.request.period ≡ None) s.works) node.after
    → ((period : Period) → node.request.period ≡ Some period → node.after ≡ []) → IsPlaceable s (numbers_of s.works node.after) node
placeable-naming s node valid request few different one_time alone = record {
  request = request;
  few = let numbers = numbers_of-few s.works node.after valid.works.in_order in omega (arith, numbers, few);
  different = numbers_of-different s.works node.after valid.works.in_order different;
  one_time = All-weaker (numbers_of s.works node.after) (λ number of. record_of (λ work. work.request.period ≡ None) s.works node.after number one_time of)
      (numbers_of-each s.works node.after);
  alone = λ period is. ap (numbers_of s.works) (alone period is);
}

ArePrior-placed : (s : State) (prior : List ℕ) (node : Node) → Valid s → IsPlaceable s prior node → ArePrior s.next prior
ArePrior-placed s prior node valid is = record {
  few = is.few;
  different = is.different;
  earlier = All-weaker prior (λ number of. one_gives s.works (λ work facts same. subst (λ n. (1 ≤ n) × (n < s.next)) same.0 facts)
      (All-with2 s.works (λ work fine below. (fine.number, below)) valid.works.records valid.works.numbers) of) is.one_time;
}

kind-placed : (period : Option Period) (s : State) (name : Option (List ℕ)) (prior : List ℕ) (node : Node) → node.request.period ≡ period
    → IsPlaceable s prior node → IsOfKind period (new_record s name prior node)
kind-placed None s name prior node kind is = refl
kind-placed (Some period) s name prior node kind is =
    let none : prior ≡ [] = is.alone period kind in
    record {
      phase_is = subst (λ (numbers : List ℕ). IsPeriodicPhase (first_phase s.works numbers)) (sym none) tt;
      no_output = refl;
      no_prerequisite = none;
    }

-- what is finished as soon as it is placed has finished at this moment
finished-placed : (p : Phase) (now : ℕ) → IsFinishedIn p (first_finished_at p now)
finished-placed phase.Waiting now = refl
finished-placed phase.Running now = refl
finished-placed (phase.Done how) now = tt

-- which is within its limit
finished-fits : (p : Phase) (now : ℕ) → now < 2 ^ 53 → first_finished_at p now < 2 ^ 53
finished-fits phase.Waiting now below = omega arith
finished-fits phase.Running now below = omega arith
finished-fits (phase.Done how) now below = below

pub IsRecord-placed : (s : State) (name : Option (List ℕ)) (prior : List ℕ) (node : Node) → Valid s → s.next + 1 ≤ 2 ^ 53 → IfSome name IsShortText
    → IsPlaceable s prior node → IsRecord (new_record s name prior node)
IsRecord-placed s name prior node valid room short is =
    let sound = ArePrior-placed s prior node valid is in
    record {
      number = valid.works.first;
      fits = record {
        seq = omega (arith, room);
        prior = All-from_recursion (λ number. number < 2 ^ 53) prior
            (All-weaker prior (λ number both. let below = both.1 in omega (arith, below, room)) sound.earlier);
        generation = omega arith;
        enqueued_at = valid.now;
        override_at = next-fits node.request.period node.request.next None is.request.within.next_is tt;
        finished_at = finished-fits (first_phase s.works prior) s.now valid.now;
      };
      name = short;
      request = IsRequest-of_record node.request.id node.request.keep node.request is.request.id is.request.within.keep_is is.request;
      prior = sound;
      attempt = omega arith;
      started = first_phase-both (λ p. IsAttemptIn p 0) s.works prior tt tt (λ e f. tt);
      backoff_n = omega arith;
      runs = omega arith;
      kind = kind-placed node.request.period s name prior node refl is;
      leaves = refl;
      override_at = next-override node.request.period node.request.next is.request.within.next_is;
      finished_at = finished-placed (first_phase s.works prior) s.now;
      output = first_phase-both (λ p. IsOutputIn p []) s.works prior IsData-empty refl (λ e f. refl);
      progress = first_phase-both (λ p. IsProgressIn p []) s.works prior refl refl (λ e f. refl);
    }

-- it is sound beside the records
pub sound-placed : (s : State) (prior : List ℕ) (node : Node) → IsPlaceable s prior node → ArePriorSound s.works (first_phase s.works prior) prior
sound-placed s prior node is =
    first_phase-both (λ p. ArePriorSound s.works p prior) s.works prior tt tt (λ failed cancelled.
    All-with3 prior (λ number no_failed no_cancelled one. HasOne-with {A = λ work. work.seq ≡ number → MaySucceedOrHas work.phase} s.works
    (λ work opens of. record {
      seq = of.0;
      open_is = opens of.0;
      one_time = of.1;
    }) (All-with2 s.works (λ work one other same. still_open work.phase (one same) (other same)) no_failed no_cancelled) one)
    (none_in is_failed s.works prior failed) (none_in is_cancelled s.works prior cancelled) is.one_time)
