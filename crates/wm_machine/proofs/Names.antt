-- What is owed for an enqueue under a unique name.
use Rattle.std.proofs.Common.{eqb, ◌≡◌, ◌⊎◌, ◌||◌, ℕ, ◌+◌, ◌^◌, ◌≤◌, true, false, not, ltb, List, [], ◌∷◌, filter, find, is_some, length, Option, Some, None, option_map, refl, sym, ◌∙◌, ap, subst, arith, inl, inr}
use Rattle.std.specs.List.{AllByRecursion, list_any}
use Rattle.std.proofs.lemmas.Bool.{cond_both, eq-eqb, false≢true, ltb-false, or_parts, true≢false}
use Rattle.wm_collections.specs.Lists.{AllLater, HasOne, is_among}
use Rattle.wm_machine.proofs.Closings.{HasNotSucceeded, not_yet_passing}
use Rattle.wm_machine.proofs.Enqueues.{AreBothOneTime, CanFollow, CanFollow-none, CanShare, first_refusal-none, frame-placed, none_found, not_some, passes, PassesChecks, placeable, reached-placed}
use Rattle.wm_machine.proofs.Groups.{All-made_ready, frame-made_ready, is_any_run_reached, length-made_ready, next-made_ready, reached-made_ready, with_let_go-none}
use Rattle.wm_collections.proofs.Lists.{All-any, All-from_filter, All-kept, All-map, All-of_one, All-stored, All-weaker, All-with2, AllLater-each, AllLater-few, AllLater-filter, AllLater-map, HasOne-weaker, find-none, find-stored, list_any-stored, list_any_after}
use Rattle.wm_machine.proofs.Owed.{IsAnswered, IsLinedIn-quiet, IsLinedIn-stops}
use Rattle.wm_machine.proofs.Placings.{bytes_eq-refl}
use Rattle.wm_machine.proofs.Updates.{update-framed, update-reached}
use Rattle.wm_machine.specs.Built.{AreAsked, AreAskedUnder}
use Rattle.wm_machine.specs.Enqueued.{carried_out, made_ready, outcome_by, placed_after, plan_in, refusal_by, refusal_of, refusal_of_placing, updated_by}
use Rattle.wm_machine.specs.Frame.{untouched, IsLinedIn}
use Rattle.wm_machine.specs.Group.{is_name, is_prior_of, leaves_of, members_of, numbers_in}
use Rattle.wm_machine.specs.Plan as plan
use Rattle.wm_machine.specs.Plan.{appending, id_mismatched, is_appending, is_lost, is_unfinished, is_unfit, mismatch, Placing, Plan, plan_of, replacing, unfit_work, updating}
use Rattle.wm_machine.specs.Updated.{is_same_kind}
use Rattle.wm_machine.specs.Valid.{Valid}
use Rattle.wm_machine.specs.Types.{Command, Node, Period, Policy, Record, Refusal, State, UniqueName}
use Rattle.wm_machine.specs.declared.command.Command.TheVariants as command
use Rattle.wm_machine.specs.declared.command.Policy.TheVariants as policy
use Rattle.wm_machine.specs.declared.reply.Refusal.TheVariants.{KindMismatch}
use Rattle.wm_request.specs.Batches.{BatchFields, is_periodic}

-- ---- what holds where no kind mismatches

pub id_mismatched-none : (found : Option Node) (policy : Policy) (members : List Record) → id_mismatched found policy members ≡ None
    → (found ≡ None) × AllByRecursion (λ member. is_unfit policy member ≡ false) members
id_mismatched-none (Some work) policy members none = absurd (cc)
id_mismatched-none None policy members none = (refl, none_found (is_unfit policy) (λ (member : Record). member.request.id) members none)

-- a batch is of one work alone, or of one-time work
abbrev IsAloneOrOneTime : List Node → Type 0
IsAloneOrOneTime works = (length works ≤ 1) ⊎ AllByRecursion (λ work. work.request.period ≡ None) works

none_periodic : (works : List Node) → find is_periodic works ≡ None → AllByRecursion (λ work. work.request.period ≡ None) works
none_periodic works none = All-weaker works (λ work fails. not_some work.request.period fails) (find-none is_periodic works none)

kinds_of_batch : (found : Option Node) (policy : Policy) (works : List Node) → find is_periodic works ≡ found → unfit_work found policy works ≡ None
    → IsAloneOrOneTime works
kinds_of_batch None policy works is fits = inr (none_periodic works is)
kinds_of_batch (Some periodic) policy works is fits =
    cond_both (ltb 1 (length works) || is_appending policy) (Some periodic) None (λ (o : Option Node). o ≡ None → IsAloneOrOneTime works)
    (λ e some. absurd (cc)) (λ e none. inl (ltb-false 1 (length works) (or_parts (ltb 1 (length works)) (is_appending policy) e).0)) fits

-- what is appended is of one-time work
appended_one_time : (found : Option Node) (policy : Policy) (works : List Node) → find is_periodic works ≡ found → is_appending policy ≡ true
    → unfit_work found policy works ≡ None → AllByRecursion (λ work. work.request.period ≡ None) works
appended_one_time None policy works is appends fits = none_periodic works is
appended_one_time (Some periodic) policy works is appends fits =
    cond_both (ltb 1 (length works) || is_appending policy) (Some periodic) None
    (λ (o : Option Node). o ≡ None → AllByRecursion (λ work. work.request.period ≡ None) works) (λ e some. absurd (cc))
    (λ e none. absurd (true≢false (sym appends ∙ (or_parts (ltb 1 (length works)) (is_appending policy) e).1))) fits

-- two works of a batch are one-time
both_one_time : (name : Option (List ℕ)) (works : List Node) → IsAloneOrOneTime works → AllLater (AreBothOneTime name) works
both_one_time name works (inl few) = AllLater-few _ works few
both_one_time name works (inr all) = AllLater-each works (λ one other is too text has. (is, too)) all

-- ---- members

-- a record that has the name is a member
named_member : (name text : List ℕ) (work : Record) → work.name ≡ Some text → Some name ≡ Some text → is_name name work.name ≡ true
named_member name text work has is =
    let same : text ≡ name = cc in
    ap (is_name name) (has ∙ ap Some same) ∙ bytes_eq-refl name

number_among : (members : List Record) (work : Record) → HasOne (λ other. other ≡ work) members → is_among (numbers_in members) work.seq ≡ true
number_among members work one =
    list_any_after (λ seq. eqb seq work.seq) (λ (member : Record). member.seq) members
    ∙ list_any-stored (λ (member : Record). eqb member.seq work.seq) members work one (eq-eqb work.seq work.seq refl)

-- its number is one of the members'
member_among : (works : List Record) (name : List ℕ)
    → AllByRecursion (λ work. is_name name work.name ≡ true → is_among (numbers_in (members_of works name)) work.seq ≡ true) works
member_among works name =
    let members = members_of works name in
    All-from_filter _ (λ work. is_name name work.name) works (All-weaker members (λ work there. number_among members work there) (All-stored members))

-- ---- the batch is placed in place of the members, or after them

-- what the checks leave of the works of a batch under a unique name
record AreAccepted (s : State) (name : List ℕ) (works : List Node) (placing : Placing) : Type 0 where
  asked : AreAskedUnder name works
  checks : PassesChecks s placing works
  kinds : IsAloneOrOneTime works

-- unfinished members haven't succeeded
not_yet_members : (s : State) (name : List ℕ) → Valid s → AllByRecursion (HasNotSucceeded s.works) (numbers_in (filter is_unfinished (members_of s.works name)))
not_yet_members s name valid =
    not_yet_passing s is_unfinished (members_of s.works name) valid (λ work is. is) (All-kept _ (λ work. is_name name work.name) s.works (All-stored s.works))

-- once the members are let go, no record has the name
abbrev pub HasAnotherName : List ℕ → Record → Type 0
HasAnotherName name work = (text : List ℕ) → work.name ≡ Some text → Some name ≡ Some text → ⊥

pub name_is_free : (s : State) (name : List ℕ) → AllByRecursion (HasAnotherName name) (made_ready s (replacing (members_of s.works name))).works
name_is_free s name =
    let placing = replacing (members_of s.works name) in
    All-made_ready (λ work. is_name name work.name ≡ true → is_among placing.let_go work.seq ≡ true) (HasAnotherName name) s placing
    (λ work among named. among named) (λ work e among text has is. absurd (cc))
    (λ work e among text has is. true≢false (sym (among (named_member name text work has is)) ∙ e)) (member_among s.works name)

reached-replaced : (s : State) (name : List ℕ) (works : List Node) → Valid s → AreAccepted s name works (replacing (members_of s.works name))
    → Valid (carried_out (plan.Places (replacing (members_of s.works name))) s name works).state
reached-replaced s name works reached accepted =
    let placing = replacing (members_of s.works name) in
    let t = made_ready s placing in
    let checks = accepted.checks in
    let few = length-made_ready s placing in
    let room = checks.room in
    reached-placed t (Some name) [] works (reached-made_ready s placing reached (not_yet_members s name reached)) accepted.asked.name_is
    (placeable s t.works (Some name) placing works accepted.asked.asked checks (λ P all.
    All-made_ready (λ work. P work.request) (λ work. P work.request) s placing (λ work p. p) (λ work e p. p) (λ work e p. p) all) (record {
      records = All-weaker t.works (λ work other. All-any works (λ node text has is. absurd (other text has is))) (name_is_free s name);
      among = both_one_time (Some name) works accepted.kinds;
    }) (CanFollow-none t.works works)) (omega (arith, few, room))
    (subst (λ n. n + length works ≤ 2 ^ 53) (sym (next-made_ready s placing)) checks.numbers)

-- works can be appended where they and the members are one-time
record CanAppend (s : State) (name : List ℕ) (works : List Node) : Type 0 where
  members : AllByRecursion (λ work. is_some work.request.period ≡ false) (members_of s.works name)
  batch : AllByRecursion (λ work. work.request.period ≡ None) works

shares-appended : (s : State) (name : List ℕ) (works : List Node) → CanAppend s name works → CanShare s.works (Some name) works
shares-appended s name works can = record {
  records = All-weaker s.works (λ work member.
      All-weaker works (λ node one_time text has is. (not_some work.request.period (member (named_member name text work has is)), one_time)) can.batch)
      (All-from_filter _ (λ work. is_name name work.name) s.works can.members);
  among = both_one_time (Some name) works (inr can.batch);
}

-- the leaves are different one-time records
follows-appended : (s : State) (name : List ℕ) (works : List Node) → Valid s → CanAppend s name works
    → CanFollow s.works (numbers_in (leaves_of (members_of s.works name))) works
follows-appended s name works valid can =
    let members = members_of s.works name in
    let is_leaf = λ (work : Record). not (is_prior_of members work) in
    record {
      different = AllLater-map _ (λ (work : Record). work.seq) (leaves_of members)
          (λ one other before same. let less = before.number in absurd (omega (arith, less, same)))
          (AllLater-filter _ is_leaf members (AllLater-filter _ (λ work. is_name name work.name) s.works valid.works.in_order));
      one_time = All-map _ (λ (work : Record). work.seq) (leaves_of members) (λ work one. one) (All-kept _ is_leaf members
          (All-with2 members (λ work there plain. HasOne-weaker s.works (λ other same. (
            ap (λ (w : Record). w.seq) same,
            not_some other.request.period (ap (λ (w : Record). is_some w.request.period) same ∙ plain),
          )) there) (All-kept _ (λ work. is_name name work.name) s.works (All-stored s.works)) can.members));
      alone = All-weaker works (λ node none period is. absurd (true≢false (sym (ap is_some is) ∙ ap is_some none))) can.batch;
    }

reached-appended : (s : State) (name : List ℕ) (works : List Node) → Valid s → AreAccepted s name works (appending (members_of s.works name))
    → CanAppend s name works → Valid (carried_out (plan.Places (appending (members_of s.works name))) s name works).state
reached-appended s name works reached accepted can =
    let placing = appending (members_of s.works name) in
    let checks = accepted.checks in
    let ready : made_ready s placing ≡ s = ap (λ (works : List Record). record s { works = works }) (with_let_go-none s.works) in
    subst (λ (t : State). Valid (placed_after t (Some name) placing.after works)) (sym ready)
    (reached-placed s (Some name) placing.after works reached accepted.asked.name_is
    (placeable s s.works (Some name) placing works accepted.asked.asked checks (λ P all. all) (shares-appended s name works can)
    (follows-appended s name works reached can)) checks.room checks.numbers)

-- ---- a member is updated

-- a work that is alone is the periodic one
pub alone_periodic : (work : Node) (later : List Node) (periodic : Node) → find is_periodic (work ∷ later) ≡ Some periodic → length (work ∷ later) ≤ 1
    → is_periodic work ≡ true
alone_periodic work [] periodic found few =
    cond_both (is_periodic work) (Some work) None (λ (o : Option Node). o ≡ Some periodic → is_periodic work ≡ true) (λ e is. e) (λ e is. absurd (cc)) found
alone_periodic work (next ∷ later) periodic found few = absurd (omega (arith, few))

pub both_periodic : (one other : Option Period) → is_some one ≡ true → not (is_some other) ≡ false → is_same_kind one other ≡ true
both_periodic None other is too = absurd (false≢true is)
both_periodic (Some period) None is too = absurd (true≢false too)
both_periodic (Some period) (Some another) is too = refl

reached-updated : (s : State) (member : Record) (works : List Node) (found : Option Node) → find is_periodic works ≡ found
    → unfit_work found policy.Update works ≡ None → is_unfit policy.Update member ≡ false → AreAsked works → Valid s
    → HasOne (λ other. other ≡ member) s.works → Valid (updated_by s member works).state
reached-updated s member [] found is fits unfit asked reached stored = reached
reached-updated s member (work ∷ later) None is fits unfit asked reached stored = absurd (cc)
reached-updated s member (work ∷ later) (Some periodic) is fits unfit asked reached stored =
    let few =
    cond_both (ltb 1 (length (work ∷ later)) || false) (Some periodic) None (λ (o : Option Node). o ≡ None → length (work ∷ later) ≤ 1)
    (λ e some. absurd (cc)) (λ e none. ltb-false 1 (length (work ∷ later)) (or_parts (ltb 1 (length (work ∷ later))) false e).0) fits in
    update-reached s work.request member asked.requests.0
    (both_periodic work.request.period member.request.period (alone_periodic work later periodic is few) unfit) reached stored

-- ---- each policy

-- what is owed for a plan: it keeps what holds of the states, where no check refuses the batch
abbrev IsCarriedOut : State → List ℕ → List Node → Option (List ℕ) → Plan → Type 0
IsCarriedOut s name works mismatched plan =
    refusal_by plan mismatched s works ≡ None → Valid (carried_out plan s name works).state

none_mismatched : (id : Option (List ℕ)) → option_map KindMismatch id ≡ None → id ≡ None
none_mismatched None none = refl
none_mismatched (Some id) none = absurd (cc)

module _ (s : State) (name : List ℕ) (works : List Node) (asked : AreAskedUnder name works) (reached : Valid s) where
  -- the works that have the name
  abbrev members : List Record
  members = members_of s.works name

  accepted : (placing : Placing) (by : Policy) → refusal_by (plan.Places placing) (mismatch by members works) s works ≡ None
      → AreAccepted s name works placing × (mismatch by members works ≡ None)
  accepted placing by none =
      let id = mismatch by members works in
      let first = first_refusal-none (option_map KindMismatch id) (refusal_of_placing s placing works ∷ []) none in
      let second = first_refusal-none (refusal_of_placing s placing works) [] first.1 in
      let fits = none_mismatched id first.0 in (
        record {
          asked = asked;
          checks = passes s placing works second.0;
          kinds = kinds_of_batch (find is_periodic works) by works refl (id_mismatched-none (unfit_work (find is_periodic works) by works) by members fits).0;
        },
        fits,
      )

  replaced : (by : Policy) → IsCarriedOut s name works (mismatch by members works) (plan.Places (replacing members))
  replaced by none = reached-replaced s name works reached (accepted (replacing members) by none).0

  appended : (by : Policy) → is_appending by ≡ true → ((work : Record) → is_unfit by work ≡ false → is_some work.request.period ≡ false)
      → IsCarriedOut s name works (mismatch by members works) (plan.Places (appending members))
  appended by appends unfit none =
      let both = accepted (appending members) by none in
      let fits = id_mismatched-none (unfit_work (find is_periodic works) by works) by members both.1 in
      reached-appended s name works reached both.0 (record {
        members = All-weaker members unfit fits.1;
        batch = appended_one_time (find is_periodic works) by works refl appends fits.0;
      })

  updated : (found : Option Record) → find is_unfinished members ≡ found
      → IsCarriedOut s name works (mismatch policy.Update members works) (updating found members)
  updated None is none = replaced policy.Update none
  updated (Some member) is none =
      let fits = id_mismatched-none (unfit_work (find is_periodic works) policy.Update works) policy.Update members
      (none_mismatched (mismatch policy.Update members works) none) in
      let stored = find-stored is_unfinished members member is in
      reached-updated s member works (find is_periodic works) refl fits.0 (All-of_one _ members member
      fits.1 stored) asked.asked reached (All-of_one (λ work. HasOne (λ other. other ≡ work) s.works) members member
      (All-kept _ (λ work. is_name name work.name) s.works (All-stored s.works)) stored)

  pub each_policy : (by : Policy) → IsCarriedOut s name works (mismatch by members works) (plan_of by members)
  each_policy policy.Keep =
      cond_both (list_any is_unfinished members) plan.Keeps (plan.Places (replacing members))
      (IsCarriedOut s name works (mismatch policy.Keep members works)) (λ e none. reached) (λ e. replaced policy.Keep)
  each_policy policy.Replace = replaced policy.Replace
  each_policy policy.CancelAndReenqueue = replaced policy.CancelAndReenqueue
  each_policy policy.Append = appended policy.Append refl (λ work fit. fit)
  each_policy policy.AppendOrReplace =
      cond_both (list_any (λ work. is_lost work.phase) (leaves_of members)) (replacing members) (appending members)
      (λ (placing : Placing). IsCarriedOut s name works (mismatch policy.AppendOrReplace members works) (plan.Places placing))
      (λ e. replaced policy.AppendOrReplace) (λ e. appended policy.AppendOrReplace refl (λ work fit. fit))
  each_policy policy.Update = updated (find is_unfinished members) refl

-- ---- what is owed

reached-named : (s : State) (unique : UniqueName) (works : List Node) (found : Option Refusal) → AreAskedUnder unique.name works → Valid s
    → refusal_of s (Some unique) works ≡ found → Valid (outcome_by found s (Some unique) works).state
reached-named s unique works (Some found) asked reached is = reached
reached-named s unique works None asked reached is = each_policy s unique.name works asked reached unique.policy is

-- a member that is updated may have its run renewed
frame-updated : (s : State) (unique : UniqueName) (batch : BatchFields) (member : Record) (works : List Node)
    → let asked = command.Enqueue (Some unique) batch in IsLinedIn asked s (untouched (updated_by s member works).state (asked ∷ []))
frame-updated s unique batch member [] = IsLinedIn-quiet (command.Enqueue (Some unique) batch) s _ refl
frame-updated s unique batch member (work ∷ works) = update-framed s (command.Enqueue (Some unique) batch) work.request member refl

-- a batch that is placed stops the runs of what it cancels
frame-carried_out : (s : State) (unique : UniqueName) (batch : BatchFields) (name : List ℕ) (works : List Node) (plan : Plan)
    → let asked = command.Enqueue (Some unique) batch in IsLinedIn asked s (untouched (carried_out plan s name works).state (asked ∷ []))
frame-carried_out s unique batch name works plan.Keeps = IsLinedIn-quiet (command.Enqueue (Some unique) batch) s _ refl
frame-carried_out s unique batch name works (plan.Updates member) = frame-updated s unique batch member works
frame-carried_out s unique batch name works (plan.Places placing) =
    let asked = command.Enqueue (Some unique) batch in
    IsLinedIn-stops asked s _ (is_any_run_reached placing.cancel s.works)
    (frame-placed (made_ready s placing) (asked ∷ []) (Some name) placing.after works ∙ frame-made_ready s placing (asked ∷ []))

frame-named : (s : State) (unique : UniqueName) (batch : BatchFields) (found : Option Refusal) (works : List Node)
    → let asked = command.Enqueue (Some unique) batch in IsLinedIn asked s (untouched (outcome_by found s (Some unique) works).state (asked ∷ []))
frame-named s unique batch (Some found) works = IsLinedIn-quiet (command.Enqueue (Some unique) batch) s _ refl
frame-named s unique batch None works = frame-carried_out s unique batch unique.name works (plan_in s unique)

pub enqueue-named-answered : (s : State) (unique : UniqueName) (batch : BatchFields) → AreAskedUnder unique.name batch.works
    → IsAnswered s (command.Enqueue (Some unique) batch)
enqueue-named-answered s unique batch asked =
    let refused = refusal_of s (Some unique) batch.works in
    record {
      answered = λ may. refl;
      reached = λ valid. reached-named s unique batch.works refused asked valid refl;
      frame = frame-named s unique batch refused batch.works;
    }
