-- The work of a unique name that is updated: it is there, and the first work of the batch is of its kind.
use Rattle.std.proofs.Common.{◌≡◌, ◌||◌, ℕ, ◌≤◌, true, false, find, ltb, List, [], ◌∷◌, length, slice_get, Option, Some, None, refl, sym, ◌∙◌, ap, subst}
use Rattle.std.specs.List.{AllByRecursion, list_any}
use Rattle.std.specs.Prelude.{option_map, IsSomeAnd}
use Rattle.std.proofs.lemmas.Bool.{cond_both, ltb-false, or_parts}
use Rattle.wm_collections.specs.Lists.{AllLater, HasOne}
use Rattle.wm_commands.proofs.NamedPlans.{group-members, updated-outcome}
use Rattle.wm_commands.proofs.Updating.{updating-executed}
use Rattle.wm_commands.specs.Builds.{IsUpdating}
use Rattle.wm_settings.specs.Builds.{IsExecuted}
use Rattle.wm_commands.specs.Planned.{kind_refused_in}
use Rattle.wm_collections.proofs.Lists.{find-stored, one_gives}
use Rattle.wm_machine.proofs.Names.{alone_periodic, both_periodic, id_mismatched-none}
use Rattle.wm_machine.specs.Enqueued.{plan_in}
use Rattle.wm_machine.specs.Group.{members_of, numbers_in}
use Rattle.wm_machine.specs.Input.{work_numbered}
use Rattle.wm_machine.specs.Plan.{first_of_batch, is_unfinished, is_unfit, mismatch, plan_of, replacing, unfit_work, updating, Plan}
use Rattle.wm_machine.specs.Plan as plan
use Rattle.wm_machine.specs.Outcome.{IsLegalLine}
use Rattle.wm_machine.specs.Replied.{Outcome}
use Rattle.wm_machine.specs.Updated.{is_same_kind}
use Rattle.wm_machine.specs.Valid.{IsBefore, Valid}
use Rattle.wm_machine.specs.declared.command.Command.TheVariants as command
use Rattle.wm_machine.specs.declared.command.Policy.{Policy}
use Rattle.wm_machine.specs.declared.command.UniqueName.{UniqueName}
use Rattle.wm_machine.specs.declared.record.Record.{Record}
use Rattle.wm_machine.specs.declared.state.State.{State}
use Rattle.wm_request.specs.declared.request.Node.{Node}
use Rattle.wm_machine.specs.declared.command.Policy.TheVariants as policy
use Rattle.wm_request.specs.Batches.{is_periodic}
use Rattle.wm_request.specs.Requests.{IsRequest, RequestFields}
use Rattle.wm_request.specs.declared.request.Batch.{Batch}
use Rattle.wm_unique.proofs.Numbered.{numbered_found}
use Rattle.wm_changes.specs.declared.change.StepChange.{StepChange}
use Rattle.wm_unique.specs.Plans.{plan_fields, refused_kind}

-- ---- what is planned

by_found : (found : Option Record) (members : List Record) (member : Record) → updating found members ≡ plan.Updates member → found ≡ Some member
by_found (Some found) members member is = cc
by_found None members member is = absurd (cc)

-- only an update updates, and it does so to the first that is unfinished
updates-policy : (by : Policy) (members : List Record) (member : Record) → plan_of by members ≡ plan.Updates member
    → (by ≡ policy.Update) × (find is_unfinished members ≡ Some member)
updates-policy policy.Keep members member is =
    absurd (cond_both (list_any is_unfinished members) plan.Keeps (plan.Places (replacing members)) (λ (p : Plan). p ≡ plan.Updates member → ⊥)
    (λ e same. absurd (cc)) (λ e same. absurd (cc)) is)
updates-policy policy.Replace members member is = absurd (cc)
updates-policy policy.CancelAndReenqueue members member is = absurd (cc)
updates-policy policy.Append members member is = absurd (cc)
updates-policy policy.AppendOrReplace members member is = absurd (cc)
updates-policy policy.Update members member is = (refl, by_found (find is_unfinished members) members member is)

-- a member that is updated has the number that is planned
record IsUpdateOf (planned : Plan) (number : ℕ) : Type 0 where
  member : Record
  planned_is : planned ≡ plan.Updates member
  number_is : number ≡ member.seq

updates-is : (planned : Plan) (number : ℕ) → (plan_fields planned).update ≡ Some number → IsUpdateOf planned number
updates-is plan.Keeps number is = absurd (cc)
updates-is (plan.Updates member) number is = record { member = member; planned_is = refl; number_is = cc }
updates-is (plan.Places placing) number is = absurd (cc)

-- ---- where it is

-- the first unfinished work of a name is found by its number
first_member-found : (works : List Record) (name : List ℕ) (member : Record) → AllLater IsBefore works
    → find is_unfinished (members_of works name) ≡ Some member → work_numbered member.seq works ≡ Some member
first_member-found works name member order is =
    let group = numbers_in (members_of works name) in
    let found = ap (find is_unfinished) (group-members works name group order refl) ∙ is in
    numbered_found is_unfinished works group member.seq order (sym (ap (option_map (λ (work : Record). work.seq)) found)) ∙ found

-- ---- of which kind

-- a policy takes all members
fit-each : (by : Policy) (members : List Record) (member : Record) → HasOne (λ other. other ≡ member) members
    → AllByRecursion (λ work. is_unfit by work ≡ false) members → is_unfit by member ≡ false
fit-each by members member stored fit = one_gives members (λ work fits is. subst (λ w. is_unfit by w ≡ false) is fits) fit stored

-- the first work of a batch that updates is periodic
first-periodic : (found : Option Node) (work : Node) (later : List Node) → find is_periodic (work ∷ later) ≡ found
    → unfit_work found policy.Update (work ∷ later) ≡ None → is_periodic work ≡ true
first-periodic None work later is fits = absurd (cc)
first-periodic (Some periodic) work later is fits =
    let few =
    cond_both (ltb 1 (length (work ∷ later)) || false) (Some periodic) None (λ (o : Option Node). o ≡ None → length (work ∷ later) ≤ 1)
    (λ e some. absurd (cc)) (λ e none. ltb-false 1 (length (work ∷ later)) (or_parts (ltb 1 (length (work ∷ later))) false e).0) fits in
    alone_periodic work later periodic is few

-- ---- the member

-- what is known of a member that is updated
pub record IsMember (s : State) (unique : UniqueName) (works : List Node) (number : ℕ) : Type 0 where
  pub member : Record
  pub planned : plan_in s unique ≡ plan.Updates member
  pub found : work_numbered number s.works ≡ Some member
  pub kind : (work : Node) (later : List Node) → works ≡ work ∷ later → is_same_kind work.request.period member.request.period ≡ true

pub member-updated : (s : State) (unique : UniqueName) (works : List Node) (number : ℕ) → Valid s → (plan_fields (plan_in s unique)).update ≡ Some number
    → refused_kind (plan_in s unique) (mismatch unique.policy (members_of s.works unique.name) works) ≡ None → IsMember s unique works number
member-updated s unique works number valid is fits =
    let members = members_of s.works unique.name in
    let planned = updates-is (plan_in s unique) number is in
    let member = planned.member in
    let by = updates-policy unique.policy members member planned.planned_is in
    let stored = find-stored is_unfinished members member by.1 in
    let none : mismatch policy.Update members works ≡ None =
    ap (λ p. mismatch p members works) (sym by.0) ∙ ap (λ p. refused_kind p (mismatch unique.policy members works)) (sym planned.planned_is) ∙ fits in
    let parts = id_mismatched-none (unfit_work (find is_periodic works) policy.Update works) policy.Update members none in
    record {
      member = member;
      planned = planned.planned_is;
      found = ap (λ n. work_numbered n s.works) planned.number_is ∙ first_member-found s.works unique.name member valid.works.in_order by.1;
      kind = λ work later same. both_periodic work.request.period member.request.period (first-periodic (find is_periodic (work ∷ later)) work later refl
          (subst (λ ws. unfit_work (find is_periodic ws) policy.Update ws ≡ None) same parts.0)) (fit-each policy.Update members member stored parts.1);
    }

-- it is there
pub member-there : (s : State) (unique : UniqueName) (number : ℕ) → (plan_fields (plan_in s unique)).update ≡ Some number → Valid s
    → work_numbered number s.works ≡ None → ⊥
member-there s unique number is valid none =
    let planned = updates-is (plan_in s unique) number is in
    let by = updates-policy unique.policy (members_of s.works unique.name) planned.member planned.planned_is in
    let found = ap (λ n. work_numbered n s.works) planned.number_is ∙ first_member-found s.works unique.name planned.member valid.works.in_order by.1 in
    absurd (cc)

some-same : (one other : Record) → Some one ≡ Some other → one ≡ other
some-same one other same = cc

-- what the first work of a batch asks for
pub first-asked : (nodes : List Node) (node : Node) (request : RequestFields) → slice_get nodes 0 ≡ Some node → request ≡ node.request
    → IsSomeAnd (first_of_batch nodes) (λ first. request ≡ first.request)
first-asked [] node request at is = absurd (cc)
first-asked (first ∷ later) node request at is = let same : first ≡ node = cc in is ∙ ap (λ (n : Node). n.request) (sym same)

-- ---- the step

module _ (s : State) (line : ℕ) (unique : UniqueName) (batch : Batch) (number index : ℕ) (work : Record) (request : RequestFields) (change : StepChange)
    (valid : Valid s) (can : IsLegalLine s (command.Enqueue (Some unique) batch))
    (planned : (plan_fields (plan_in s unique)).update ≡ Some number) (fits : kind_refused_in s unique batch.works ≡ None)
    (at : slice_get s.works index ≡ Some work) (found : work_numbered number s.works ≡ slice_get s.works index)
    (updating : IsUpdating line (command.Enqueue (Some unique) batch) index work request change) where
  member-is : IsMember s unique batch.works number
  member-is = member-updated s unique batch.works number valid planned fits

  itself : work ≡ member-is.member
  itself = some-same work member-is.member (sym at ∙ sym found ∙ member-is.found)

  updated_by_first : (works : List Node) → batch.works ≡ works → IsSomeAnd (first_of_batch works) (λ node. request ≡ node.request)
      → IsExecuted s line (command.Enqueue (Some unique) batch) change
  updated_by_first [] is first = absurd first
  updated_by_first (node ∷ later) is first =
      let member = member-is.member in
      updating-executed s line (command.Enqueue (Some unique) batch) index member node.request change valid (at ∙ ap (λ (w : Record). Some w) itself)
      (subst (AllByRecursion (λ n. IsRequest n.request)) is can.askable.asked.requests).0 (member-is.kind node later is) can.askable
      (ap (λ (o : Outcome). Some o) (updated-outcome s unique batch.works member node later is member-is.planned fits))
      (subst (λ w. IsUpdating line (command.Enqueue (Some unique) batch) index w node.request change) itself
      (subst (λ r. IsUpdating line (command.Enqueue (Some unique) batch) index work r change) first updating))

  pub member-executed : IsSomeAnd (first_of_batch batch.works) (λ node. request ≡ node.request)
      → IsExecuted s line (command.Enqueue (Some unique) batch) change
  member-executed first = updated_by_first batch.works refl first
