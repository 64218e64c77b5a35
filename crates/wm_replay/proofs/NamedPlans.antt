-- What an enqueue under a unique name comes to, by what its policy comes to.
use Rattle.std.proofs.Common.{◌≡◌, ℕ, true, false, List, [], ◌∷◌, Option, Some, None, refl, sym, ◌∙◌, ap, subst}
use Rattle.std.specs.Prelude.{option_map}
use Rattle.std.proofs.lemmas.Option.{none-some}
use Rattle.wm_collections.specs.Lists.{AllLater}
use Rattle.wm_machine.specs.Enqueued.{carried_out, enqueued, first_refusal, outcome_by, plan_in, refusal_by, refusal_of_placing, updated_by}
use Rattle.wm_machine.specs.Group.{is_name, members_of, numbers_in}
use Rattle.wm_machine.specs.Plan.{mismatch, Placing, Plan}
use Rattle.wm_machine.specs.Plan as plan
use Rattle.wm_machine.specs.Replied.{unchanged}
use Rattle.wm_machine.specs.Updated.{update_of}
use Rattle.wm_machine.specs.Valid.{IsBefore}
use Rattle.wm_machine.specs.declared.command.UniqueName.{UniqueName}
use Rattle.wm_machine.specs.declared.record.Record.{Record}
use Rattle.wm_machine.specs.declared.reply.Refusal.{Refusal}
use Rattle.wm_machine.specs.declared.reply.Refusal.TheVariants.{KindMismatch}
use Rattle.wm_machine.specs.declared.reply.Reply.{Reply}
use Rattle.wm_machine.specs.declared.reply.Reply.TheVariants as reply
use Rattle.wm_machine.specs.declared.state.State.{State}
use Rattle.wm_replay.specs.Placed.{placed_by, IsPlacedBy}
use Rattle.wm_replay.specs.Planned.{kind_refused_in, IsReplyToFault}
use Rattle.wm_request.specs.declared.request.Node.{Node}
use Rattle.wm_unique.proofs.Numbered.{grouped_filter, numbers_filter}
use Rattle.wm_unique.specs.Plans.{grouped, placing_by, plan_fields, refused_kind, AreNumbersOf, IsPlanFault}
use Rattle.wm_unique.specs.declared.plans.GroupPlan.{GroupPlan}
use Rattle.wm_unique.specs.declared.plans.PlanFault.{PlanFault}
use Rattle.wm_unique.specs.declared.plans.PlanFault.TheVariants as fault

-- ---- works by their numbers

pub members-group : (works : List Record) (name group : List ℕ) → AllLater IsBefore works → group ≡ numbers_in (members_of works name)
    → AreNumbersOf works group
members-group works name group order is = subst (AreNumbersOf works) (sym is) (numbers_filter (λ work. is_name name work.name) works order)

pub group-members : (works : List Record) (name group : List ℕ) → AllLater IsBefore works → group ≡ numbers_in (members_of works name)
    → grouped works group ≡ members_of works name
group-members works name group order is = ap (grouped works) is ∙ grouped_filter (λ work. is_name name work.name) works order

-- ---- a kind that is refused

kind-refused : (planned : Plan) (mismatched : Option (List ℕ)) (id : List ℕ) (s : State) (works : List Node) → refused_kind planned mismatched ≡ Some id
    → refusal_by planned mismatched s works ≡ Some (KindMismatch id)
kind-refused plan.Keeps mismatched id s works is = absurd (none-some id is)
kind-refused (plan.Updates member) mismatched id s works is = ap (option_map KindMismatch) is
kind-refused (plan.Places placing) mismatched id s works is =
    ap (λ o. first_refusal (option_map KindMismatch o ∷ refusal_of_placing s placing works ∷ [])) is

pub fault-outcome : (s : State) (unique : UniqueName) (works : List Node) (found : PlanFault) (answer : Reply)
    → IsPlanFault (kind_refused_in s unique works) found → IsReplyToFault found answer
    → enqueued s (Some unique) works ≡ record { reply = answer; state = s }
fault-outcome s unique works (fault.KindMismatch id) answer refused answers =
    let mismatched = mismatch unique.policy (members_of s.works unique.name) works in
    ap (λ o. outcome_by o s (Some unique) works) (kind-refused (plan_in s unique) mismatched id s works refused)
    ∙ ap (unchanged s) (sym answers)
fault-outcome s unique works fault.Memory answer refused answers = absurd answers

-- ---- a plan that is carried out

module _ (s : State) (unique : UniqueName) (works : List Node) where
  abbrev mismatched : Option (List ℕ)
  mismatched = mismatch unique.policy (members_of s.works unique.name) works

  -- where the kinds fit nothing mismatches, unless all is kept
  by-plan : (planned : Plan) → plan_in s unique ≡ planned → kind_refused_in s unique works ≡ None → refused_kind planned mismatched ≡ None
  by-plan planned is fits = ap (λ p. refused_kind p mismatched) (sym is) ∙ fits

  -- where no check refuses it
  carried-by : (planned : Plan) → plan_in s unique ≡ planned → refusal_by planned mismatched s works ≡ None
      → enqueued s (Some unique) works ≡ carried_out planned s unique.name works
  carried-by planned is none =
      ap (λ p. outcome_by (refusal_by p mismatched s works) s (Some unique) works) is
      ∙ ap (λ o. outcome_by o s (Some unique) works) none ∙ ap (λ p. carried_out p s unique.name works) is

  -- a member is updated
  pub updated-outcome : (member : Record) (work : Node) (later : List Node) → works ≡ work ∷ later → plan_in s unique ≡ plan.Updates member
      → kind_refused_in s unique works ≡ None → enqueued s (Some unique) works ≡ update_of s work.request member
  updated-outcome member work later first is fits =
      carried-by (plan.Updates member) is (ap (option_map KindMismatch) (by-plan (plan.Updates member) is fits)) ∙ ap (updated_by s member) first

  -- all is kept
  kept-by : (planned : Plan) → plan_in s unique ≡ planned → (plan_fields planned).kept ≡ true
      → enqueued s (Some unique) works ≡ unchanged s reply.Kept
  kept-by plan.Keeps is kept = carried-by plan.Keeps is refl
  kept-by (plan.Updates member) is kept = absurd (cc)
  kept-by (plan.Places placing) is kept = absurd (cc)

  pub kept-outcome : (fields : GroupPlan) → fields ≡ plan_fields (plan_in s unique) → fields.kept ≡ true
      → enqueued s (Some unique) works ≡ unchanged s reply.Kept
  kept-outcome fields planned kept = kept-by (plan_in s unique) refl (ap (λ (f : GroupPlan). f.kept) (sym planned) ∙ kept)

  -- the batch is checked and placed
  checked-by : (placing : Placing) (found : Option Refusal)
      → outcome_by (first_refusal (None ∷ found ∷ [])) s (Some unique) works ≡ outcome_by found s (Some unique) works
  checked-by placing None = refl
  checked-by placing (Some found) = refl

  placed-found : (placing : Placing) (found : Option Refusal) → plan_in s unique ≡ plan.Places placing
      → outcome_by found s (Some unique) works ≡ placed_by found s (Some unique) placing works
  placed-found placing None is = ap (λ p. carried_out p s unique.name works) is
  placed-found placing (Some found) is = refl

  placed-by : (planned : Plan) → plan_in s unique ≡ planned → (plan_fields planned).kept ≡ false → (plan_fields planned).update ≡ None
      → kind_refused_in s unique works ≡ None → IsPlacedBy s (Some unique) (placing_by (plan_fields planned)) works
  placed-by plan.Keeps is kept update fits = absurd (cc)
  placed-by (plan.Updates member) is kept update fits = absurd (cc)
  placed-by (plan.Places placing) is kept update fits =
      let none : mismatched ≡ None = by-plan (plan.Places placing) is fits in
      ap (λ p. outcome_by (refusal_by p mismatched s works) s (Some unique) works) is
      ∙ ap (λ m. outcome_by (first_refusal (option_map KindMismatch m ∷ refusal_of_placing s placing works ∷ [])) s (Some unique) works) none
      ∙ checked-by placing (refusal_of_placing s placing works) ∙ placed-found placing (refusal_of_placing s placing works) is

  pub placed-named : (fields : GroupPlan) → fields ≡ plan_fields (plan_in s unique) → fields.kept ≡ false → fields.update ≡ None
      → kind_refused_in s unique works ≡ None → IsPlacedBy s (Some unique) (placing_by fields) works
  placed-named fields planned kept update fits =
      subst (λ (f : GroupPlan). IsPlacedBy s (Some unique) (placing_by f) works) (sym planned)
      (placed-by (plan_in s unique) refl (ap (λ (f : GroupPlan). f.kept) (sym planned) ∙ kept) (ap (λ (f : GroupPlan). f.update) (sym planned) ∙ update) fits)
