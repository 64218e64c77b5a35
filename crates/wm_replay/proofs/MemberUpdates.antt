-- The work of a unique name that is updated: it is there.
use Rattle.std.proofs.Common.{◌≡◌, ℕ, find, List, [], ◌∷◌, slice_get, Option, Some, None, refl, sym, ◌∙◌, ap, subst}
use Rattle.std.specs.List.{list_any}
use Rattle.std.specs.Prelude.{option_map, IsSome}
use Rattle.std.proofs.lemmas.Bool.{cond_both}
use Rattle.wm_collections.specs.Lists.{AllLater}
use Rattle.wm_machine.specs.Enqueued.{enqueued, plan_in}
use Rattle.wm_machine.specs.Group.{members_of, numbers_in}
use Rattle.wm_machine.specs.Input.{work_numbered}
use Rattle.wm_machine.specs.Plan.{first_of_batch, is_unfinished, plan_of, replacing, updating, Plan}
use Rattle.wm_machine.specs.Plan as plan
use Rattle.wm_machine.specs.Updated.{update_of}
use Rattle.wm_machine.specs.Valid.{IsBefore, Valid}
use Rattle.wm_machine.specs.declared.command.Policy.{Policy}
use Rattle.wm_machine.specs.declared.command.Policy.TheVariants as policy
use Rattle.wm_machine.specs.declared.command.UniqueName.{UniqueName}
use Rattle.wm_machine.specs.declared.record.Record.{Record}
use Rattle.wm_machine.specs.declared.reply.Reply.{Reply}
use Rattle.wm_machine.specs.declared.state.State.{State}
use Rattle.wm_replay.proofs.NamedPlans.{group-members, updated-outcome}
use Rattle.wm_replay.specs.Planned.{kind_refused_in, IsReplyOfUpdate}
use Rattle.wm_replay_commands.proofs.Commands.{outcome-is}
use Rattle.wm_replay_commands.specs.Updates.{with_updated}
use Rattle.wm_request.specs.declared.request.Node.{Node}
use Rattle.wm_unique.proofs.Numbered.{numbered_found}
use Rattle.wm_unique.specs.Plans.{plan_fields}

-- ---- what is planned

by_found : (found : Option Record) (members : List Record) (member : Record) → updating found members ≡ plan.Updates member → found ≡ Some member
by_found (Some found) members member is = cc
by_found None members member is = absurd (cc)

-- only an update updates, and it does so to the first that is unfinished
updates-first : (by : Policy) (members : List Record) (member : Record) → plan_of by members ≡ plan.Updates member
    → find is_unfinished members ≡ Some member
updates-first policy.Keep members member is =
    absurd (cond_both (list_any is_unfinished members) plan.Keeps (plan.Places (replacing members)) (λ (p : Plan). p ≡ plan.Updates member → ⊥)
    (λ e same. absurd (cc)) (λ e same. absurd (cc)) is)
updates-first policy.Replace members member is = absurd (cc)
updates-first policy.CancelAndReenqueue members member is = absurd (cc)
updates-first policy.Append members member is = absurd (cc)
updates-first policy.AppendOrReplace members member is = absurd (cc)
updates-first policy.Update members member is = by_found (find is_unfinished members) members member is

-- a member that is updated has the number that is planned
record IsUpdateOf (planned : Plan) (number : ℕ) : Type 0 where
  member : Record
  planned_is : planned ≡ plan.Updates member
  number_is : number ≡ member.seq

updates-is : (planned : Plan) (number : ℕ) → (plan_fields planned).update ≡ Some number → IsUpdateOf planned number
updates-is plan.Keeps number is = absurd (cc)
updates-is (plan.Updates member) number is = record { member = member; planned_is = refl; number_is = cc }
updates-is (plan.Places placing) number is = absurd (cc)

-- ---- where it is

-- the first unfinished work of a name is found by its number
first_member-found : (works : List Record) (name : List ℕ) (member : Record) → AllLater IsBefore works
    → find is_unfinished (members_of works name) ≡ Some member → work_numbered member.seq works ≡ Some member
first_member-found works name member order is =
    let group = numbers_in (members_of works name) in
    let found = ap (find is_unfinished) (group-members works name group order refl) ∙ is in
    numbered_found is_unfinished works group member.seq order (sym (ap (option_map (λ (work : Record). work.seq)) found)) ∙ found

-- ---- the outcome

-- the first work of a batch
pub first-at : (nodes : List Node) (node : Node) → slice_get nodes 0 ≡ Some node → first_of_batch nodes ≡ Some node
first-at [] node at = absurd (cc)
first-at (first ∷ later) node at = at

module _ (s : State) (unique : UniqueName) (number : ℕ) (valid : Valid s) (planned : (plan_fields (plan_in s unique)).update ≡ Some number) where
  update-is : IsUpdateOf (plan_in s unique) number
  update-is = updates-is (plan_in s unique) number planned

  abbrev member : Record
  member = update-is.member

  found : work_numbered number s.works ≡ Some member
  found =
      ap (λ n. work_numbered n s.works) update-is.number_is
      ∙ first_member-found s.works unique.name member valid.works.in_order
      (updates-first unique.policy (members_of s.works unique.name) member update-is.planned_is)

  member-outcome : (works : List Node) (node : Node) → first_of_batch works ≡ Some node → kind_refused_in s unique works ≡ None
      → enqueued s (Some unique) works ≡ update_of s node.request member
  member-outcome [] node first fits = absurd (cc)
  member-outcome (work ∷ later) node first fits =
      let same : work ≡ node = cc in
      updated-outcome s unique (work ∷ later) member work later refl update-is.planned_is fits ∙ ap (λ (n : Node). update_of s n.request member) same

  -- it is there
  pub member-there : IsSome (work_numbered number s.works)
  member-there = subst IsSome (sym found) refl

  -- the member is updated by the first work of the batch
  pub updated-member : (works : List Node) (node : Node) (answer : Reply) (now : State) → first_of_batch works ≡ Some node
      → kind_refused_in s unique works ≡ None → IsReplyOfUpdate (work_numbered number s.works) answer → now ≡ with_updated node.request number s
      → enqueued s (Some unique) works ≡ record { reply = answer; state = now }
  updated-member works node answer now first fits answers updated =
      member-outcome works node first fits
      ∙ outcome-is (update_of s node.request member) answer now (subst (λ one. IsReplyOfUpdate one answer) found answers)
      (updated ∙ ap (λ n. with_updated node.request n s) update-is.number_is)
