-- An enqueue that is checked, and placed where no check refuses it.
use Rattle.std.proofs.Common.{◌≡◌, ℕ, ◌+◌, ◌^◌, ◌≤◌, List, [], length, Option, Some, None, refl, sym, ◌∙◌, ap, subst}
use Rattle.wm_machine.proofs.Enqueues.{passes}
use Rattle.wm_machine.proofs.Groups.{next-made_ready, with_let_go-none}
use Rattle.wm_machine.specs.Enqueued.{enqueued, made_ready, new_numbers, outcome_by, placed_after, placing_in, refusal_of, refusal_of_placing}
use Rattle.wm_machine.specs.Plan as plan
use Rattle.wm_machine.specs.Plan.{placed_freely, Placing}
use Rattle.wm_machine.specs.Replied.{unchanged}
use Rattle.wm_machine.specs.declared.command.UniqueName.{UniqueName}
use Rattle.wm_machine.specs.declared.record.Record.{Record}
use Rattle.wm_machine.specs.declared.reply.Refusal.{Refusal}
use Rattle.wm_machine.specs.declared.reply.Reply.TheVariants as reply
use Rattle.wm_machine.specs.declared.state.State.{State}
use Rattle.wm_replay.specs.Placed.{name_in, placed_by, IsPlacedBy}
use Rattle.wm_replay_commands.proofs.Commands.{outcome-is}
use Rattle.wm_request.specs.declared.request.Node.{Node}
use Rattle.wm_unique.specs.Plans.{placing_by, plan_fields}
use Rattle.wm_unique.specs.declared.plans.GroupPlan.{GroupPlan}

-- ---- checked

-- where a check refuses a batch, that is answered
pub refused-outcome : (s : State) (named : Option UniqueName) (placing : Placing) (works : List Node) (found : Refusal)
    → IsPlacedBy s named placing works → refusal_of_placing s placing works ≡ Some found → enqueued s named works ≡ unchanged s (reply.Refused found)
refused-outcome s named placing works found placed checked = placed ∙ ap (λ o. placed_by o s named placing works) checked

-- where none does it is placed
pub placed-accepted : (s : State) (named : Option UniqueName) (placing : Placing) (works : List Node) → IsPlacedBy s named placing works
    → refusal_of_placing s placing works ≡ None → enqueued s named works ≡ placing_in (made_ready s placing) (name_in named) placing.after works
placed-accepted s named placing works placed checked = placed ∙ ap (λ o. placed_by o s named placing works) checked

-- and there are numbers for it
pub placed-room : (s : State) (placing : Placing) (works : List Node) → refusal_of_placing s placing works ≡ None
    → s.next + length works ≤ 2 ^ 53
placed-room s placing works checked = (passes s placing works checked).numbers

-- ---- placed

-- once other records have made way
pub ready-room : (s ready : State) (placing : Placing) (works : List Node) → ready ≡ made_ready s placing → s.next + length works ≤ 2 ^ 53
    → ready.next + length works ≤ 2 ^ 53
ready-room s ready placing works is room =
    subst (λ n. n + length works ≤ 2 ^ 53) (sym (ap (λ (t : State). t.next) is ∙ next-made_ready s placing)) room

pub placed-outcome : (s ready now : State) (named : Option UniqueName) (name : Option (List ℕ)) (placing : Placing) (works : List Node) (numbers : List ℕ)
    → enqueued s named works ≡ placing_in (made_ready s placing) (name_in named) placing.after works → ready ≡ made_ready s placing
    → name ≡ name_in named → numbers ≡ new_numbers ready.next works → now ≡ placed_after ready name placing.after works
    → enqueued s named works ≡ record { reply = reply.Enqueued numbers; state = now }
placed-outcome s ready now named name placing works numbers placed is name_is numbers_are now_is =
    let then = made_ready s placing in
    let given : numbers ≡ new_numbers then.next works = numbers_are ∙ ap (λ (t : State). new_numbers t.next works) is in
    placed
    ∙ outcome-is (placing_in then (name_in named) placing.after works) (reply.Enqueued numbers) now (ap reply.Enqueued given)
    (now_is ∙ ap (λ (t : State). placed_after t name placing.after works) is ∙ ap (λ own. placed_after then own placing.after works) name_is)

-- ---- without a name

free-outcome : (s : State) (works : List Node) (found : Option Refusal)
    → outcome_by found s None works ≡ placed_by found s None placed_freely works
free-outcome s works (Some found) = refl
free-outcome s works None =
    ap (λ (t : State). placing_in t None [] works) (sym (ap (λ (works : List Record). record s { works = works }) (with_let_go-none s.works)))

-- a batch is placed, and nothing becomes of other records
pub free-placed : (s : State) (named : Option UniqueName) (fields : GroupPlan) (works : List Node) → named ≡ None
    → fields ≡ plan_fields (plan.Places placed_freely) → IsPlacedBy s named (placing_by fields) works
free-placed s named fields works none free =
    subst (λ by. IsPlacedBy s by (placing_by fields) works) (sym none)
    (subst (λ (f : GroupPlan). IsPlacedBy s None (placing_by f) works) (sym free) (free-outcome s works (refusal_of s None works)))
