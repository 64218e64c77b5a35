-- What an enqueue under a unique name comes to, by what its policy comes to.
use Rattle.std.proofs.Common.{◌≡◌, ℕ, true, not, find, List, ◌∷◌, Option, Some, None, sym, ◌∙◌, ap, subst}
use Rattle.std.specs.List.{AllByRecursion, list_any}
use Rattle.std.specs.Prelude.{option_map}
use Rattle.std.proofs.lemmas.Bool.{cond_both}
use Rattle.wm_collections.specs.Lists.{AllLater}
use Rattle.wm_commands.proofs.ClearedNumbers.{none-numbers}
use Rattle.wm_commands.specs.Planned.{kind_refused_in}
use Rattle.wm_collections.proofs.Lists.{All-kept, All-map}
use Rattle.wm_machine.specs.Enqueued.{carried_out, enqueued, outcome_by, plan_in, refusal_by, updated_by}
use Rattle.wm_machine.specs.Group.{is_name, is_prior_of, leaves_of, members_of, numbers_in}
use Rattle.wm_machine.specs.Plan.{appending, is_lost, is_unfinished, mismatch, plan_of, replacing, updating, Placing, Plan}
use Rattle.wm_machine.specs.Plan as plan
use Rattle.wm_machine.specs.Updated.{update_of}
use Rattle.wm_machine.specs.Valid.{IsBefore}
use Rattle.wm_machine.specs.declared.command.Policy.{Policy}
use Rattle.wm_machine.specs.declared.command.UniqueName.{UniqueName}
use Rattle.wm_machine.specs.declared.record.Record.{Record}
use Rattle.wm_machine.specs.declared.state.State.{State}
use Rattle.wm_request.specs.declared.request.Node.{Node}
use Rattle.wm_machine.specs.declared.command.Policy.TheVariants as policy
use Rattle.wm_machine.specs.declared.reply.Refusal.TheVariants.{KindMismatch}
use Rattle.wm_steps.proofs.Nodes.{there-each}
use Rattle.wm_changes.specs.Nodes.{is_there}
use Rattle.wm_unique.proofs.Numbered.{grouped_filter, numbers_filter}
use Rattle.wm_unique.specs.Plans.{grouped, plan_fields, refused_kind, AreNumbersOf}

-- ---- works by their numbers

-- the members of a name are those of their numbers
grouped-members : (works : List Record) (name : List ℕ) → AllLater IsBefore works → grouped works (numbers_in (members_of works name)) ≡ members_of works name
grouped-members works name order = grouped_filter (λ work. is_name name work.name) works order

pub members-group : (works : List Record) (name : List ℕ) (group : List ℕ) → AllLater IsBefore works → group ≡ numbers_in (members_of works name)
    → AreNumbersOf works group
members-group works name group order is = subst (AreNumbersOf works) (sym is) (numbers_filter (λ work. is_name name work.name) works order)

pub group-members : (works : List Record) (name : List ℕ) (group : List ℕ) → AllLater IsBefore works → group ≡ numbers_in (members_of works name)
    → grouped works group ≡ members_of works name
group-members works name group order is = ap (grouped works) is ∙ grouped-members works name order

-- ---- what a batch is placed after

-- what is placed after those that a plan says
abbrev after_of : Plan → List ℕ
after_of planned = (plan_fields planned).after

leaves-there : (works : List Record) (name : List ℕ) → AllByRecursion (λ number. is_there works number ≡ true) (numbers_in (leaves_of (members_of works name)))
leaves-there works name =
    let there : Record → Type 0 = λ work. is_there works work.seq ≡ true in
    let members = members_of works name in
    let leaves = leaves_of members in
    let stored : AllByRecursion there members = All-kept _ (λ work. is_name name work.name) works (there-each works) in
    All-map _ (λ (work : Record). work.seq) leaves (λ work is. is) (All-kept _ (λ work. not (is_prior_of members work)) members stored)

updates-after : (works : List Record) (found : Option Record) (members : List Record)
    → AllByRecursion (λ number. is_there works number ≡ true) (after_of (updating found members))
updates-after works (Some member) members = tt
updates-after works None members = tt

-- each is there
pub after-there : (by : Policy) (works : List Record) (name : List ℕ)
    → AllByRecursion (λ number. is_there works number ≡ true) (after_of (plan_of by (members_of works name)))
after-there policy.Keep works name =
    let members = members_of works name in
    cond_both (list_any is_unfinished members) plan.Keeps (plan.Places (replacing members))
    (λ (p : Plan). AllByRecursion (λ number. is_there works number ≡ true) (after_of p)) (λ e. tt) (λ e. tt)
after-there policy.Replace works name = tt
after-there policy.CancelAndReenqueue works name = tt
after-there policy.Append works name = leaves-there works name
after-there policy.AppendOrReplace works name =
    let members = members_of works name in
    cond_both (list_any (λ work. is_lost work.phase) (leaves_of members)) (replacing members) (appending members)
    (λ (by : Placing). AllByRecursion (λ number. is_there works number ≡ true) by.after) (λ e. tt) (λ e. leaves-there works name)
after-there policy.Update works name =
    let members = members_of works name in
    updates-after works (find is_unfinished members) members

-- ---- what it lets go

-- those that a plan lets go
abbrev let_go_of : Plan → List ℕ
let_go_of planned = (plan_fields planned).let_go

updates-let_go : (works : List Record) (found : Option Record) (members : List Record) → AreNumbersOf works (numbers_in members)
    → AreNumbersOf works (let_go_of (updating found members))
updates-let_go works (Some member) members all = none-numbers works
updates-let_go works None members all = all

-- they are works
pub let_go-numbers : (by : Policy) (works : List Record) (name : List ℕ) → AllLater IsBefore works
    → AreNumbersOf works (let_go_of (plan_of by (members_of works name)))
let_go-numbers by works name order = let_go-by by
  where
    members : List Record
    members = members_of works name

    all : AreNumbersOf works (numbers_in members)
    all = numbers_filter (λ work. is_name name work.name) works order

    let_go-by : (by : Policy) → AreNumbersOf works (let_go_of (plan_of by members))
    let_go-by policy.Keep =
        cond_both (list_any is_unfinished members) plan.Keeps (plan.Places (replacing members)) (λ (p : Plan). AreNumbersOf works (let_go_of p))
        (λ e. none-numbers works) (λ e. all)
    let_go-by policy.Replace = all
    let_go-by policy.CancelAndReenqueue = all
    let_go-by policy.Append = none-numbers works
    let_go-by policy.AppendOrReplace =
        cond_both (list_any (λ work. is_lost work.phase) (leaves_of members)) (replacing members) (appending members)
        (λ (by : Placing). AreNumbersOf works by.let_go) (λ e. all) (λ e. none-numbers works)
    let_go-by policy.Update = updates-let_go works (find is_unfinished members) members all

-- ---- the outcome

module _ (s : State) (unique : UniqueName) (works : List Node) where
  abbrev mismatched : Option (List ℕ)
  mismatched = mismatch unique.policy (members_of s.works unique.name) works

  -- where the kinds fit nothing mismatches, unless all is kept
  by-plan : (planned : Plan) → plan_in s unique ≡ planned → kind_refused_in s unique works ≡ None → refused_kind planned mismatched ≡ None
  by-plan planned is fits = ap (λ p. refused_kind p mismatched) (sym is) ∙ fits

  -- where no check refuses it
  carried-by : (planned : Plan) → plan_in s unique ≡ planned → refusal_by planned mismatched s works ≡ None
      → enqueued s (Some unique) works ≡ carried_out planned s unique.name works
  carried-by planned is none =
      ap (λ p. outcome_by (refusal_by p mismatched s works) s (Some unique) works) is
      ∙ ap (λ o. outcome_by o s (Some unique) works) none ∙ ap (λ p. carried_out p s unique.name works) is

  -- a member is updated
  pub updated-outcome : (member : Record) (work : Node) (later : List Node) → works ≡ work ∷ later → plan_in s unique ≡ plan.Updates member
      → kind_refused_in s unique works ≡ None → enqueued s (Some unique) works ≡ update_of s work.request member
  updated-outcome member work later first is fits =
      carried-by (plan.Updates member) is (ap (option_map KindMismatch) (by-plan (plan.Updates member) is fits)) ∙ ap (updated_by s member) first
