-- What the last works of a unique name tell of a policy that appends.
use Rattle.std.proofs.Common.{◌≡◌, ℕ, ◌≤◌, ◌==◌, ◌&&◌, Bool, true, false, not, cond, ltb, List, [], ◌∷◌, filter, find, length, Option, Some, None, option_map, IfSome, refl, sym, ◌∙◌, ap, subst, arith, inl, inr}
use Rattle.std.specs.List.{AllByRecursion, list_any}
use Rattle.std.proofs.lemmas.Bool.{cases_Bool, false≢true, ne_eqb}
use Rattle.wm_collections.proofs.Lists.{All-kept, All-weaker, find-fails, list_any-false}
use Rattle.wm_collections.specs.Lists.{AllLater, is_among}
use Rattle.wm_machine.proofs.NameLaws.{name_of_one_kind}
use Rattle.wm_machine.specs.Group.{is_name, is_prior_of, leaves_of, members_of, numbers_in, AreAloneOrOneTime}
use Rattle.wm_machine.specs.Plan.{appending, id_mismatched, is_appending, is_lost, is_unfit, mismatch, plan_of, replacing, unfit_work, Placing, Plan}
use Rattle.wm_machine.specs.Plan as plan
use Rattle.wm_machine.specs.Valid.{IsBefore, Valid}
use Rattle.wm_machine.specs.declared.command.Policy.{Policy}
use Rattle.wm_machine.specs.declared.command.Policy.TheVariants as policy
use Rattle.wm_machine.specs.declared.record.Record.{Record}
use Rattle.wm_machine.specs.declared.state.State.{State}
use Rattle.wm_request.specs.Batches.{is_periodic}
use Rattle.wm_request.specs.declared.request.Node.{Node}
use Rattle.wm_steps.proofs.LastMembers.{names-earlier, NameEarlier}
use Rattle.wm_steps.specs.Covers.{members_from, AreLast}
use Rattle.wm_unique.proofs.Numbered.{filter_both, grouped_filter, numbers_filter}
use Rattle.wm_unique.specs.Plans.{grouped, kind_refused, plan_fields, AreNumbersOf}
use Rattle.wm_unique.specs.declared.plans.GroupPlan.{GroupPlan}

-- ---- works by their numbers

module _ (works : List Record) (name : List ℕ) (numbers : List ℕ) (order : AllLater IsBefore works) (last : AreLast (members_of works name) numbers) where
  both : members_from last.mark (members_of works name) ≡ filter (λ work. is_name name work.name && not (ltb work.seq last.mark)) works
  both = filter_both (λ work. is_name name work.name) (λ work. not (ltb work.seq last.mark)) works

  are : numbers ≡ numbers_in (filter (λ work. is_name name work.name && not (ltb work.seq last.mark)) works)
  are = last.are ∙ ap numbers_in both

  pub last-numbers : AreNumbersOf works numbers
  last-numbers = subst (AreNumbersOf works) (sym are) (numbers_filter (λ work. is_name name work.name && not (ltb work.seq last.mark)) works order)

  pub last-group : grouped works numbers ≡ members_from last.mark (members_of works name)
  last-group =
      ap (grouped works) are ∙ grouped_filter (λ work. is_name name work.name && not (ltb work.seq last.mark)) works order ∙ sym both

-- ---- plans

-- whether a batch comes after works by a plan
abbrev comes_after : Plan → Bool
comes_after planned = not (length (plan_fields planned).after == 0)

appended-same : (b : Bool) (those members : List Record) → leaves_of those ≡ leaves_of members
    → comes_after (plan.Places (cond b (replacing those) (appending those))) ≡ true
    → plan.Places (cond b (replacing those) (appending those)) ≡ plan.Places (cond b (replacing members) (appending members))
appended-same true those members same after = absurd (false≢true after)
appended-same false those members same after = ap (λ leaves. plan.Places (record { cancel = []; let_go = []; after = numbers_in leaves })) same

-- the same leaves give the same plan, where a batch comes after one
pub plan-same : (by : Policy) (those members : List Record) → is_appending by ≡ true → leaves_of those ≡ leaves_of members
    → (length (plan_fields (plan_of by those)).after == 0) ≡ false → plan_of by those ≡ plan_of by members
plan-same policy.Keep those members appends same after = absurd (false≢true appends)
plan-same policy.Replace those members appends same after = absurd (false≢true appends)
plan-same policy.CancelAndReenqueue those members appends same after = absurd (false≢true appends)
plan-same policy.Update those members appends same after = absurd (false≢true appends)
plan-same policy.Append those members appends same after =
    ap (λ leaves. plan.Places (record { cancel = []; let_go = []; after = numbers_in leaves })) same
plan-same policy.AppendOrReplace those members appends same after =
    let lost : Bool = list_any (λ work. is_lost work.phase) (leaves_of those) in
    appended-same lost those members same (ap not after)
    ∙ ap (λ (leaves : List Record). plan.Places (cond (list_any (λ work. is_lost work.phase) leaves) (replacing members) (appending members))) same

-- ---- kinds

-- a member alone is a leaf, and so the last
alone-last : (mark : ℕ) (members : List Record) → length members ≤ 1 → NameEarlier members → leaves_of (members_from mark members) ≡ leaves_of members
    → members_from mark members ≡ members
alone-last mark [] few earlier same = refl
alone-last mark (member ∷ []) few earlier same =
    let own : is_among member.prior member.seq ≡ false =
    list_any-false (λ n. n == member.seq) member.prior (All-weaker member.prior (λ n less. ne_eqb n member.seq (λ e. absurd (omega (arith, less, e)))) earlier.0) in
    let first : is_prior_of (member ∷ []) member ≡ false = rw own refl in
    elim (cases_Bool (ltb member.seq mark)) as (λ _. members_from mark (member ∷ []) ≡ member ∷ []) [
      | inl is ↦ (let none : [] ≡ member ∷ [] = rw (is, first) at same in absurd (cc))
      | inr isnt ↦ rw isnt refl
    ]
alone-last mark (member ∷ other ∷ members) few earlier same = absurd (omega (arith, few))

fits-one_time : (by : Policy) (member : Record) → is_appending by ≡ true → member.request.period ≡ None → is_unfit by member ≡ false
fits-one_time policy.Keep member appends is = refl
fits-one_time policy.Replace member appends is = refl
fits-one_time policy.CancelAndReenqueue member appends is = refl
fits-one_time policy.Update member appends is = absurd (false≢true appends)
fits-one_time policy.Append member appends is = rw is refl
fits-one_time policy.AppendOrReplace member appends is = rw is refl

unfit-same : (by : Policy) (mark : ℕ) (members : List Record) → is_appending by ≡ true → NameEarlier members
    → leaves_of (members_from mark members) ≡ leaves_of members → AreAloneOrOneTime members
    → find (is_unfit by) (members_from mark members) ≡ find (is_unfit by) members
unfit-same by mark members appends earlier same (inl alone) = ap (find (is_unfit by)) (alone-last mark members alone earlier same)
unfit-same by mark members appends earlier same (inr one_time) =
    let fits : AllByRecursion (λ member. is_unfit by member ≡ false) members = All-weaker members (λ member is. fits-one_time by member appends is) one_time in
    find-fails (is_unfit by) (members_from mark members) (All-kept _ (λ member. not (ltb member.seq mark)) members fits)
    ∙ sym (find-fails (is_unfit by) members fits)

id-same : (unfit : Option Node) (by : Policy) (those members : List Record) → find (is_unfit by) those ≡ find (is_unfit by) members
    → id_mismatched unfit by those ≡ id_mismatched unfit by members
id-same (Some work) by those members same = refl
id-same None by those members same = ap (option_map (λ (member : Record). member.request.id)) same

refused-same : (by : Policy) (those members : List Record) (works : List Node) → is_appending by ≡ true
    → mismatch by those works ≡ mismatch by members works → kind_refused by those works ≡ kind_refused by members works
refused-same policy.Keep those members works appends same = absurd (false≢true appends)
refused-same policy.Replace those members works appends same = absurd (false≢true appends)
refused-same policy.CancelAndReenqueue those members works appends same = absurd (false≢true appends)
refused-same policy.Update those members works appends same = absurd (false≢true appends)
refused-same policy.Append those members works appends same = same
refused-same policy.AppendOrReplace those members works appends same = same

-- ---- what is planned by the last works of a name

module _ (s : State) (name : List ℕ) (numbers : List ℕ) (by : Policy) (valid : Valid s) (appends : is_appending by ≡ true)
    (last : AreLast (members_of s.works name) numbers) where
  abbrev those : List Record
  those = grouped s.works numbers

  abbrev members : List Record
  members = members_of s.works name

  group : those ≡ members_from last.mark members
  group = last-group s.works name numbers valid.works.in_order last

  leaves : leaves_of those ≡ leaves_of members
  leaves = ap leaves_of group ∙ last.leaves

  -- where a batch comes after one of them, it is planned by all
  pub last-planned : (length (plan_fields (plan_of by those)).after == 0) ≡ false → plan_of by those ≡ plan_of by members
  last-planned after = plan-same by those members appends leaves after

  -- and the kinds that a policy can't take are the same
  pub last-refused : (works : List Node) → kind_refused by those works ≡ kind_refused by members works
  last-refused works =
      let unfit =
      ap (find (is_unfit by)) group
      ∙ unfit-same by last.mark members appends (names-earlier s name valid) last.leaves (name_of_one_kind s name valid) in
      refused-same by those members works appends (id-same (unfit_work (find is_periodic works) by works) by those members unfit)

-- what was found by the last works is what is planned by all
pub planned-found : (found : Option GroupPlan) (is planned : GroupPlan) (all : GroupPlan) → IfSome found (λ one. (one ≡ is) × ((length is.after == 0) ≡ false))
    → is ≡ planned → ((length planned.after == 0) ≡ false → planned ≡ all) → IfSome found (λ one. one ≡ all)
planned-found None is planned all found same known = tt
planned-found (Some one) is planned all found same known =
    found.0 ∙ same ∙ known (ap (λ (p : GroupPlan). length p.after == 0) (sym same) ∙ found.1)
