-- Laws of unique names: of what kind the works of a name are, whose a name is after an enqueue, and what an enqueue leaves as it is.
use Rattle.std.proofs.Common.{◌≡◌, ◌&&◌, ℕ, ◌≤◌, true, false, not, cond, eqb, List, [], ◌∷◌, filter, find, map, Option, Some, None, refl, sym, ◌∙◌, ap, subst, arith, inl, inr}
use Rattle.std.specs.List.{AllByRecursion, list_any}
use Rattle.std.proofs.lemmas.Bool.{cases_Bool, cond_both, eqb-true, true≢false}
use Rattle.wm_collections.specs.Lists.{AllLater, HasOne, is_among}
use Rattle.wm_machine.proofs.Endings.{reached_parts}
use Rattle.wm_machine.proofs.Groups.{closed_by, next-made_ready, works_closed-at_once}
use Rattle.wm_collections.proofs.Lists.{All-any, All-filter, All-kept, All-map, All-passing, All-push, All-weaker, All-with2, AllLater-filter, HasOne-filter, HasOne-front, HasOne-map, HasOne-weaker, any_passes, find-stored, list_any-false, list_any_after, one_gives}
use Rattle.wm_machine.proofs.Names.{name_is_free}
use Rattle.wm_machine.proofs.Placings.{bytes_eq-same}
use Rattle.wm_machine.proofs.Runnings.{changed, changed_both, IsAlone-stored}
use Rattle.wm_machine.specs.Closed.{closed, is_reached, with_works_closed}
use Rattle.wm_machine.specs.Enqueued.{carried_out, enqueued, made_ready, new_record, outcome_by, placed_after, plan_in, prior_of, refusal_of, updated_by, with_work}
use Rattle.wm_machine.specs.Group.{AreAloneOrOneTime, is_dropped, is_name, IsApartFrom, leaves_of, members_of, numbers_in, unnamed, with_let_go}
use Rattle.wm_machine.specs.Plan as plan
use Rattle.wm_machine.specs.Plan.{appending, is_lost, is_unfinished, Placing, Plan, plan_of, replacing, updating}
use Rattle.wm_machine.specs.Pruned.{removable}
use Rattle.wm_machine.specs.Updated.{updated}
use Rattle.wm_machine.specs.Valid.{IsBefore, Valid}
use Rattle.wm_machine.specs.Types.{Node, Policy, Record, Refusal, State, UniqueName}
use Rattle.wm_machine.specs.declared.command.Policy.TheVariants as policy
use Rattle.wm_machine.specs.declared.record.How.TheVariants as how

-- ---- of one kind

name_of : (name : List ℕ) (own : Option (List ℕ)) → is_name name own ≡ true → own ≡ Some name
name_of name None is = absurd (true≢false (sym is))
name_of name (Some own) is = ap Some (bytes_eq-same own name is)

-- works in order that share a name
of_one_kind : (name : List ℕ) (works : List Record) → AllLater IsBefore works → AllByRecursion (λ work. is_name name work.name ≡ true) works
    → AreAloneOrOneTime works
of_one_kind name [] order named = inl (omega arith)
of_one_kind name (work ∷ []) order named = inl (omega arith)
of_one_kind name (work ∷ next ∷ works) order named =
    let own = name_of name work.name named.0 in
    inr (
      (order.0.0.name name own (name_of name next.name named.1.0)).0,
      All-with2 (next ∷ works) (λ later before named. (before.name name own (name_of name later.name named)).1) order.0 named.1,
    )

members_named : (works : List Record) (name : List ℕ) → AllByRecursion (λ work. is_name name work.name ≡ true) (members_of works name)
members_named works name = All-passing (λ work. is_name name work.name) works

pub name_of_one_kind : (s : State) (name : List ℕ) → Valid s → AreAloneOrOneTime (members_of s.works name)
name_of_one_kind s name valid =
    of_one_kind name (members_of s.works name) (AllLater-filter _ (λ work. is_name name work.name) s.works valid.works.in_order) (members_named s.works name)

-- ---- whose the name is

-- where a record has the name, it isn't older than this number
abbrev IsNewWhereNamed : List ℕ → ℕ → Record → Type 0
IsNewWhereNamed name next work = is_name name work.name ≡ true → next ≤ work.seq

new_placed : (s : State) (name : List ℕ) (after : List ℕ) (nodes : List Node) (next : ℕ) → next ≤ s.next
    → AllByRecursion (IsNewWhereNamed name next) s.works → AllByRecursion (IsNewWhereNamed name next) (placed_after s (Some name) after nodes).works
new_placed s name after [] next below all = all
new_placed s name after (node ∷ nodes) next below all =
    let work = new_record s (Some name) (prior_of s.works after node.after) node in
    new_placed (with_work s work) name after nodes next (omega (arith, below)) (All-push _ s.works work all (λ named. below))

-- where members are replaced the name is that of new works alone
pub name_passes : (s : State) (unique : UniqueName) (works : List Node) → plan_in s unique ≡ plan.Places (replacing (members_of s.works unique.name))
    → refusal_of s (Some unique) works ≡ None
    → AllByRecursion (λ work. is_name unique.name work.name ≡ true → s.next ≤ work.seq) (enqueued s (Some unique) works).state.works
name_passes s unique works planned accepted =
    let name = unique.name in
    let placing = replacing (members_of s.works name) in
    let outcome : enqueued s (Some unique) works ≡ carried_out (plan.Places placing) s name works =
    ap (λ found. outcome_by found s (Some unique) works) accepted ∙ ap (λ by. carried_out by s name works) planned in
    subst (λ o. AllByRecursion (IsNewWhereNamed name s.next) o.state.works) (sym outcome) (new_placed (made_ready s placing) name [] works s.next (omega (arith, next-made_ready s placing))
    (All-weaker (made_ready s placing).works (λ work other named. absurd (other name (name_of name work.name named) refl)) (name_is_free s name)))

-- ---- what stays

abbrev IsStored : List Record → Record → Type 0
IsStored works work = HasOne (λ other. other ≡ work) works

-- a record stays where it is this one and a change leaves it
stays_changed : (change : Record → Record) (works : List Record) (work : Record) → change work ≡ work → IsStored works work → IsStored (map change works) work
stays_changed change works work same stored = HasOne-map _ change works (λ other is. ap change is ∙ same) stored

stays_closed : (seqs : List ℕ) (s : State) (work : Record) → list_any (λ seq. is_reached seq s.works work) seqs ≡ false → IsStored s.works work
    → IsStored (with_works_closed how.Cancelled seqs s).works work
stays_closed seqs s work none stored =
    subst (λ (then : List Record). IsStored then work) (sym (works_closed-at_once how.Cancelled seqs s))
    (stays_changed (closed_by how.Cancelled s.now seqs s.works) s.works work (ap (λ b. cond b (closed how.Cancelled s.now work) work) none) stored)

stays_let_go : (numbers : List ℕ) (works : List Record) (work : Record) → is_among numbers work.seq ≡ false → IsStored works work
    → IsStored (with_let_go numbers works) work
stays_let_go numbers works work away stored =
    let keep = λ (other : Record). not (is_dropped numbers works other) in
    stays_changed (unnamed numbers) (filter keep works) work (ap (λ b. cond b (record work { name = None }) work) away) (HasOne-filter keep works
    (λ other u is. ap keep is ∙ ap (λ b. not (b && removable works work)) away) (All-any {P = λ other. Unit {0}} works (λ other. tt)) stored)

stays_placed : (s : State) (name : Option (List ℕ)) (after : List ℕ) (nodes : List Node) (work : Record) → IsStored s.works work
    → IsStored (placed_after s name after nodes).works work
stays_placed s name after [] work stored = stored
stays_placed s name after (node ∷ nodes) work stored =
    let new = new_record s name (prior_of s.works after node.after) node in
    stays_placed (with_work s new) name after nodes work (HasOne-front _ s.works (new ∷ []) stored)

stays_placing : (s : State) (name : List ℕ) (placing : Placing) (works : List Node) (work : Record)
    → list_any (λ seq. is_reached seq s.works work) placing.cancel ≡ false → is_among placing.let_go work.seq ≡ false → IsStored s.works work
    → IsStored (carried_out (plan.Places placing) s name works).state.works work
stays_placing s name placing works work unreached away stored =
    stays_placed (made_ready s placing) (Some name) placing.after works work
    (stays_let_go placing.let_go (with_works_closed how.Cancelled placing.cancel s).works work away (stays_closed placing.cancel s work unreached stored))

-- a number among those of records is one of theirs
one_of_number : (works : List Record) (number : ℕ) → is_among (numbers_in works) number ≡ true → HasOne (λ work. work.seq ≡ number) works
one_of_number works number is =
    HasOne-weaker works (λ work here. eqb-true work.seq number here) (any_passes (λ (work : Record). eqb work.seq number) works
    (sym (list_any_after (λ seq. eqb seq number) (λ (work : Record). work.seq) works) ∙ is))

module _ (s : State) (name : List ℕ) (work : Record) (valid : Valid s) (stored : IsStored s.works work) (apart : IsApartFrom s.works name work) where
  -- the works that have the name
  abbrev members : List Record
  members = members_of s.works name

  -- no member has its number
  other_number : AllByRecursion (λ member. member.seq ≡ work.seq → ⊥) members
  other_number =
      All-with2 members (λ member alone named same. true≢false (sym named ∙ ap (λ (w : Record). is_name name w.name) (alone same) ∙ apart.not_named))
      (All-kept _ (λ other. is_name name other.name) s.works (IsAlone-stored work s.works valid.works.in_order stored)) (members_named s.works name)

  not_among : is_among (numbers_in members) work.seq ≡ false
  not_among = elim (cases_Bool (is_among (numbers_in members) work.seq)) [
    | inl e ↦ absurd (one_gives members (λ member not same. not same) other_number (one_of_number members work.seq e))
    | inr e ↦ e
  ]

  -- no unfinished member reaches it
  unreached : list_any (λ seq. is_reached seq s.works work) (numbers_in (filter is_unfinished members)) ≡ false
  unreached =
      list_any-false (λ seq. is_reached seq s.works work) (numbers_in (filter is_unfinished members)) (All-map _ (λ (member : Record). member.seq)
      (filter is_unfinished members) (λ member away. away)
      (All-filter is_unfinished members (λ member unfinished not. elim (cases_Bool (is_reached member.seq s.works work)) [
        | inl e ↦ absurd (not unfinished (reached_parts member.seq s.works work e).1)
        | inr e ↦ e
      ]) apart.not_after))

  -- it stays, whatever a plan comes to
  abbrev Stays : List Node → Plan → Type 0
  Stays works by = IsStored (carried_out by s name works).state.works work

  replaced : (works : List Node) → Stays works (plan.Places (replacing members))
  replaced works = stays_placing s name (replacing members) works work unreached not_among stored

  appended : (works : List Node) → Stays works (plan.Places (appending members))
  appended works = stays_placing s name (appending members) works work refl refl stored

  stays_updated : (works : List Node) (member : Record) → (member.seq ≡ work.seq → ⊥) → IsStored (updated_by s member works).state.works work
  stays_updated [] member differs = stored
  stays_updated (node ∷ nodes) member differs =
      stays_changed (changed (updated node.request) member.seq) s.works work
      (changed_both (λ w. w ≡ work) (updated node.request) member.seq work (λ e. absurd (differs (sym e))) (λ e. refl)) stored

  updated_or_replaced : (works : List Node) (found : Option Record) → find is_unfinished members ≡ found → Stays works (updating found members)
  updated_or_replaced works None is = replaced works
  updated_or_replaced works (Some member) is =
      stays_updated works member (one_gives members
      (λ other not same e. not (ap (λ (w : Record). w.seq) same ∙ e)) other_number (find-stored is_unfinished members member is))

  stays : (by : Policy) (works : List Node) → Stays works (plan_of by members)
  stays policy.Keep works =
      cond_both (list_any is_unfinished members) plan.Keeps (plan.Places (replacing members)) (Stays works) (λ e. stored) (λ e. replaced works)
  stays policy.Replace works = replaced works
  stays policy.CancelAndReenqueue works = replaced works
  stays policy.Append works = appended works
  stays policy.AppendOrReplace works =
      cond_both (list_any (λ work. is_lost work.phase) (leaves_of members)) (replacing members) (appending members)
      (λ (placing : Placing). Stays works (plan.Places placing)) (λ e. replaced works) (λ e. appended works)
  stays policy.Update works = updated_or_replaced works (find is_unfinished members) refl

  stays_in : (by : Policy) (works : List Node) (found : Option Refusal)
      → IsStored (outcome_by found s (Some (record { name = name; policy = by })) works).state.works work
  stays_in by works (Some found) = stored
  stays_in by works None = stays by works

-- an enqueue under a unique name leaves what has nothing to do with the name as it is
pub name_touches_its_own : (s : State) (unique : UniqueName) (works : List Node) (work : Record) → Valid s → HasOne (λ other. other ≡ work) s.works
    → IsApartFrom s.works unique.name work → HasOne (λ other. other ≡ work) (enqueued s (Some unique) works).state.works
name_touches_its_own s unique works work valid stored apart =
    stays_in s unique.name work valid stored apart unique.policy works (refusal_of s (Some unique) works)
