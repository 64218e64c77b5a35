-- The descendants of a work, among records in ascending number.
use Rattle.std.proofs.Common.{◌≡◌, ◌≢◌, ◌⊎◌, ℕ, ◌<◌, ◌||◌, Bool, true, cond, eqb, List, [], ◌∷◌, refl, sym, ◌∙◌, ap, subst, arith, inl, inr}
use mathlib.Core.List.{reverse, reverse-reverse}
use Rattle.std.specs.List.{AllByRecursion, list_any}
use Rattle.std.proofs.lemmas.Bool.{cond_both, eq-eqb, eqb-true, or_cases, or_left, or_right}
use Rattle.wm_collections.specs.Lists.{AllLater, HasOne, is_among}
use Rattle.wm_collections.proofs.Lists.{All-reverse, All-stored, All-weaker, All-with2, All-with3, AllLater-reverse, HasOne-reverse, HasOne-weaker, HasOne-with, any_passes, list_any-one, one_gives}
use Rattle.wm_machine.proofs.Runnings.{IsAlone, IsAlone-stored, WorksAscend-in_order}
use Rattle.wm_machine.specs.Closed.{descendants, IsDescendantWhere}
use Rattle.wm_machine.specs.Valid.{ArePriorSound, IsBefore, IsRecord, Valid}
use Rattle.wm_machine.specs.declared.record.How.TheVariants as how
use Rattle.wm_machine.specs.declared.record.Phase.TheVariants as phase
use Rattle.wm_machine.specs.Types.{Record, State}

-- ---- the numbers among these

among-one : (numbers : List ℕ) (number : ℕ) → is_among numbers number ≡ true → HasOne (λ one. one ≡ number) numbers
among-one numbers number is = HasOne-weaker numbers (λ one here. eqb-true one number here) (any_passes (λ one. eqb one number) numbers is)

-- what is among the numbers and isn't the first is among the others
among_others : (first number : ℕ) (numbers : List ℕ) → first ≢ number → is_among (first ∷ numbers) number ≡ true → is_among numbers number ≡ true
among_others first number numbers differs is =
    elim (or_cases (eqb first number) (is_among numbers number) is) [ inl here ↦ absurd (differs (eqb-true first number here)) | inr there ↦ there ]

-- ---- records in descending number

-- each names smaller numbers alone
abbrev NamesEarlier : Record → Type 0
NamesEarlier work = AllByRecursion (λ number. number < work.seq) work.prior

-- records in descending number, each of which names smaller numbers alone
record Descend (works : List Record) : Type 0 where
  order : AllLater (λ one later. later.seq < one.seq) works
  earlier : AllByRecursion NamesEarlier works

-- whether a work joins the descendants of these records
abbrev joins : ℕ → List Record → Record → Bool
joins seq earlier work = eqb work.seq seq || list_any (is_among (descendants seq earlier)) work.prior

-- a descendant among records is one among one record more
among-more : (seq number : ℕ) (work : Record) (earlier : List Record) → is_among (descendants seq earlier) number ≡ true
    → is_among (descendants seq (work ∷ earlier)) number ≡ true
among-more seq number work earlier is =
    cond_both (joins seq earlier work) (work.seq ∷ descendants seq earlier) (descendants seq earlier)
    (λ (numbers : List ℕ). is_among numbers number ≡ true) (λ e. or_right _ _ is) (λ e. is)

-- and one of a smaller number was one already
among-fewer : (seq number : ℕ) (work : Record) (earlier : List Record) → number < work.seq
    → is_among (descendants seq (work ∷ earlier)) number ≡ true → is_among (descendants seq earlier) number ≡ true
among-fewer seq number work earlier below =
    cond_both (joins seq earlier work) (work.seq ∷ descendants seq earlier) (descendants seq earlier)
    (λ (numbers : List ℕ). is_among numbers number ≡ true → is_among (descendants seq earlier) number ≡ true)
    (λ e is. among_others work.seq number (descendants seq earlier) (λ same. absurd (omega (arith, below, same))) is) (λ e is. is)

-- the work that joins is one
among-joined : (seq : ℕ) (work : Record) (earlier : List Record) → joins seq earlier work ≡ true → is_among (descendants seq (work ∷ earlier)) work.seq ≡ true
among-joined seq work earlier joined =
    subst (λ b. is_among (cond b (work.seq ∷ descendants seq earlier) (descendants seq earlier)) work.seq ≡ true) (sym joined)
    (or_left _ _ (eq-eqb work.seq work.seq refl))

-- a work that has a descendant as a prerequisite is a descendant
abbrev pub IsClosed : ℕ → List Record → Record → Type 0
IsClosed seq works work = HasOne (λ number. is_among (descendants seq works) number ≡ true) work.prior → is_among (descendants seq works) work.seq ≡ true

closed : (seq : ℕ) (works : List Record) → Descend works → AllByRecursion (IsClosed seq works) works
closed seq [] down = tt
closed seq (work ∷ earlier) down = (
  λ one. among-joined seq work earlier (or_right _ _ (list_any-one (is_among (descendants seq earlier)) work.prior
      (HasOne-with work.prior (λ number below is. among-fewer seq number work earlier below is) down.earlier.0 one))),
  All-with3 earlier (λ other below_is named closes one. among-more seq other.seq work earlier (closes
      (HasOne-with other.prior (λ number below among. among-fewer seq number work earlier (let less = below_is in omega (arith, below, less)) among) named
      one))) down.order.0 down.earlier.1 (closed seq earlier (record { order = down.order.1; earlier = down.earlier.1 })),
)

-- a descendant is the work itself, or has a descendant as a prerequisite
abbrev pub IsReason : ℕ → List Record → Record → Type 0
IsReason seq works work =
    is_among (descendants seq works) work.seq ≡ true → (work.seq ≡ seq) ⊎ HasOne (λ number. is_among (descendants seq works) number ≡ true) work.prior

-- descendants are numbers of these records
numbers_of : (P : ℕ → Type 0) (seq : ℕ) (works : List Record) → AllByRecursion (λ work. P work.seq) works → AllByRecursion P (descendants seq works)
numbers_of P seq [] all = tt
numbers_of P seq (work ∷ earlier) all =
    let rest = numbers_of P seq earlier all.1 in
    cond_both (joins seq earlier work) (work.seq ∷ descendants seq earlier) (descendants seq earlier) (AllByRecursion P) (λ e. (all.0, rest)) (λ e. rest)

-- none of the smaller numbers is this one
none_above : (seq : ℕ) (work : Record) (earlier : List Record) → AllByRecursion (λ other. other.seq < work.seq) earlier
    → is_among (descendants seq earlier) work.seq ≡ true → ⊥
none_above seq work earlier below is =
    one_gives (descendants seq earlier) (λ number less same. absurd (omega (arith, less, same))) (numbers_of (λ number. number < work.seq) seq earlier below)
    (among-one (descendants seq earlier) work.seq is)

reason_first : (seq : ℕ) (work : Record) (earlier : List Record) → AllByRecursion (λ other. other.seq < work.seq) earlier → IsReason seq (work ∷ earlier) work
reason_first seq work earlier below =
    let D = descendants seq earlier in
    cond_both (joins seq earlier work) (work.seq ∷ D) D
    (λ (numbers : List ℕ). is_among numbers work.seq ≡ true → (work.seq ≡ seq) ⊎ HasOne (λ number. is_among numbers number ≡ true) work.prior)
    (λ e is. elim (or_cases (eqb work.seq seq) (list_any (is_among D) work.prior) e) [
      | inl self ↦ inl (eqb-true work.seq seq self)
      | inr any ↦ inr (HasOne-weaker work.prior (λ number among. or_right _ _ among) (any_passes (is_among D) work.prior any))
    ]) (λ e is. absurd (none_above seq work earlier below is))

reason : (seq : ℕ) (works : List Record) → Descend works → AllByRecursion (IsReason seq works) works
reason seq [] down = tt
reason seq (work ∷ earlier) down = (
  reason_first seq work earlier down.order.0,
  All-with2 earlier (λ other below reason is. elim (reason (among-fewer seq other.seq work earlier below is)) [
    | inl self ↦ inl self
    | inr one ↦ inr (HasOne-weaker other.prior (λ number among. among-more seq number work earlier among) one)
  ]) down.order.0 (reason seq earlier (record { order = down.order.1; earlier = down.earlier.1 })),
)

-- ---- unless it has succeeded, none of its descendants has

-- a record has the number, and none of the number has succeeded
record IsLacking (works : List Record) (number : ℕ) : Type 0 where
  there : HasOne (λ work. work.seq ≡ number) works
  not_yet : AllByRecursion (λ work. work.seq ≡ number → work.phase ≡ phase.Done how.Succeeded → ⊥) works

-- a work of which a prerequisite is lacking isn't running
lacking-running : (works : List Record) (work : Record) → ArePriorSound works work.phase work.prior → HasOne (IsLacking works) work.prior
    → work.phase ≡ phase.Running → ⊥
lacking-running works work sound lacks running =
    one_gives work.prior (λ number both lacking. one_gives works (λ other not is. not is.seq is.succeeded) lacking.not_yet both.1)
    (subst (λ phase. ArePriorSound works phase work.prior) running sound) lacks

-- and hasn't succeeded
lacking-succeeded : (works : List Record) (work : Record) → ArePriorSound works work.phase work.prior → HasOne (IsLacking works) work.prior
    → work.phase ≡ phase.Done how.Succeeded → ⊥
lacking-succeeded works work sound lacks succeeded =
    one_gives work.prior (λ number all lacking.
    let never : AllByRecursion (λ other. other.seq ≡ number → ⊥) works = All-with2 works (λ other done not same. not same (done same)) all lacking.not_yet in
    one_gives works (λ other never is. never is) never lacking.there) (subst (λ phase. ArePriorSound works phase work.prior) succeeded sound) lacks

-- prerequisites that are among numbers that are lacking
among_lacking : (works : List Record) (numbers prior : List ℕ) → AllByRecursion (IsLacking works) numbers
    → HasOne (λ number. is_among numbers number ≡ true) prior → HasOne (IsLacking works) prior
among_lacking works numbers prior lacking one =
    HasOne-weaker prior (λ number is. one_gives numbers (λ one lacks same. subst (IsLacking works) same lacks) lacking (among-one numbers number is)) one

-- a record of these works, sound among them
abbrev IsSoundIn : List Record → Record → Type 0
IsSoundIn works work = AllByRecursion (IsAlone work) works × (HasOne (λ other. other ≡ work) works × ArePriorSound works work.phase work.prior)

module _ (works : List Record) (seq : ℕ)
    (not_yet : AllByRecursion (λ work. work.seq ≡ seq → work.phase ≡ phase.Done how.Succeeded → ⊥) works) where
  -- a work that joins is lacking
  joined_lacking : (work : Record) (earlier : List Record) → IsSoundIn works work → AllByRecursion (IsLacking works) (descendants seq earlier)
      → joins seq earlier work ≡ true → IsLacking works work.seq
  joined_lacking work earlier is rest joined = record {
    there = HasOne-weaker works (λ other same. ap (λ (w : Record). w.seq) same) is.1.0;
    not_yet = elim (or_cases (eqb work.seq seq) (list_any (is_among (descendants seq earlier)) work.prior) joined) [
      | inl self ↦ All-weaker works (λ other not same succeeded. not (same ∙ eqb-true work.seq seq self) succeeded) not_yet
      | inr any ↦
          All-weaker works (λ other alone same succeeded. lacking-succeeded works work is.1.1
          (among_lacking works (descendants seq earlier) work.prior rest (any_passes (is_among (descendants seq earlier)) work.prior any))
          (sym (ap (λ (w : Record). w.phase) (alone same)) ∙ succeeded)) is.0
    ];
  }

  descendants_lacking : (some : List Record) → AllByRecursion (IsSoundIn works) some → AllByRecursion (IsLacking works) (descendants seq some)
  descendants_lacking [] sound = tt
  descendants_lacking (work ∷ earlier) sound =
      let rest = descendants_lacking earlier sound.1 in
      cond_both (joins seq earlier work) (work.seq ∷ descendants seq earlier) (descendants seq earlier) (AllByRecursion (IsLacking works))
      (λ e. (joined_lacking work earlier sound.0 rest e, rest)) (λ e. rest)

-- ---- records of a state

-- each record is alone under its number
All-alone : (works : List Record) → AllLater IsBefore works → AllByRecursion (λ work. AllByRecursion (IsAlone work) works) works
All-alone works order = All-weaker works (λ work stored. IsAlone-stored work works order stored) (All-stored works)

Descend-reverse : (works : List Record) → AllLater IsBefore works → AllByRecursion IsRecord works → Descend (reverse works)
Descend-reverse works order records = record {
  order = AllLater-reverse _ works (WorksAscend-in_order works order);
  earlier = All-reverse _ works (All-weaker works (λ work is. All-weaker work.prior (λ number both. both.1) is.prior.earlier) records);
}

-- a fact of each of the reversed records is one of each record
All-reversed : {T : Type 0} (P : T → Type 0) (xs : List T) → AllByRecursion P (reverse xs) → AllByRecursion P xs
All-reversed P xs all = subst (AllByRecursion P) (reverse-reverse xs) (All-reverse _ (reverse xs) all)

-- whether a number is that of a descendant of a work, among these records
abbrev pub is_descendant : ℕ → List Record → ℕ → Bool
is_descendant seq works number = is_among (descendants seq (reverse works)) number

-- a work is a descendant of itself, where it is there
there : (seq : ℕ) (works : List Record) → HasOne (λ work. work.seq ≡ seq) works → is_among (descendants seq works) seq ≡ true
there seq [] one = absurd one
there seq (work ∷ earlier) (inl is) =
    subst (λ n. is_among (descendants seq (work ∷ earlier)) n ≡ true) is (among-joined seq work earlier (or_left _ _ (eq-eqb work.seq seq is)))
there seq (work ∷ earlier) (inr one) = among-more seq seq work earlier (there seq earlier one)

pub descendant_self : (seq : ℕ) (works : List Record) → AllByRecursion (λ work. work.seq ≡ seq → is_descendant seq works work.seq ≡ true) works
descendant_self seq works =
    All-weaker works (λ work stored same. subst (λ n. is_descendant seq works n ≡ true) (sym same) (there seq (reverse works) (HasOne-reverse _ works
    (HasOne-weaker works (λ other is. ap (λ (w : Record). w.seq) is ∙ same) stored)))) (All-stored works)

-- a work that has a descendant as a prerequisite is a descendant
pub descendant_after : (seq : ℕ) (works : List Record) → AllLater IsBefore works → AllByRecursion IsRecord works
    → AllByRecursion (λ work. HasOne (λ number. is_descendant seq works number ≡ true) work.prior → is_descendant seq works work.seq ≡ true) works
descendant_after seq works order records = All-reversed (IsClosed seq (reverse works)) works (closed seq (reverse works) (Descend-reverse works order records))

-- a descendant of a work is the work itself, or has a descendant of it as a prerequisite
pub descendant_by : (seq : ℕ) (works : List Record) → AllLater IsBefore works → AllByRecursion IsRecord works
    → AllByRecursion (IsReason seq (reverse works)) works
descendant_by seq works order records = All-reversed (IsReason seq (reverse works)) works (reason seq (reverse works) (Descend-reverse works order records))

-- of a work that hasn't succeeded no other descendant runs
pub running_descendant : (seq : ℕ) (works : List Record) → AllLater IsBefore works → AllByRecursion IsRecord works
    → AllByRecursion (λ work. ArePriorSound works work.phase work.prior) works
    → AllByRecursion (λ work. work.seq ≡ seq → work.phase ≡ phase.Done how.Succeeded → ⊥) works
    → AllByRecursion (λ work. work.phase ≡ phase.Running → is_descendant seq works work.seq ≡ true → work.seq ≡ seq) works
running_descendant seq works order records sound not_yet =
    let each : AllByRecursion (IsSoundIn works) works =
    All-with3 works (λ work alone there sound. (alone, (there, sound))) (All-alone works order) (All-stored works) sound in
    let lacking = descendants_lacking works seq not_yet (reverse works) (All-reverse _ works each) in
    All-with2 works (λ work reason sound running among. elim (reason among) [
      | inl self ↦ self
      | inr one ↦ absurd (lacking-running works work sound (among_lacking works (descendants seq (reverse works)) work.prior lacking one) running)
    ]) (descendant_by seq works order records) sound

-- a record is a descendant exactly where it is the work itself, or has a descendant as a prerequisite
pub descendants_where : (s : State) (seq : ℕ) → Valid s → AllByRecursion (IsDescendantWhere seq s.works) s.works
descendants_where s seq valid =
    All-with3 s.works (λ work reason reached closes. (reason, λ why. elim why [ inl self ↦ reached self | inr one ↦ closes one ]))
    (descendant_by seq s.works valid.works.in_order valid.works.records) (descendant_self seq s.works)
    (descendant_after seq s.works valid.works.in_order valid.works.records)
