-- A work that a step doesn't touch is as ready after it as before.
use Rattle.std.proofs.Common.{◌≡◌, ◌⊎◌, ℕ, zero, suc, ◌<◌, ◌≤◌, ◌&&◌, Bool, true, false, eqb, List, [], ◌∷◌, filter_map, Option, Some, None, refl, sym, ◌∙◌, ap, subst, arith, inl, inr}
use Rattle.std.specs.List.{cons_option, AllByRecursion}
use Rattle.std.proofs.lemmas.Bool.{and_from, and_parts, cases_Bool, cond_both, eq-eqb, eqb-true, false≢true}
use Rattle.std.proofs.lemmas.Option.{none-some, same_Some}
use Rattle.wm_collections.proofs.Lists.{All-append, All-of_one, All-stored, All-weaker, All-with3, HasOne-front, HasOne-weaker, HasOne-with, all_pass, any_passes, list_all-each, list_any-one, list_any-stored, one_gives}
use Rattle.wm_collections.specs.Lists.{is_among, HasOne}
use Rattle.wm_machine.proofs.Runnings.{all_of_number}
use Rattle.wm_machine.proofs.Steps.{Valid-after}
use Rattle.wm_machine.specs.Ends.{is_freed}
use Rattle.wm_machine.specs.First.{all_met, has_succeeded, is_succeeded, is_waiting}
use Rattle.wm_machine.specs.Valid.{ArePriorSound, IsPrerequisite, IsRecord, Valid}
use Rattle.wm_machine.specs.declared.record.Phase.{Phase}
use Rattle.wm_machine.specs.declared.record.Phase.TheVariants as phase
use Rattle.wm_machine.specs.declared.record.Record.{Record}
use Rattle.wm_machine.specs.declared.state.State.{State}
use Rattle.wm_steps.proofs.KeptRows.{row-still, row-succeeded}
use Rattle.wm_steps.proofs.RecordsAfter.{records-after, then-untouched}
use Rattle.wm_steps.proofs.ReplacedRecords.{next-above}
use Rattle.wm_changes.specs.Readiness.{StaysReady, Succeeds, TouchesAllFreed}
use Rattle.wm_changes.specs.StepChanges.{changed_state, Fits, IsStepOf, KeepsPlace}
use Rattle.wm_changes.specs.Touched.{put_in, then_of, touches}
use Rattle.wm_changes.specs.declared.change.Replacement.{Replacement}
use Rattle.wm_changes.specs.declared.change.StepChange.{StepChange}

-- ---- where a record after a change comes from

-- a record is one of those put in the places of others, or the one that stood there
abbrev IsPut : List Replacement → Record → Record → Type 0
IsPut replaced work new = HasOne (λ r. r.work ≡ new) replaced ⊎ (work ≡ new)

is_put : (replaced : List Replacement) (work : Record) → IsPut replaced work (put_in replaced work)
is_put [] work = inr refl
is_put (replaced ∷ later) work =
    cond_both (eqb replaced.work.seq work.seq) replaced.work work (λ now. IsPut (replaced ∷ later) work (put_in later now))
    (λ e. elim (is_put later replaced.work) as (λ _. IsPut (replaced ∷ later) work (put_in later replaced.work)) [
      | inl one ↦ inl (inr one)
      | inr same ↦ inl (inl same)
    ])
    (λ e. elim (is_put later work) as (λ _. IsPut (replaced ∷ later) work (put_in later work)) [
      | inl one ↦ inl (inr one)
      | inr same ↦ inr same
    ])

-- a record is put in a place, tells something, or was there
abbrev IsMade : StepChange → List Record → Record → Type 0
IsMade change works new =
    HasOne (λ r. r.work ≡ new) change.replaced ⊎ (HasOne (λ r. r.work ≡ new) change.told ⊎ HasOne (λ work. work ≡ new) works)

made-then : (change : StepChange) (works : List Record) (work new : Record) → HasOne (λ other. other ≡ work) works → then_of change work ≡ Some new
    → IsMade change works new
made-then change works work new stored then =
    let told = put_in change.told work in
    let put = put_in change.replaced told in
    cond_both (is_among change.removed work.seq) None (Some put) (λ (found : Option Record). found ≡ Some new → IsMade change works new)
    (λ e none. absurd (none-some new none))
    (λ e some. subst (IsMade change works) (same_Some put new some) (elim (is_put change.replaced told) as (λ _. IsMade change works put) [
      | inl one ↦ inl one
      | inr same ↦ subst (IsMade change works) same (elim (is_put change.told work) as (λ _. IsMade change works told) [
        | inl one ↦ inr (inl one)
        | inr stays ↦ inr (inr (HasOne-weaker works (λ other is. is ∙ stays) stored))
      ])
    ])) then

left-made : (P : Record → Type 0) (found : Option Record) (rest : List Record) → ((new : Record) → found ≡ Some new → P new) → AllByRecursion P rest
    → AllByRecursion P (cons_option found rest)
left-made P None rest here all = all
left-made P (Some new) rest here all = (here new refl, all)

all-made : (change : StepChange) (all works : List Record) → AllByRecursion (λ work. HasOne (λ other. other ≡ work) all) works
    → AllByRecursion (IsMade change all) (filter_map (then_of change) works)
all-made change all [] stored = tt
all-made change all (work ∷ works) stored =
    left-made (IsMade change all) (then_of change work) (filter_map (then_of change) works) (λ new then. made-then change all work new stored.0 then)
    (all-made change all works stored.1)

-- a record that is left as it is is there
left-there : (change : StepChange) (work : Record) (works : List Record) → then_of change work ≡ Some work → HasOne (λ other. other ≡ work) works
    → HasOne (λ other. other ≡ work) (filter_map (then_of change) works)
left-there change work [] stays one = one
left-there change work (first ∷ works) stays (inl same) =
    let here : then_of change first ≡ Some work = ap (then_of change) same ∙ stays in
    rw here (inl refl)
left-there change work (first ∷ works) stays (inr one) = left-later (then_of change first) (filter_map (then_of change) works) (left-there change work works stays one)
  where
    left-later : (found : Option Record) (rest : List Record) → HasOne (λ other. other ≡ work) rest → HasOne (λ other. other ≡ work) (cons_option found rest)
    left-later None rest one = one
    left-later (Some new) rest one = inr one

-- ---- what is met

-- a record in the place of one of its number has succeeded where that had
place-still : (works : List Record) (i : ℕ) (new : Record) → KeepsPlace works (record { index = i; work = new })
    → AllByRecursion (λ work. work.seq ≡ new.seq → is_succeeded work.phase ≡ true) works → is_succeeded new.phase ≡ true
place-still [] i new keeps all = absurd keeps
place-still (work ∷ works) zero new keeps all = keeps.succeeded (all.0 (sym keeps.seq))
place-still (work ∷ works) (suc i) new keeps all = place-still works i new keeps all.1

waiting-prior : (works : List Record) (p : Phase) (prior : List ℕ) → is_waiting p ≡ true → ArePriorSound works p prior
    → AllByRecursion (λ number. HasOne (IsPrerequisite number) works) prior
waiting-prior works phase.Waiting prior waits sound = sound
waiting-prior works phase.Running prior waits sound = absurd (false≢true waits)
waiting-prior works (phase.Done how) prior waits sound = absurd (false≢true waits)

both-ways : (a b : Bool) → (a ≡ true → b ≡ true) → (b ≡ true → a ≡ true) → a ≡ b
both-ways true b there back = sym (there refl)
both-ways false true there back = back refl
both-ways false false there back = refl

and-where : (a x y : Bool) → (a ≡ true → x ≡ y) → (a && x) ≡ (a && y)
and-where true x y same = same refl
and-where false x y same = refl

module _ (s : State) (change : StepChange) (valid : Valid s) (fits : Fits s change) where
  abbrev after : List Record
  after = (changed_state change s).works

  -- each record after the change is made of one before, or is new
  made : AllByRecursion (λ new. IsMade change s.works new ⊎ (s.next ≤ new.seq)) after
  made =
      subst (AllByRecursion (λ new. IsMade change s.works new ⊎ (s.next ≤ new.seq))) (sym (records-after s change valid fits))
      (All-append _ (filter_map (then_of change) s.works) change.placed
      (All-weaker (filter_map (then_of change) s.works) (λ new is. inl is) (all-made change s.works s.works (All-stored s.works)))
      (All-weaker change.placed (λ new above. inr above) (next-above s.next change.placed fits.placed)))

  abbrev test : ℕ → Record → Bool
  test number work = eqb work.seq number && is_succeeded work.phase

  -- a number that has succeeded still has, where a record of it is there
  still : (number : ℕ) → number < s.next → HasOne (λ work. work.seq ≡ number) after → has_succeeded s.works number ≡ true
      → has_succeeded after number ≡ true
  still number below there has =
      let each : AllByRecursion (λ work. work.seq ≡ number → is_succeeded work.phase ≡ true) s.works =
      all_of_number (λ work. is_succeeded work.phase ≡ true) number s.works valid.works.in_order (HasOne-weaker s.works (λ work passes.
      let parts = and_parts (eqb work.seq number) (is_succeeded work.phase) passes in
      (eqb-true work.seq number parts.0, parts.1)) (any_passes (test number) s.works has)) in
      list_any-one (test number) after (HasOne-with after (λ new made_of is.
      and_from _ _ (eq-eqb new.seq number is) (still-one number below each new is made_of)) made there)
    where
      still-one : (number : ℕ) → number < s.next → AllByRecursion (λ work. work.seq ≡ number → is_succeeded work.phase ≡ true) s.works
          → (new : Record) → new.seq ≡ number → IsMade change s.works new ⊎ (s.next ≤ new.seq) → is_succeeded new.phase ≡ true
      still-one number below each new is (inl (inl one)) =
          one_gives change.replaced (λ r keeps same.
          subst (λ (w : Record). is_succeeded w.phase ≡ true) same (place-still s.works r.index r.work keeps
          (All-weaker s.works (λ work has e. has (e ∙ ap (λ (w : Record). w.seq) same ∙ is)) each))) fits.replaced one
      still-one number below each new is (inl (inr (inl one))) =
          one_gives change.told (λ r keeps same.
          subst (λ (w : Record). is_succeeded w.phase ≡ true) same (row-still s.works r.index r.work keeps
          (All-weaker s.works (λ work has e. has (e ∙ ap (λ (w : Record). w.seq) same ∙ is)) each))) fits.told one
      still-one number below each new is (inl (inr (inr one))) =
          All-of_one (λ work. work.seq ≡ number → is_succeeded work.phase ≡ true) s.works new each one is
      still-one number below each new is (inr above) = absurd (omega (arith, below, above, is))

  -- and where one succeeds, a record is put in its place that has
  newly : (number : ℕ) → number < s.next → has_succeeded s.works number ≡ false → has_succeeded after number ≡ true
      → HasOne (λ r. (r.work.seq ≡ number) × Succeeds s.works r.work) change.replaced
  newly number below not_before has =
      one_gives after (λ new made_of passes.
      let parts = and_parts (eqb new.seq number) (is_succeeded new.phase) passes in
      newly-one number below not_before new (eqb-true new.seq number parts.0) parts.1 made_of) made (any_passes (test number) after has)
    where
      newly-one : (number : ℕ) → number < s.next → has_succeeded s.works number ≡ false → (new : Record) → new.seq ≡ number
          → is_succeeded new.phase ≡ true → IsMade change s.works new ⊎ (s.next ≤ new.seq)
          → HasOne (λ r. (r.work.seq ≡ number) × Succeeds s.works r.work) change.replaced
      newly-one number below not_before new is has (inl (inl one)) =
          HasOne-weaker change.replaced (λ r same.
          let seq : r.work.seq ≡ number = ap (λ (w : Record). w.seq) same ∙ is in (
            seq,
            record {
              succeeded = ap (λ (w : Record). is_succeeded w.phase) same ∙ has;
              not_before = ap (has_succeeded s.works) seq ∙ not_before;
            },
          )) one
      newly-one number below not_before new is has (inl (inr (inl one))) =
          absurd (one_gives change.told (λ r keeps same.
          let seq : r.work.seq ≡ number = ap (λ (w : Record). w.seq) same ∙ is in
          let had = row-succeeded s.works r.index r.work keeps (ap (λ (w : Record). is_succeeded w.phase) same ∙ has) in
          false≢true (sym not_before ∙ ap (has_succeeded s.works) (sym seq) ∙ had)) fits.told one)
      newly-one number below not_before new is has (inl (inr (inr one))) =
          absurd (false≢true (sym not_before ∙ list_any-stored (test number) s.works new one (and_from _ _ (eq-eqb new.seq number is) has)))
      newly-one number below not_before new is has (inr above) = absurd (omega (arith, below, above, is))

  -- a work that isn't touched is there after the change
  there-then : (work : Record) → HasOne (λ other. other ≡ work) s.works → touches change work.seq ≡ false → HasOne (λ other. other ≡ work) after
  there-then work stored untouched =
      subst (HasOne (λ other. other ≡ work)) (sym (records-after s change valid fits))
      (HasOne-front (λ other. other ≡ work) (filter_map (then_of change) s.works) change.placed
      (left-there change work s.works (then-untouched change work untouched) stored))

  -- its prerequisites are numbers of works before
  prior-below : (work : Record) → HasOne (λ other. other ≡ work) s.works → AllByRecursion (λ number. number < s.next) work.prior
  prior-below work stored =
      let below : work.seq < s.next = All-of_one (λ work. work.seq < s.next) s.works work valid.works.numbers stored in
      let limits = All-of_one IsRecord s.works work valid.works.records stored in
      All-weaker work.prior (λ number both. let less = both.1 in omega (arith, less, below)) limits.prior.earlier

  module _ (valid_after : Valid (changed_state change s)) (work : Record) (stored : HasOne (λ other. other ≡ work) s.works)
      (untouched : touches change work.seq ≡ false) (waits : is_waiting work.phase ≡ true) where
    -- where its prerequisites had succeeded, they have
    still-met : all_met s.works work ≡ true → all_met after work ≡ true
    unfolding all_met
    still-met met =
        let sound = All-of_one (λ work. ArePriorSound after work.phase work.prior) after work valid_after.works.sound (there-then work stored untouched) in
        list_all-each (has_succeeded after) work.prior (All-with3 work.prior (λ number below one has.
        still number below (HasOne-weaker after (λ other is. is.seq) one) has) (prior-below work stored)
        (waiting-prior after work.phase work.prior waits sound) (all_pass (has_succeeded s.works) work.prior met))

    -- and where they have, they had: else the step would touch it
    was-met : TouchesAllFreed s.works after change → all_met after work ≡ true → all_met s.works work ≡ true
    unfolding all_met
    was-met freeing met =
        list_all-each (has_succeeded s.works) work.prior (All-with3 work.prior (λ number among below has. elim (cases_Bool (has_succeeded s.works number)) [
          | inl had ↦ had
          | inr not_before ↦
              absurd (one_gives change.replaced (λ r touched succeeds. touched-not r (touched succeeds.1) (list_any-stored (λ one. eqb one r.work.seq) work.prior
              number among (eq-eqb number r.work.seq (sym succeeds.0)))) freeing (newly number below not_before has))
        ]) (All-stored work.prior) (prior-below work stored) (all_pass (has_succeeded after) work.prior met))
      where
        touched-not : (r : Replacement) → AllByRecursion (λ work. is_freed r.work.seq after work ≡ true → touches change work.seq ≡ true) s.works
            → is_among work.prior r.work.seq ≡ true → ⊥
        touched-not r touched among =
            let is = All-of_one (λ work. is_freed r.work.seq after work ≡ true → touches change work.seq ≡ true) s.works work touched stored in
            false≢true (sym untouched ∙ is (and_from _ _ waits (and_from _ _ among met)))

  pub readiness : TouchesAllFreed s.works after change → Valid (changed_state change s)
      → AllByRecursion (StaysReady s.works after change) s.works
  readiness freeing valid_after =
      All-weaker s.works (λ work stored. elim (cases_Bool (touches change work.seq)) as (λ _. StaysReady s.works after change work) [
        | inl touched ↦ inl touched
        | inr untouched ↦ inr (and-where (is_waiting work.phase) (all_met s.works work) (all_met after work) (λ waits.
            both-ways (all_met s.works work) (all_met after work) (still-met valid_after work stored untouched waits)
            (was-met valid_after work stored untouched waits freeing)))
      ]) (All-stored s.works)

-- the works that the step of a change doesn't touch stay as ready as they were
pub step-readiness : (s : State) (change : StepChange) → Valid s → IsStepOf s change
    → AllByRecursion (StaysReady s.works (changed_state change s).works change) s.works
step-readiness s change valid is =
    readiness s change valid is.fits is.freeing (subst Valid (sym is.state) (Valid-after s change.event valid is.legal))
