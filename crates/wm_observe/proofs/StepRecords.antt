-- The records after a step are within their limits, and which of them have succeeded.
use Rattle.std.proofs.Common.{◌≡◌, ℕ, Bool, false, ◌&&◌, ◌||◌, eqb, List, [], ◌∷◌, ◌++◌, filter_map, Option, Some, None, IfSome, refl, sym, ◌∙◌, ap, subst}
use Rattle.std.specs.List.{AllByRecursion, cons_option}
use Rattle.std.proofs.lemmas.Bool.{eqb-true}
use Rattle.std.proofs.lemmas.List.Folds.{list_any-append}
use Rattle.wm_collections.proofs.Lists.{All-back, All-find, All-front, All-weaker, All-with2, AllLater-back, find-none, find-passes, list_any-false}
use Rattle.wm_collections.specs.Lists.{AllLater}
use Rattle.wm_machine.proofs.Runnings.{WorksAscend-in_order}
use Rattle.wm_machine.proofs.Steps.{Valid-after}
use Rattle.wm_machine.specs.First.{has_succeeded, is_succeeded}
use Rattle.wm_machine.specs.Input.{work_numbered}
use Rattle.wm_machine.specs.Valid.{IsBefore, IsRecord, Valid}
use Rattle.wm_machine.specs.declared.record.Record.{Record}
use Rattle.wm_machine.specs.declared.state.State.{State}
use Rattle.wm_query.proofs.NumbersDone.{has_done, has_succeeded-numbered}
use Rattle.wm_changes.specs.StepChanges.{changed_state, IsStepOf}
use Rattle.wm_changes.specs.declared.change.StepChange.{StepChange}
use Rattle.wm_steps.proofs.RecordsAfter.{numbered-after, records-after, All-left}
use Rattle.wm_observe.specs.Compared.{succeeds, StaysRecord}
use Rattle.wm_changes.specs.Touched.{then_of}

-- ---- what is left

left-fact : (P : Record → Type 0) (found : Option Record) (rest : List Record) → AllByRecursion P (cons_option found rest)
    → IfSome found P × AllByRecursion P rest
left-fact P None rest all = (tt, all)
left-fact P (Some new) rest all = all

-- what holds of all that is left holds of what is left of each
each-left : (P : Record → Type 0) (change : StepChange) (works : List Record) → AllByRecursion P (filter_map (then_of change) works)
    → AllByRecursion (λ work. IfSome (then_of change work) P) works
each-left P change [] all = tt
each-left P change (work ∷ works) all =
    let parts = left-fact P (then_of change work) (filter_map (then_of change) works) all in
    (parts.0, each-left P change works parts.1)

-- ---- after a step

succeeds-done : (found : Option Record) → succeeds found ≡ has_done found
succeeds-done None = refl
succeeds-done (Some work) = refl

module _ (s : State) (change : StepChange) (reached : Valid s) (step : IsStepOf s change) where
  abbrev t : State
  t = changed_state change s

  valid-after : Valid t
  valid-after = subst Valid (sym step.state) (Valid-after s change.event reached step.legal)

  same_records : t.works ≡ filter_map (then_of change) s.works ++ change.placed
  same_records = records-after s change reached step.fits

  all_records : AllByRecursion IsRecord (filter_map (then_of change) s.works ++ change.placed)
  all_records = subst (AllByRecursion IsRecord) same_records valid-after.works.records

  -- each record is within its limits, and what is left of it
  pub old-records : AllByRecursion (StaysRecord change) s.works
  old-records =
      All-with2 s.works (λ work before after. record { before = before; after = after }) reached.works.records
      (each-left IsRecord change s.works (All-front IsRecord (filter_map (then_of change) s.works) change.placed all_records))

  -- and so is each new one
  pub new-records : AllByRecursion IsRecord change.placed
  new-records = All-back IsRecord (filter_map (then_of change) s.works) change.placed all_records

  pub new-in_order : AllLater IsBefore change.placed
  new-in_order =
      AllLater-back IsBefore (filter_map (then_of change) s.works) change.placed (subst (AllLater IsBefore) same_records valid-after.works.in_order)

  -- a number that is found before has succeeded where what is left of its record has
  pub found-succeeded : (number : ℕ) (work : Record) → work_numbered number s.works ≡ Some work → succeeds (then_of change work) ≡ has_succeeded t.works number
  found-succeeded number work found =
      let same : work.seq ≡ number = eqb-true work.seq number (find-passes (λ (w : Record). eqb w.seq number) s.works work found) in
      let then : work_numbered work.seq t.works ≡ then_of change work =
      All-find (λ w. work_numbered w.seq t.works ≡ then_of change w) (λ (w : Record). eqb w.seq number) s.works work found
      (numbered-after s change reached step.fits) in
      succeeds-done (then_of change work) ∙ ap has_done (sym then) ∙ ap (λ n. has_done (work_numbered n t.works)) same
      ∙ has_succeeded-numbered number t.works (WorksAscend-in_order t.works valid-after.works.in_order)

  -- and one that isn't where a new record has
  pub new-succeeded : (number : ℕ) → work_numbered number s.works ≡ None → has_succeeded change.placed number ≡ has_succeeded t.works number
  new-succeeded number none =
      let left = filter_map (then_of change) s.works in
      let test : Record → Bool = λ work. eqb work.seq number && is_succeeded work.phase in
      let others = All-left (λ n. eqb n number ≡ false) change s.works (find-none (λ (work : Record). eqb work.seq number) s.works none) in
      let not_left : has_succeeded left number ≡ false =
      list_any-false test left (All-weaker left (λ work other. ap (λ b. b && is_succeeded work.phase) other) others) in
      sym (ap (λ (works : List Record). has_succeeded works number) same_records ∙ list_any-append test left change.placed
      ∙ ap (λ b. b || has_succeeded change.placed number) not_left)
