-- A change of one record fits the state, and is that of the step of its event.
use Rattle.std.proofs.Common.{◌≡◌, ℕ, ◌+◌, List, [], ◌++◌, set, slice_get, Option, Some, option_map, refl, sym, ◌∙◌, ap, subst, arith, inl, inr}
use Rattle.std.specs.Prelude.{IsSomeAnd}
use Rattle.std.proofs.lemmas.List.{append-nil}
use Rattle.std.proofs.lemmas.Option.{slice_get-map}
use Rattle.wm_keeper.specs.declared.row.Row.{Row}
use Rattle.wm_machine.specs.declared.event.Event.{Event}
use Rattle.wm_machine.specs.declared.record.Record.{Record}
use Rattle.wm_machine.specs.declared.state.State.{State}
use Rattle.wm_machine.proofs.Runnings.{WorksAscend-in_order}
use Rattle.wm_machine.specs.Rows.{row_of}
use Rattle.wm_machine.specs.Runs.{changed_work}
use Rattle.wm_machine.specs.Step.{Legal, after}
use Rattle.wm_machine.specs.Valid.{IsRecord, Valid}
use Rattle.wm_steps.proofs.Lookups.{changed_work-at, stored-at}
use Rattle.wm_steps.proofs.Unsucceeding.{unsucceeding-not, Unsucceeding}
use Rattle.wm_changes.specs.Replacements.{MayReplace}
use Rattle.wm_changes.specs.StepChanges.{changed_state, keeping_row, replacing, Fits, IsStepOf}
use Rattle.wm_changes.specs.declared.change.RunChange.{RunChange}

-- one record that is replaced by one that keeps its node
Fits-replacing : (s : State) (i : ℕ) (work new : Record) (run : RunChange) (e : Event) → Valid s → slice_get s.works i ≡ Some work
    → MayReplace work new → IsRecord new → Fits s (replacing i new run e)
Fits-replacing s i work new run e valid at keeps is = record {
  told = tt;
  replaced = (subst (λ (o : Option Record). IsSomeAnd o (λ old. MayReplace old new)) (sym at) keeps, tt);
  removed = tt;
  placed = tt;
  named = tt;
  numbers = omega (arith, valid.works.fits);
  replaced_rows = (is.fits, tt);
  placed_rows = tt;
  apart = (tt, tt);
  alone = inl refl;
}

-- one record that is replaced by one of its row
Fits-keeping_row : (s : State) (i : ℕ) (work new : Record) (run : RunChange) (e : Event) → Valid s → slice_get s.works i ≡ Some work
    → row_of new ≡ row_of work → Fits s (keeping_row i new run e)
Fits-keeping_row s i work new run e valid at keeps = record {
  told = (slice_get-map row_of s.works i ∙ ap (option_map row_of) at ∙ ap (λ (row : Row). Some row) (sym keeps), tt);
  replaced = tt;
  removed = tt;
  placed = tt;
  named = tt;
  numbers = omega (arith, valid.works.fits);
  replaced_rows = tt;
  placed_rows = tt;
  apart = tt;
  alone = inr (record { one = omega arith; none_replaced = refl; none_removed = refl; none_placed = refl });
}

-- where nothing is placed, the works have their end and the next number stays
pub unplaced : (s : State) (works changed : List Record) → works ≡ changed → record s { works = works ++ []; next = s.next + 0 } ≡ record s { works = changed }
unplaced s works changed same =
    let next : s.next + 0 ≡ s.next = omega arith in
    ap (λ number. record s { works = works ++ []; next = number }) next
    ∙ ap (λ (all : List Record). record s { works = all }) (append-nil works ∙ same)

-- the record stands there as if it had been changed by its number
state-replacing : (s t : State) (i : ℕ) (work : Record) (change : Record → Record) → Valid s → slice_get s.works i ≡ Some work
    → record t { works = set s.works i (change work) ++ []; next = t.next + 0 } ≡ record t { works = changed_work change work.seq s.works }
state-replacing s t i work change valid at =
    let ascend = WorksAscend-in_order s.works valid.works.in_order in
    unplaced t (set s.works i (change work)) (changed_work change work.seq s.works) (sym (changed_work-at change s.works i work ascend at))

-- a legal event that changes one record, and what its change says of the runs, is made by the change that replaces it
pub replacing-step : (s t : State) (i : ℕ) (work : Record) (change : Record → Record) (run : RunChange) (e : Event) → Valid s
    → slice_get s.works i ≡ Some work → MayReplace work (change work) → Unsucceeding work (change work) → IsRecord (change work) → Legal s e
    → changed_state (replacing i (change work) run e) s ≡ record t { works = set s.works i (change work) ++ []; next = t.next + 0 }
    → after s e ≡ record t { works = changed_work change work.seq s.works } → IsStepOf s (replacing i (change work) run e)
replacing-step s t i work change run e valid at keeps none fine legal made then = record {
  fits = Fits-replacing s i work (change work) run e valid at keeps fine;
  legal = legal;
  state = made ∙ state-replacing s t i work change valid at ∙ sym then;
  freeing = (λ is. absurd (unsucceeding-not work (change work) s.works (stored-at s.works i work at) keeps.seq none is), tt);
}

-- and one that leaves the record's row, by the change that keeps it
pub keeping_row-step : (s t : State) (i : ℕ) (work : Record) (change : Record → Record) (run : RunChange) (e : Event) → Valid s
    → slice_get s.works i ≡ Some work → row_of (change work) ≡ row_of work → Legal s e
    → changed_state (keeping_row i (change work) run e) s ≡ record t { works = set s.works i (change work) ++ []; next = t.next + 0 }
    → after s e ≡ record t { works = changed_work change work.seq s.works } → IsStepOf s (keeping_row i (change work) run e)
keeping_row-step s t i work change run e valid at keeps legal made then = record {
  fits = Fits-keeping_row s i work (change work) run e valid at keeps;
  legal = legal;
  state = made ∙ state-replacing s t i work change valid at ∙ sym then;
  freeing = tt;
}
