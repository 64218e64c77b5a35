-- The rows that a step changes are those of the state that it gives, and so its change is one step of the machine.
use Rattle.std.proofs.Common.{◌≡◌, ℕ, zero, suc, ◌+◌, ◌^◌, ◌<◌, ◌≤◌, Bool, not, eqb, pos, List, [], ◌∷◌, ◌++◌, append_assoc, length, length-append, map, set, slice_get, Option, Some, None, option_map, refl, sym, ◌∙◌, ap, subst, arith, inl, inr}
use Rattle.std.specs.List.{AllByRecursion}
use Rattle.std.proofs.lemmas.Bool.{cases_order, eq-eqb, ne_eqb}
use Rattle.std.proofs.lemmas.Int.{ints}
use Rattle.std.proofs.lemmas.List.{map-append, append-nil, length-map}
use Rattle.std.proofs.lemmas.Option.{none-some, same_Some}
use Rattle.wm_keeper.proofs.Ascending.{int_lt-true, int_lt-false, put_row-above}
use Rattle.std.specs.Prelude.{IfSome}
use Rattle.wm_keeper.proofs.Stores.{IfSome-still}
use Rattle.wm_keeper.specs.Keeper.{changed, changed_by, put_row, remove_row}
use Rattle.wm_keeper.specs.Store.{changed_rows, IsAtMost, Store}
use Rattle.wm_keeper.specs.declared.row.Change.{Change}
use Rattle.wm_keeper.specs.declared.row.Row.{Row}
use Rattle.wm_machine.specs.declared.record.Record.{Record}
use Rattle.wm_machine.specs.declared.state.Run.{Run}
use Rattle.wm_machine.specs.declared.state.State.{State}
use Rattle.wm_collections.specs.Lists.{is_among}
use Rattle.wm_collections.proofs.Lists.{All-kept, All-push, All-weaker, AllLater-filter, filter-few, one_gives}
use Rattle.wm_machine.proofs.Runnings.{WorksAscend, WorksAscend-in_order}
use Rattle.wm_machine.proofs.Rows.{rows_below}
use Rattle.wm_machine.proofs.Owed.{renewed_in}
use Rattle.wm_machine.proofs.Stops.{stopped_in}
use Rattle.wm_machine.specs.Updated.{is_run_of}
use Rattle.wm_machine.proofs.Turns.{turned_at}
use Rattle.wm_machine.specs.Rows.{row_of, rows_of}
use Rattle.wm_machine.specs.Valid.{Valid}
use Rattle.wm_steps.proofs.ReplacedRecords.{keeps_number, number-kept, other_works-above, rows-set, seqs-set, still_keep, All-seq, All-set, KeepsNumber, WorksAscend-set}
use Rattle.wm_changes.specs.StepChanges.{changed_state, next_run_by, other_works, put_replaced, put_work, remove_numbered, row_changes, runs_by, seqs_of, with_replaced, without, HaveNextNumbers, Fits, KeepsRow, new_runs}
use Rattle.wm_engine.specs.Rows.{HoldsRowsOf}
use Rattle.wm_changes.specs.declared.change.Replacement.{Replacement}
use Rattle.wm_changes.specs.declared.change.RunChange.{RunChange}
use Rattle.wm_changes.specs.declared.change.RunChange.TheVariants.{Unchanged, Begin, Turn, End, Stop, Renew}
use Rattle.wm_changes.specs.declared.change.StepChange.{StepChange}

-- ---- a record that takes the place of one of its number

-- its row takes the place of the old row
put_row-at : (works : List Record) (i : ℕ) (new : Record) → slice_get (seqs_of works) i ≡ Some new.seq → WorksAscend works
    → put_row (row_of new) (map row_of works) ≡ map row_of (set works i new)
put_row-at [] i new is ascend = absurd (none-some new.seq is)
put_row-at (work ∷ works) zero new is ascend =
    let same : work.seq ≡ new.seq = same_Some work.seq new.seq is in
    let up = int_lt-false (pos new.seq) (pos work.seq) (omega (arith, ints)) in
    let down = int_lt-false (pos work.seq) (pos new.seq) (omega (arith, ints)) in
    rw (up, down) refl
put_row-at (work ∷ works) (suc i) new is ascend =
    let above : work.seq < new.seq = All-seq (λ number. work.seq < number) works i new.seq ascend.0 is in
    let up = int_lt-false (pos new.seq) (pos work.seq) (omega (arith, ints)) in
    let down = int_lt-true (pos work.seq) (pos new.seq) (omega (arith, ints)) in
    rw (up, down) (ap (λ (rest : List Row). row_of work ∷ rest) (put_row-at works i new is ascend.1))

-- ascending records below a number
abbrev AreBelow : ℕ → List Record → Type 0
AreBelow next works = WorksAscend works × AllByRecursion (λ work. work.seq < next) works

rows-replaced : (next : ℕ) (replaced : List Replacement) (works : List Record) → AllByRecursion (KeepsNumber works) replaced → AreBelow next works
    → (changed (map put_replaced replaced) (map row_of works) ≡ map row_of (with_replaced replaced works)) × AreBelow next (with_replaced replaced works)
rows-replaced next [] works keep below = (refl, below)
rows-replaced next (replaced ∷ later) works keep below =
    let ascend = WorksAscend-set works replaced.index replaced.work keep.0 below.0 in
    let all = All-set (λ number. number < next) works replaced.index replaced.work keep.0 below.1 in
    let rest = rows-replaced next later (set works replaced.index replaced.work) (still_keep works replaced later keep) (ascend, all) in
    (ap (changed (map put_replaced later)) (put_row-at works replaced.index replaced.work keep.0 below.0) ∙ rest.0, rest.1)

-- ---- a record that takes the place of one of its row

-- records that tell something have the same rows and numbers
record IsTold (next : ℕ) (works new : List Record) : Type 0 where
  rows : map row_of new ≡ map row_of works
  numbers : seqs_of new ≡ seqs_of works
  below : AreBelow next new

rows-told : (next : ℕ) (told : List Replacement) (works : List Record) → AllByRecursion (KeepsRow works) told → AreBelow next works
    → IsTold next works (with_replaced told works)
rows-told next [] works keep below = record { rows = refl; numbers = refl; below = below }
rows-told next (told ∷ later) works keep below =
    let number = number-kept works told.index told.work keep.0 in
    let rows = rows-set works told.index told.work keep.0 in
    let still = subst (λ (rows : List Row). AllByRecursion (λ r. slice_get rows r.index ≡ Some (row_of r.work)) later) (sym rows) keep.1 in
    let ascend = WorksAscend-set works told.index told.work number below.0 in
    let all = All-set (λ number. number < next) works told.index told.work number below.1 in
    let rest = rows-told next later (set works told.index told.work) still (ascend, all) in
    record { rows = rest.rows ∙ rows; numbers = rest.numbers ∙ seqs-set works told.index told.work number; below = rest.below }

-- ---- records that are removed

remove_row-at : (number : ℕ) (works : List Record) → WorksAscend works → remove_row (pos number) (map row_of works) ≡ map row_of (other_works number works)
remove_row-at number [] ascend = refl
remove_row-at number (work ∷ works) ascend = elim (cases_order number work.seq) [
  | inl same ↦
      let up = int_lt-false (pos number) (pos work.seq) (omega (arith, ints)) in
      let down = int_lt-false (pos work.seq) (pos number) (omega (arith, ints)) in
      let hit = eq-eqb work.seq number (sym same) in
      rw (up, down, hit) (ap (map row_of)
      (sym (other_works-above number works (subst (λ n. AllByRecursion (λ later. n < later.seq) works) (sym same) ascend.0))))
  | inr (inl above) ↦
      let up = int_lt-true (pos number) (pos work.seq) (omega (arith, ints)) in
      let all = All-weaker works (λ later is. omega arith) ascend.0 in
      rw up (ap (map row_of) (sym (other_works-above number (work ∷ works) (above, all))))
  | inr (inr below) ↦
      let up = int_lt-false (pos number) (pos work.seq) (omega (arith, ints)) in
      let down = int_lt-true (pos work.seq) (pos number) (omega (arith, ints)) in
      let miss = ne_eqb work.seq number (λ e. absurd (omega arith)) in
      rw (up, down, miss) (ap (λ (rest : List Row). row_of work ∷ rest) (remove_row-at number works ascend.1))
]

rows-removed : (next : ℕ) (numbers : List ℕ) (works : List Record) → AreBelow next works
    → (changed (map remove_numbered numbers) (map row_of works) ≡ map row_of (without numbers works)) × AreBelow next (without numbers works)
rows-removed next [] works below = (refl, below)
rows-removed next (number ∷ numbers) works below =
    let keep : Record → Bool = λ work. not (eqb work.seq number) in
    let ascend = AllLater-filter _ keep works below.0 in
    let rest = rows-removed next numbers (other_works number works) (ascend, All-kept _ keep works below.1) in
    (ap (changed (map remove_numbered numbers)) (remove_row-at number works below.0) ∙ rest.0, rest.1)

-- ---- records that are placed

rows-placed : (next : ℕ) (placed works : List Record) → HaveNextNumbers next placed → AllByRecursion (λ work. work.seq < next) works
    → changed (map put_work placed) (map row_of works) ≡ map row_of (works ++ placed)
rows-placed next [] works numbered below = ap (map row_of) (sym (append-nil works))
rows-placed next (work ∷ placed) works numbered below =
    let more = All-push _ works work (All-weaker works (λ w is. omega arith) below) (omega (arith, numbered.0)) in
    let rows = rows_below works next below in
    ap (changed (map put_work placed)) (put_row-above (row_of work) (map row_of works) (rw (numbered.0) rows) ∙ sym (map-append row_of works (work ∷ [])))
    ∙ rows-placed (next + 1) placed (works ++ work ∷ []) numbered.1 more ∙ ap (map row_of) (append_assoc works (work ∷ []) placed)

-- ---- the step

changed-append : (first second : List Change) (rows : List Row) → changed (first ++ second) rows ≡ changed second (changed first rows)
changed-append [] second rows = refl
changed-append (change ∷ first) second rows = changed-append first second (changed_by change rows)

-- the keeper's changes make the rows of the state after the change
pub rows-changed : (s : State) (change : StepChange) → Valid s → Fits s change → changed (row_changes change) (rows_of s) ≡ rows_of (changed_state change s)
rows-changed s change valid fits =
    let puts = map put_replaced change.replaced in
    let removes = map remove_numbered change.removed in
    let placed = map put_work change.placed in
    let works = with_replaced change.told s.works in
    let told = rows-told s.next change.told s.works fits.told (WorksAscend-in_order s.works valid.works.in_order, valid.works.numbers) in
    let keep =
    subst (λ numbers. AllByRecursion (λ r. slice_get numbers r.index ≡ Some r.work.seq) change.replaced) (sym told.numbers)
    (All-weaker change.replaced (keeps_number s.works) fits.replaced) in
    let replaced = rows-replaced s.next change.replaced works keep told.below in
    let left = rows-removed s.next change.removed (with_replaced change.replaced works) replaced.1 in
    changed-append (puts ++ removes) placed (rows_of s) ∙ ap (changed placed)
    (changed-append puts removes (rows_of s) ∙ ap (changed removes) (ap (changed puts) (sym told.rows) ∙ replaced.0) ∙ left.0)
    ∙ rows-placed s.next change.placed (without change.removed (with_replaced change.replaced works)) fits.placed left.1.1

-- what makes the rows of one state those of another does so to rows that are told
rows-held : (s t : State) (change : List Row → List Row) (stored : Option (List Row)) → IfSome stored (λ rows. rows ≡ rows_of s)
    → change (rows_of s) ≡ rows_of t → IfSome (option_map change stored) (λ rows. rows ≡ rows_of t)
rows-held s t change None holds makes = tt
rows-held s t change (Some rows) holds makes = ap change holds ∙ makes

-- the rows held after a change are those of the state after it
pub rows-made : (s now : State) (change : StepChange) (before after : Store) → Valid s → Fits s change → HoldsRowsOf s before
    → now ≡ changed_state change s → IsAtMost (changed_rows (row_changes change) before) after.rows → HoldsRowsOf now after
rows-made s now change before after valid fits holds state rows =
    subst (λ (t : State). HoldsRowsOf t after) (sym state)
    (IfSome-still (λ rows. rows ≡ rows_of (changed_state change s)) _ after.rows
    (rows-held s (changed_state change s) (changed (row_changes change)) before.rows holds (rows-changed s change valid fits)) rows)

-- a change begins one run at most
pub next_run-changed : (s : State) (change : StepChange) → (changed_state change s).next_run ≤ s.next_run + 1
next_run-changed s change = elim change.run as (λ run. next_run_by run s.next_run ≤ s.next_run + 1) [
  | Unchanged ↦ omega arith
  | Begin run ↦ omega arith
  | Turn run ↦ omega arith
  | End run instance ↦ omega arith
  | Stop numbers ↦ omega arith
  | Renew seq ↦ omega arith
]

-- and adds none otherwise: the runs after it are so many more at most
pub runs-changed : (s : State) (change : StepChange) → length (changed_state change s).runs ≤ length s.runs + new_runs change.run
runs-changed s change = elim change.run as (λ run. length (runs_by run s.runs) ≤ length s.runs + new_runs run) [
  | Unchanged ↦ omega arith
  | Begin run ↦ omega (arith, length-append s.runs (run ∷ []))
  | Turn run ↦ omega (arith, length-map s.runs (turned_at run))
  | End run instance ↦ omega (arith, filter-few (λ (r : Run). not (eqb r.run run)) s.runs)
  | Stop numbers ↦ omega (arith, length-map s.runs (stopped_in (λ run. is_among numbers run.run)))
  | Renew seq ↦ omega (arith, length-map s.runs (renewed_in (is_run_of seq)))
]

-- one at most
pub new_runs-few : (run : RunChange) → new_runs run ≤ 1
new_runs-few Unchanged = omega arith
new_runs-few (Begin run) = omega arith
new_runs-few (Turn run) = omega arith
new_runs-few (End run instance) = omega arith
new_runs-few (Stop numbers) = omega arith
new_runs-few (Renew seq) = omega arith

-- ---- what is within

-- the numbers that are removed fit a row
pub removed_fit : (s : State) (change : StepChange) → Valid s → Fits s change → AllByRecursion (λ number. number < 2 ^ 53) change.removed
removed_fit s change valid fits =
    All-weaker change.removed (λ number one. one_gives s.works (λ work below is. omega (arith, valid.works.fits)) valid.works.numbers one) fits.removed

-- each run is at one of its turns
pub turns_left : (s : State) → Valid s → AllByRecursion (λ run. run.turn ≤ 999) s.runs
turns_left s valid = All-weaker s.runs (λ run is. is.turn) valid.runs.each
