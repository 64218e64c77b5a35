-- A record that takes the place of one of its row has succeeded just where that has.
use Rattle.std.proofs.Common.{◌≡◌, ℕ, zero, suc, ℤ, pos, negsuc, Bool, true, false, eqb, List, [], ◌∷◌, map, slice_get, Some, refl, sym, ◌∙◌, ap, arith}
use Rattle.std.specs.List.{AllByRecursion}
use Rattle.std.proofs.lemmas.Bool.{and_from, eq-eqb, or_left, or_right}
use Rattle.std.proofs.lemmas.Int.{ints}
use Rattle.std.proofs.lemmas.Option.{none-some, same_Some}
use Rattle.wm_keeper.specs.declared.row.Row.{Row}
use Rattle.wm_machine.specs.First.{has_succeeded, is_succeeded}
use Rattle.wm_machine.specs.Rows.{phase_code, row_of}
use Rattle.wm_machine.specs.declared.record.How.TheVariants as how
use Rattle.wm_machine.specs.declared.record.Phase.{Phase}
use Rattle.wm_machine.specs.declared.record.Phase.TheVariants as phase
use Rattle.wm_machine.specs.declared.record.Record.{Record}

-- whether a code is that of succeeded work
abbrev is_code : ℤ → Bool
is_code (pos n) = eqb n 2
is_code (negsuc n) = false

coded : (p : Phase) → is_succeeded p ≡ is_code (phase_code p)
coded phase.Waiting = refl
coded phase.Running = refl
coded (phase.Done how.Succeeded) = refl
coded (phase.Done how.Failed) = refl
coded (phase.Done how.Cancelled) = refl

-- a phase is stored as that of succeeded work just where it is
pub code-succeeded : (one other : Phase) → phase_code one ≡ phase_code other → is_succeeded one ≡ is_succeeded other
code-succeeded one other same = coded one ∙ ap is_code same ∙ sym (coded other)

row-number : (old new : Record) → row_of old ≡ row_of new → old.seq ≡ new.seq
row-number old new same =
    let numbers : pos old.seq ≡ pos new.seq = ap (λ (r : Row). r.seq) same in
    omega (arith, ints)

row-phase : (old new : Record) → row_of old ≡ row_of new → is_succeeded old.phase ≡ is_succeeded new.phase
row-phase old new same = code-succeeded old.phase new.phase (ap (λ (r : Row). r.phase) same)

-- its number had succeeded where it has
pub row-succeeded : (works : List Record) (i : ℕ) (new : Record) → slice_get (map row_of works) i ≡ Some (row_of new)
    → is_succeeded new.phase ≡ true → has_succeeded works new.seq ≡ true
row-succeeded [] i new is has = absurd (none-some (row_of new) is)
row-succeeded (work ∷ works) zero new is has =
    let row = same_Some (row_of work) (row_of new) is in
    or_left _ _ (and_from _ _ (eq-eqb work.seq new.seq (row-number work new row)) (row-phase work new row ∙ has))
row-succeeded (work ∷ works) (suc i) new is has = or_right _ _ (row-succeeded works i new is has)

-- and it has where each record of its number had
pub row-still : (works : List Record) (i : ℕ) (new : Record) → slice_get (map row_of works) i ≡ Some (row_of new)
    → AllByRecursion (λ work. work.seq ≡ new.seq → is_succeeded work.phase ≡ true) works → is_succeeded new.phase ≡ true
row-still [] i new is all = absurd (none-some (row_of new) is)
row-still (work ∷ works) zero new is all =
    let row = same_Some (row_of work) (row_of new) is in
    sym (row-phase work new row) ∙ all.0 (row-number work new row)
row-still (work ∷ works) (suc i) new is all = row-still works i new is all.1
