-- The fault that is told is that of the first row with one.
use Rattle.std.proofs.Common.{◌≡◌, List, [], ◌∷◌, ◌++◌, append_assoc, Result, Ok, Err, refl, ap, ◌∙◌, subst}
use Rattle.wm_keeper.specs.declared.row.Row.{Row}
use Rattle.wm_machine.specs.declared.record.Record.{Record}
use Rattle.wm_rows.specs.Sound.{◌>>=◌, checked, checked_after, IsFirstFault, read_after}
use Rattle.wm_rows.specs.declared.fault.RowFault.{RowFault}

-- rows after others are checked after those
checked-append : (start : List Record) (done more : List Row) (before : List Record) → checked_after start done ≡ Ok before
    → checked_after start (done ++ more) ≡ checked_after before more
checked-append start [] more before is = let same : start ≡ before = cc in ap (λ works. checked_after works more) same
checked-append start (row ∷ done) more before is = by_first (read_after start row) is (λ work. checked-append (start ++ work ∷ []) done more before) where
  by_first : (first : Result Record RowFault) → (first >>= λ work. checked_after (start ++ work ∷ []) done) ≡ Ok before
      → ((work : Record) → checked_after (start ++ work ∷ []) done ≡ Ok before
      → checked_after (start ++ work ∷ []) (done ++ more) ≡ checked_after before more)
      → (first >>= λ work. checked_after (start ++ work ∷ []) (done ++ more)) ≡ checked_after before more
  by_first (Ok work) is rest = rest work is
  by_first (Err found) is rest = absurd (cc)

first_from : (done : List Row) (before : List Record) (rows : List Row) (fault : RowFault) → checked done ≡ Ok before
    → checked_after before rows ≡ Err fault → IsFirstFault (done ++ rows) fault
first_from done before [] fault sound is = absurd (cc)
first_from done before (row ∷ rows) fault sound is =
    by_first (read_after before row) refl is (λ work. first_from (done ++ row ∷ []) (before ++ work ∷ []) rows fault) where
      by_first : (first : Result Record RowFault) → read_after before row ≡ first → (first >>= λ work. checked_after (before ++ work ∷ []) rows) ≡ Err fault
          → ((work : Record) → checked (done ++ row ∷ []) ≡ Ok (before ++ work ∷ []) → checked_after (before ++ work ∷ []) rows ≡ Err fault
          → IsFirstFault ((done ++ row ∷ []) ++ rows) fault)
          → IsFirstFault (done ++ row ∷ rows) fault
      by_first (Ok work) here is rest =
          let one_more : checked (done ++ row ∷ []) ≡ Ok (before ++ work ∷ []) =
          checked-append [] done (row ∷ []) before sound ∙ ap (λ first. first >>= λ w. Ok (before ++ w ∷ [])) here in
          subst (λ all. IsFirstFault all fault) (append_assoc done (row ∷ []) rows) (rest work one_more is)
      by_first (Err found) here is rest =
          let same : found ≡ fault = cc in
          record { before = done; row = row; later = rows; works = before; whole = refl; sound = sound; here = here ∙ ap Err same }

pub first_fault : (rows : List Row) (fault : RowFault) → checked rows ≡ Err fault → IsFirstFault rows fault
first_fault rows fault is = first_from [] [] rows fault refl is
