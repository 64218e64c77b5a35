-- The changes with which a store opens make its rows those of the state that it opens to.
use Rattle.std.proofs.Common.{◌≡◌, ◌≢◌, ℕ, ◌<◌, pos, List, [], ◌∷◌, ◌++◌, map, refl, sym, ap, subst, ◌∙◌, inl, inr, arith}
use Rattle.std.specs.Prelude.{◌<ℤ◌}
use Rattle.std.specs.List.{AllByRecursion}
use Rattle.std.proofs.lemmas.Int.{ints}
use Rattle.wm_collections.proofs.Lists.{All-weaker}
use Rattle.wm_keeper.proofs.Ascending.{int_lt-false, int_lt-true}
use Rattle.wm_keeper.specs.Keeper.{AreOfDifferentNumbers, changed, changed_by, changed_number}
use Rattle.wm_keeper.specs.declared.row.Change.{Change}
use Rattle.wm_keeper.specs.declared.row.Change.TheVariants.{Put, Remove}
use Rattle.wm_keeper.specs.declared.row.Row.{Row}
use Rattle.wm_machine.proofs.Rows.{row-number}
use Rattle.wm_machine.proofs.Runnings.{WorksAscend}
use Rattle.wm_machine.specs.Opened.{reopened}
use Rattle.wm_machine.specs.Rows.{row_of, AreRowsOf}
use Rattle.wm_machine.specs.declared.record.Record.{Record}
use Rattle.wm_opening.specs.Reopenings.{put_reopened, AreReopenings}

-- ---- changes of rows behind the first

one_behind : (change : Change) (first : Row) (rows : List Row) → first.seq <ℤ changed_number change
    → changed_by change (first ∷ rows) ≡ first ∷ changed_by change rows
one_behind (Put row) first rows above =
    let up = int_lt-false row.seq first.seq (omega (arith, ints, above)) in
    let down = int_lt-true first.seq row.seq above in
    rw (up, down) refl
one_behind (Remove seq) first rows above =
    let up = int_lt-false seq first.seq (omega (arith, ints, above)) in
    let down = int_lt-true first.seq seq above in
    rw (up, down) refl

-- changes of greater numbers pass a row by
changed-behind : (changes : List Change) (first : Row) (rows : List Row) → AllByRecursion (λ change. first.seq <ℤ changed_number change) changes
    → changed changes (first ∷ rows) ≡ first ∷ changed changes rows
changed-behind [] first rows above = refl
changed-behind (change ∷ changes) first rows above =
    ap (changed changes) (one_behind change first rows above.0) ∙ changed-behind changes first (changed_by change rows) above.1

-- ---- the changes of rows beside their records

-- what holds of the change of each record holds of those that are made
reopenings-each : (P : Change → Type 0) (rows : List Row) (works : List Record) (changes : List Change) → AreReopenings rows works changes
    → AllByRecursion (λ work. P (put_reopened work)) works → AllByRecursion P changes
reopenings-each P [] [] changes are all = subst (AllByRecursion P) (sym are) tt
reopenings-each P (row ∷ rows) (work ∷ works) changes (inl are) all = reopenings-each P rows works changes are.1 all.1
reopenings-each P (row ∷ rows) (work ∷ works) changes (inr are) all =
    subst (AllByRecursion P) (sym are.1.1.0) (all.0, reopenings-each P rows works are.1.0 are.1.1.1 all.1)
reopenings-each P [] (work ∷ works) changes are all = absurd are
reopenings-each P (row ∷ rows) [] changes are all = absurd are

-- a row takes the place of one of its number
put-first : (row first : Row) (rows : List Row) → row.seq ≡ first.seq → changed_by (Put row) (first ∷ rows) ≡ row ∷ rows
put-first row first rows same =
    let up = int_lt-false row.seq first.seq (omega (arith, ints, same)) in
    let down = int_lt-false first.seq row.seq (omega (arith, ints, same)) in
    rw (up, down) refl

-- they are of greater numbers than a record before these
above-first : (number : ℕ) (rows : List Row) (works : List Record) (changes : List Change) → AreReopenings rows works changes
    → AllByRecursion (λ later. number < later.seq) works → AllByRecursion (λ change. pos number <ℤ changed_number change) changes
above-first number rows works changes are above =
    reopenings-each (λ change. pos number <ℤ changed_number change) rows works changes are (All-weaker works (λ later less. omega (arith, ints, less)) above)

-- the rows are then those of the records that wait again
pub reopened-rows : (rows : List Row) (works : List Record) (changes : List Change) → AreRowsOf rows works → AreReopenings rows works changes
    → WorksAscend works → changed changes rows ≡ map row_of (map reopened works)
reopened-rows [] [] changes theirs are ascend = ap (λ (l : List Change). changed l []) are
reopened-rows (row ∷ rows) (work ∷ works) changes theirs (inl are) ascend =
    let above = subst (λ n. AllByRecursion (λ change. n <ℤ changed_number change) changes) (sym (row-number row work theirs.0))
    (above-first work.seq rows works changes are.1 ascend.0) in
    changed-behind changes row rows above ∙ ap (λ l. row ∷ l) (reopened-rows rows works changes theirs.1 are.1 ascend.1)
    ∙ ap (λ r. r ∷ map row_of (map reopened works)) are.0
reopened-rows (row ∷ rows) (work ∷ works) changes theirs (inr are) ascend =
    let more = are.1.0 in
    let now = row_of (reopened work) in
    ap (λ (l : List Change). changed l (row ∷ rows)) are.1.1.0
    ∙ ap (changed more) (put-first now row rows (sym (row-number row work theirs.0)))
    ∙ changed-behind more now rows (above-first work.seq rows works more are.1.1.1 ascend.0)
    ∙ ap (λ l. now ∷ l) (reopened-rows rows works more theirs.1 are.1.1.1 ascend.1)
reopened-rows [] (work ∷ works) changes theirs are ascend = absurd are
reopened-rows (row ∷ rows) [] changes theirs are ascend = absurd are

-- no number occurs twice
pub reopenings-apart : (rows : List Row) (works : List Record) (changes : List Change) → AreReopenings rows works changes → WorksAscend works
    → AreOfDifferentNumbers changes
reopenings-apart [] [] changes are ascend = subst AreOfDifferentNumbers (sym are) tt
reopenings-apart (row ∷ rows) (work ∷ works) changes (inl are) ascend = reopenings-apart rows works changes are.1 ascend.1
reopenings-apart (row ∷ rows) (work ∷ works) changes (inr are) ascend =
    let more = are.1.0 in
    subst AreOfDifferentNumbers (sym are.1.1.0) (
      All-weaker more (λ change less. differ work.seq (changed_number change) less) (above-first work.seq rows works more are.1.1.1 ascend.0),
      reopenings-apart rows works more are.1.1.1 ascend.1,
    )
  where
    differ : (number : ℕ) (other : _) → pos number <ℤ other → pos number ≢ other
    differ number other less = λ same. absurd (omega (arith, ints, less, same))
reopenings-apart [] (work ∷ works) changes are ascend = absurd are
reopenings-apart (row ∷ rows) [] changes are ascend = absurd are

-- where the rows are those of the records that wait again, none is changed
pub reopenings-none : (rows : List Row) (works : List Record) (changes : List Change) → AreReopenings rows works changes
    → map row_of (map reopened works) ≡ rows → changes ≡ []
reopenings-none [] [] changes are same = are
reopenings-none (row ∷ rows) (work ∷ works) changes (inl are) same = reopenings-none rows works changes are.1 (cc)
reopenings-none (row ∷ rows) (work ∷ works) changes (inr are) same =
    let clash : row ≡ row_of (reopened work) = cc in absurd (are.0 clash)
reopenings-none [] (work ∷ works) changes are same = absurd are
reopenings-none (row ∷ rows) [] changes are same = absurd are

-- ---- one row more

-- a row that is as that of its record once it waits again is passed by
pub reopenings-kept : (row : Row) (work : Record) (rows : List Row) (works : List Record) (changes : List Change) → row ≡ row_of (reopened work)
    → AreReopenings rows works changes → AreReopenings (rows ++ row ∷ []) (works ++ work ∷ []) changes
reopenings-kept row work [] [] changes same are = inl (same, are)
reopenings-kept row work (first ∷ rows) (of ∷ works) changes same (inl are) = inl (are.0, reopenings-kept row work rows works changes same are.1)
reopenings-kept row work (first ∷ rows) (of ∷ works) changes same (inr are) =
    inr (are.0, (are.1.0, (are.1.1.0, reopenings-kept row work rows works are.1.0 same are.1.1.1)))
reopenings-kept row work [] (of ∷ works) changes same are = absurd are
reopenings-kept row work (first ∷ rows) [] changes same are = absurd are

-- and of another one there is a change
pub reopenings-put : (row : Row) (work : Record) (rows : List Row) (works : List Record) (changes : List Change) → row ≢ row_of (reopened work)
    → AreReopenings rows works changes → AreReopenings (rows ++ row ∷ []) (works ++ work ∷ []) (changes ++ put_reopened work ∷ [])
reopenings-put row work [] [] changes differs are = inr (differs, ([], (ap (λ l. l ++ put_reopened work ∷ []) are, refl)))
reopenings-put row work (first ∷ rows) (of ∷ works) changes differs (inl are) =
    inl (are.0, reopenings-put row work rows works changes differs are.1)
reopenings-put row work (first ∷ rows) (of ∷ works) changes differs (inr are) =
    let later = reopenings-put row work rows works are.1.0 differs are.1.1.1 in
    inr (are.0, (are.1.0 ++ put_reopened work ∷ [], (ap (λ l. l ++ put_reopened work ∷ []) are.1.1.0, later)))
reopenings-put row work [] (of ∷ works) changes differs are = absurd are
reopenings-put row work (first ∷ rows) [] changes differs are = absurd are
