-- That changes merged by their numbers make what all of them make, one after another.
use Rattle.std.proofs.Common.{◌≡◌, ◌≢◌, ℤ, Bool, true, false, cond, List, [], ◌∷◌, Option, Some, None, if◌then◌else◌, refl, sym, ◌∙◌, ap, subst, arith}
use Rattle.std.proofs.lemmas.Bool.{true≢false}
use Rattle.std.proofs.lemmas.Bool.Decides.{Decides-int_eq}
use Rattle.std.proofs.lemmas.Int.{ints, by_lt_z}
use Rattle.std.proofs.lemmas.Map.Keys.{IsDistinct-head, IsDistinct-tail}
use Rattle.std.specs.List.{AllByRecursion, IsDistinct}
use Rattle.std.specs.Map.{keys_of, values_of}
use Rattle.std.specs.Ordering.{int_eq}
use Rattle.std.specs.Prelude.{◌<ℤ◌, ◌≤ℤ◌}
use Rattle.indexmap.specs.IndexMap.{insert_entry}
use Rattle.wm_collections.proofs.Lists.{All-weaker}
use Rattle.wm_gathering.specs.Waiting.{AreByNumber}
use Rattle.wm_keeper.proofs.Ascending.{changed_by-Ascends, int_lt-false, int_lt-true}
use Rattle.wm_keeper.specs.Keeper.{AreOfDifferentNumbers, Ascends, changed, changed_by, changed_number, put_row, remove_row}
use Rattle.wm_keeper.specs.declared.row.Change.{Change}
use Rattle.wm_keeper.specs.declared.row.Change.TheVariants.{Put, Remove}
use Rattle.wm_keeper.specs.declared.row.Row.{Row}

-- ---- the row under a number

-- two numbers are one, or one of them is lower
by_order : {P : Type 0} (a b : ℤ) → (a <ℤ b → P) → (a ≡ b → P) → (b <ℤ a → P) → P
by_order a b lower same higher = by_lt_z a b lower (λ at_least. by_lt_z b a higher (λ at_most. same (omega (arith, ints))))

-- two numbers are one, or they differ
by_number : {P : Type 0} (a b : ℤ) → (a ≡ b → int_eq a b ≡ true → P) → (a ≢ b → int_eq a b ≡ false → P) → P
by_number {P = P} a b same other = go (int_eq a b) refl
  where
    go : (e : Bool) → int_eq a b ≡ e → P
    go true e = same ((Decides-int_eq a b).0 e) e
    go false e = other (λ h. true≢false (sym ((Decides-int_eq a b).1 h) ∙ e)) e

-- the row under a number
abbrev row_at : ℤ → List Row → Option Row
row_at n [] = None
row_at n (row ∷ rows) = if int_eq n row.seq then Some row else row_at n rows

-- the row that a change puts
abbrev given : Change → Option Row
given (Put row) = Some row
given (Remove seq) = None

-- what a change makes of the row under a number
abbrev made : Change → ℤ → Option Row → Option Row
made change n held = if int_eq n (changed_number change) then given change else held

int_eq-same : (n : ℤ) → int_eq n n ≡ true
int_eq-same n = (Decides-int_eq n n).1 refl

int_eq-other : (a b : ℤ) → a ≢ b → int_eq a b ≡ false
int_eq-other a b differ = by_number a b (λ same e. absurd (differ same)) (λ other e. e)

-- below all rows there is none
row_at-below : (n : ℤ) (rows : List Row) → AllByRecursion (λ row. n <ℤ row.seq) rows → row_at n rows ≡ None
row_at-below n [] below = refl
row_at-below n (row ∷ rows) below = rw (int_eq-other n row.seq (λ same. omega (arith, ints, same, below.0))) (row_at-below n rows below.1)

-- what is above a number is above each lower one
above_lower : (a b : ℤ) (rows : List Row) → a ≤ℤ b → AllByRecursion (λ row. b <ℤ row.seq) rows → AllByRecursion (λ row. a <ℤ row.seq) rows
above_lower a b rows lower above = All-weaker rows (λ row h. omega (arith, ints, lower, h)) above

row_at-put : (new : Row) (n : ℤ) (rows : List Row) → row_at n (put_row new rows) ≡ made (Put new) n (row_at n rows)
row_at-put new n [] = refl
row_at-put new n (first ∷ rows) =
    by_order new.seq first.seq (λ before. rw (int_lt-true new.seq first.seq before) refl)
    (λ there.
    rw (int_lt-false new.seq first.seq (omega (arith, ints, there)), int_lt-false first.seq new.seq (omega (arith, ints, there)))
    (by_number n new.seq (λ same e. rw e refl)
    (λ other e. rw (e, int_eq-other n first.seq (λ same. other (same ∙ sym there))) refl)))
    (λ after.
    rw (int_lt-false new.seq first.seq (omega (arith, ints, after)), int_lt-true first.seq new.seq after)
    (by_number n first.seq
    (λ same e. rw (e, int_eq-other n new.seq (λ one. omega (arith, ints, same, one, after))) refl)
    (λ other e. rw e (row_at-put new n rows))))

row_at-remove : (seq n : ℤ) (rows : List Row) → Ascends rows → row_at n (remove_row seq rows) ≡ made (Remove seq) n (row_at n rows)
row_at-remove seq n [] up = by_number n seq (λ same e. rw e refl) (λ other e. rw e refl)
row_at-remove seq n (first ∷ rows) up =
    by_order seq first.seq
    (λ before.
    rw (int_lt-true seq first.seq before)
    (by_number n seq
    (λ same e. rw e (row_at-below n (first ∷ rows) (omega (arith, ints, same, before), above_lower n first.seq rows (omega (arith, ints, same, before)) up.0)))
    (λ other e. rw e refl)))
    (λ there.
    rw (int_lt-false seq first.seq (omega (arith, ints, there)), int_lt-false first.seq seq (omega (arith, ints, there)))
    (by_number n seq (λ same e. rw e (row_at-below n rows (above_lower n first.seq rows (omega (arith, ints, same, there)) up.0)))
    (λ other e. rw (e, int_eq-other n first.seq (λ same. other (same ∙ sym there))) refl)))
    (λ after.
    rw (int_lt-false seq first.seq (omega (arith, ints, after)), int_lt-true first.seq seq after)
    (by_number n first.seq
    (λ same e. rw (e, int_eq-other n seq (λ one. omega (arith, ints, same, one, after))) refl)
    (λ other e. rw e (row_at-remove seq n rows up.1))))

row_at-changed : (change : Change) (n : ℤ) (rows : List Row) → Ascends rows → row_at n (changed_by change rows) ≡ made change n (row_at n rows)
row_at-changed (Put row) n rows up = row_at-put row n rows
row_at-changed (Remove seq) n rows up = row_at-remove seq n rows up

-- rows that ascend are told by what stands under each number
same_rows : (one other : List Row) → Ascends one → Ascends other → ((n : ℤ) → row_at n one ≡ row_at n other) → one ≡ other
same_rows [] [] up above same = refl
same_rows [] (row ∷ rows) up above same = let here = rw (int_eq-same row.seq) at (same row.seq) in absurd cc
same_rows (row ∷ rows) [] up above same = let here = rw (int_eq-same row.seq) at (same row.seq) in absurd cc
same_rows (row ∷ rows) (first ∷ others) up above same =
    by_order row.seq first.seq
    (λ lower.
    let none = row_at-below row.seq (first ∷ others) (lower, above_lower row.seq first.seq others (omega (arith, ints, lower)) above.0) in
    let here = rw (int_eq-same row.seq) at (same row.seq) in
    let some = here ∙ none in
    absurd cc)
    (λ equal.
    let here = rw (int_eq-same row.seq, (Decides-int_eq row.seq first.seq).1 equal) at (same row.seq) in
    let head : row ≡ first = cc in
    let tail : rows ≡ others = same_rows rows others up.1 above.1 (λ n. below n equal) in
    rw (head, tail) refl)
    (λ higher.
    let none = row_at-below first.seq (row ∷ rows) (higher, above_lower first.seq row.seq rows (omega (arith, ints, higher)) up.0) in
    let here = rw (int_eq-same first.seq) at (same first.seq) in
    let some = sym none ∙ here in
    absurd cc)
  where
    below : (n : ℤ) → row.seq ≡ first.seq → row_at n rows ≡ row_at n others
    below n equal =
        by_number n row.seq
        (λ is e.
        row_at-below n rows (above_lower n row.seq rows (omega (arith, ints, is)) up.0)
        ∙ sym (row_at-below n others (above_lower n first.seq others (omega (arith, ints, is, equal)) above.0)))
        (λ other e. rw (e, int_eq-other n first.seq (λ is. other (is ∙ sym equal))) at (same n))

-- ---- two changes

-- of one number: the later one is left
changed_by-over : (later change : Change) (rows : List Row) → changed_number later ≡ changed_number change → Ascends rows
    → changed_by later (changed_by change rows) ≡ changed_by later rows
changed_by-over later change rows same up =
    let once = changed_by-Ascends change rows up in
    same_rows _ _ (changed_by-Ascends later _ once) (changed_by-Ascends later rows up)
    (λ n.
    rw (row_at-changed later n (changed_by change rows) once, row_at-changed change n rows up, row_at-changed later n rows up, same)
    (by_number n (changed_number change) (λ is e. rw e refl) (λ other e. rw e refl)))

-- of two numbers: they may change places
changed_by-swap : (one other : Change) (rows : List Row) → changed_number one ≢ changed_number other → Ascends rows
    → changed_by one (changed_by other rows) ≡ changed_by other (changed_by one rows)
changed_by-swap one other rows differ up =
    let first = changed_by-Ascends one rows up in
    let second = changed_by-Ascends other rows up in
    same_rows _ _ (changed_by-Ascends one _ second) (changed_by-Ascends other _ first)
    (λ n.
    rw (row_at-changed one n (changed_by other rows) second, row_at-changed other n rows up, row_at-changed other n (changed_by one rows) first, row_at-changed one n rows up)
    (by_number n (changed_number one)
    (λ is e. rw (e, int_eq-other n (changed_number other) (λ same. differ (sym is ∙ same))) refl)
    (λ apart e. rw e refl)))

-- ---- many changes

-- they keep the order
pub changed-Ascends : (changes : List Change) (rows : List Row) → Ascends rows → Ascends (changed changes rows)
changed-Ascends [] rows up = up
changed-Ascends (change ∷ changes) rows up = changed-Ascends changes (changed_by change rows) (changed_by-Ascends change rows up)

-- one that is of no number of theirs may come before them
changed_by-before : (change : Change) (entries : List (ℤ × Change)) (rows : List Row) → AreByNumber entries
    → AllByRecursion (λ n. int_eq (changed_number change) n ≡ false) (keys_of entries) → Ascends rows
    → changed (values_of entries) (changed_by change rows) ≡ changed_by change (changed (values_of entries) rows)
changed_by-before change [] rows by apart up = refl
changed_by-before change (entry ∷ entries) rows by apart up =
    let differ : changed_number entry.1 ≢ changed_number change = λ same. true≢false (sym ((Decides-int_eq _ _).1 (sym same ∙ sym by.0)) ∙ apart.0) in
    ap (λ held. changed (values_of entries) held) (changed_by-swap entry.1 change rows differ up)
    ∙ changed_by-before change entries (changed_by entry.1 rows) by.1 apart.1 (changed_by-Ascends entry.1 rows up)

-- a change that takes the place of the one of its number, or is the last, makes what it makes after them
pub changed-insert : (change : Change) (entries : List (ℤ × Change)) (rows : List Row) → AreByNumber entries → IsDistinct int_eq (keys_of entries) → Ascends rows
    → changed (values_of (insert_entry int_eq entries (changed_number change) change)) rows ≡ changed_by change (changed (values_of entries) rows)
changed-insert change [] rows by distinct up = refl
changed-insert change (entry ∷ entries) rows by distinct up =
    by_number (changed_number change) entry.0
    (λ is e.
    let apart : AllByRecursion (λ n. int_eq (changed_number change) n ≡ false) (keys_of entries) =
    subst (λ number. AllByRecursion (λ n. int_eq number n ≡ false) (keys_of entries)) (sym is) (IsDistinct-head int_eq entry.0 (keys_of entries) distinct) in
    rw e
    (sym (ap (λ held. changed (values_of entries) held) (changed_by-over change entry.1 rows (is ∙ by.0) up))
    ∙ changed_by-before change entries (changed_by entry.1 rows) by.1 apart (changed_by-Ascends entry.1 rows up)))
    (λ other e.
    rw e
    (changed-insert change entries (changed_by entry.1 rows) by.1 (IsDistinct-tail int_eq entry.0 (keys_of entries) distinct) (changed_by-Ascends entry.1 rows up)))

-- ---- what stands under the numbers

pub AreByNumber-insert : (change : Change) (entries : List (ℤ × Change)) → AreByNumber entries
    → AreByNumber (insert_entry int_eq entries (changed_number change) change)
AreByNumber-insert change [] by = (refl, tt)
AreByNumber-insert change (entry ∷ entries) by =
    by_number (changed_number change) entry.0 (λ is e. rw e (sym is, by.1)) (λ other e. rw e (by.0, AreByNumber-insert change entries by.1))

-- changes under numbers that differ are of different numbers
pub different_numbers : (entries : List (ℤ × Change)) → AreByNumber entries → IsDistinct int_eq (keys_of entries) → AreOfDifferentNumbers (values_of entries)
different_numbers [] by distinct = tt
different_numbers (entry ∷ entries) by distinct = (
  apart entries by.1 (IsDistinct-head int_eq entry.0 (keys_of entries) distinct),
  different_numbers entries by.1 (IsDistinct-tail int_eq entry.0 (keys_of entries) distinct),
)
  where
    apart : (others : List (ℤ × Change)) → AreByNumber others → AllByRecursion (λ n. int_eq entry.0 n ≡ false) (keys_of others)
        → AllByRecursion (λ later. changed_number entry.1 ≢ changed_number later) (values_of others)
    apart [] by_others other = tt
    apart (one ∷ others) by_others other =
        (λ same. true≢false (sym ((Decides-int_eq entry.0 one.0).1 (by.0 ∙ same ∙ sym by_others.0)) ∙ other.0), apart others by_others.1 other.1)
