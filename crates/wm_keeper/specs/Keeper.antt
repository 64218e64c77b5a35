-- What the changes of a commit do to the rows held, and what a keeper's answer says of its count of
-- faults.
use Rattle.std.specs.Prelude.{◌≢◌, ℕ, ℤ, Bool, true, false, List, [], ◌∷◌, Result, Err, if◌then◌else◌, int_lt, ◌<ℤ◌}
use Rattle.std.specs.List.{AllByRecursion}
use Rattle.wm_faults.specs.Faults as faults
use Rattle.wm_keeper.specs.declared.keeper.KeepFault.{KeepFault}
use Rattle.wm_keeper.specs.declared.keeper.KeepFault.TheVariants.{Failed}
use Rattle.wm_keeper.specs.declared.row.Row.{Row}
use Rattle.wm_keeper.specs.declared.row.Change.{Change}
use Rattle.wm_keeper.specs.declared.row.Change.TheVariants.{Put, Remove}

-- rows in strictly ascending number
abbrev pub Ascends : List Row → Type 0
Ascends [] = Unit {0}
Ascends (row ∷ rows) = AllByRecursion (λ later. row.seq <ℤ later.seq) rows × Ascends rows

-- the rows with this one under its number, in place of any that stood there
abbrev pub put_row : Row → List Row → List Row
put_row row [] = row ∷ []
put_row row (first ∷ rows) =
    if int_lt row.seq first.seq then row ∷ first ∷ rows
    else if int_lt first.seq row.seq then first ∷ put_row row rows
    else row ∷ rows

-- the rows but for the one under this number
abbrev pub remove_row : ℤ → List Row → List Row
remove_row seq [] = []
remove_row seq (first ∷ rows) =
    if int_lt seq first.seq then first ∷ rows
    else if int_lt first.seq seq then first ∷ remove_row seq rows
    else rows

-- one change of rows that ascend
abbrev pub changed_by : Change → List Row → List Row
changed_by (Put row) rows = put_row row rows
changed_by (Remove seq) rows = remove_row seq rows

-- the changes, one after another
abbrev pub changed : List Change → List Row → List Row
changed [] rows = rows
changed (change ∷ changes) rows = changed changes (changed_by change rows)

-- the number that a change is about
abbrev pub changed_number : Change → ℤ
changed_number (Put row) = row.seq
changed_number (Remove seq) = seq

-- no number occurs in two changes
abbrev pub AreOfDifferentNumbers : List Change → Type 0
AreOfDifferentNumbers [] = Unit {0}
AreOfDifferentNumbers (change ∷ changes) = AllByRecursion (λ later. changed_number change ≢ changed_number later) changes × AreOfDifferentNumbers changes

abbrev pub is_keep_failed : {T : Type 0} → Result T KeepFault → Bool
is_keep_failed (Err Failed) = true
is_keep_failed _ = false

-- `Failed` comes only where the count rose, and any other answer leaves it
abbrev pub KeepCause : {T : Type 0} → Result T KeepFault → ℕ → ℕ → Type 0
KeepCause result before now = faults.HasCause (is_keep_failed result) before now
