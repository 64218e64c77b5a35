-- Which rows a store may hold: each is a record, and sound after those before it.
use Rattle.std.specs.Prelude.{◌≡◌, ℕ, ◌&&◌, ◌||◌, Bool, true, false, not, List, [], ◌∷◌, ◌++◌, length, nat_lt, if◌then◌else◌, ok_or, Option, Some, None, is_some, Result, Ok, Err}
use Rattle.std.specs.List.{list_all, list_any}
use Rattle.std.specs.Str.{bytes_eq}
use Rattle.wm_collections.specs.Lists.{is_among}
use Rattle.wm_keeper.specs.declared.row.Row.{Row}
use Rattle.wm_machine.specs.Closed.{is_open}
use Rattle.wm_machine.specs.First.{is_succeeded}
use Rattle.wm_machine.specs.Group.{is_name}
use Rattle.wm_machine.specs.Input.{work_numbered}
use Rattle.wm_machine.specs.declared.record.How.TheVariants as how
use Rattle.wm_machine.specs.declared.record.Phase.{Phase}
use Rattle.wm_machine.specs.declared.record.Phase.TheVariants as phase
use Rattle.wm_machine.specs.declared.record.Record.{Record}
use Rattle.wm_rows.specs.Grammar.{read_row}
use Rattle.wm_rows.specs.declared.fault.RowFault.{RowFault}
use Rattle.wm_rows.specs.declared.fault.RowFault.TheVariants.{BadRow, Unsound, Memory}

-- ---- a record after those before it

-- its number is above theirs
abbrev pub is_above : List Record → Record → Bool
is_above before work = list_all (λ other. nat_lt other.seq work.seq) before

-- one of these has its id
abbrev pub has_id : List Record → List ℕ → Bool
has_id before id = list_any (λ other. bytes_eq other.request.id id) before

abbrev pub is_periodic : Record → Bool
is_periodic work = is_some work.request.period

-- one of these has the name, and one that is periodic
abbrev pub has_name : List Record → List ℕ → Bool
has_name before name = list_any (λ other. is_name name other.name) before

abbrev pub has_periodic_name : List Record → List ℕ → Bool
has_periodic_name before name = list_any (λ other. is_periodic other && is_name name other.name) before

-- its name is free: no other has that of periodic work, and no periodic one that of one-time work
abbrev pub is_name_free : List Record → Bool → Option (List ℕ) → Bool
is_name_free before periodic None = true
is_name_free before true (Some name) = not (has_name before name)
is_name_free before false (Some name) = not (has_periodic_name before name)

-- numbers that differ
abbrev pub are_different : List ℕ → Bool
are_different [] = true
are_different (number ∷ numbers) = not (is_among numbers number) && are_different numbers

-- Whether a prerequisite is as work in this phase needs it. Work that waits needs it there, one-time and neither failed nor cancelled; work that
-- runs needs it there, one-time and succeeded; work that succeeded needs that it succeeded, if it is still there.
abbrev pub serves : Phase → Option Record → Bool
serves phase.Waiting None = false
serves phase.Waiting (Some prior) = not (is_periodic prior) && (is_open prior.phase || is_succeeded prior.phase)
serves phase.Running None = false
serves phase.Running (Some prior) = not (is_periodic prior) && is_succeeded prior.phase
serves (phase.Done how.Succeeded) None = true
serves (phase.Done how.Succeeded) (Some prior) = is_succeeded prior.phase
serves (phase.Done _) prior = true

-- its prerequisites differ, have smaller numbers than its own, and each is as it needs it
abbrev pub is_prior_sound : List Record → Record → Bool
is_prior_sound before work =
    are_different work.prior
    && (list_all (λ number. nat_lt number work.seq) work.prior && list_all (λ number. serves work.phase (work_numbered number before)) work.prior)

-- fewer than 100,000 stand before it, it has a number above theirs, an id that none of them has and a name that is free, and it is sound by what
-- it comes after
unfoldable pub is_sound_after : List Record → Record → Bool
is_sound_after before work =
    nat_lt (length before) 100000
    && (is_above before work
    && (not (has_id before work.request.id)
    && (is_name_free before (is_periodic work) work.name && is_prior_sound before work)))

-- ---- all rows

infixl 10 ◌>>=◌
abbrev pub ◌>>=◌ : {A B : Type 0} → Result A RowFault → (A → Result B RowFault) → Result B RowFault
Ok x >>= f = f x
Err fault >>= f = Err fault

-- the record of a row after these, or what is wrong with it
abbrev pub read_after : List Record → Row → Result Record RowFault
read_after before row = do
  work ← ok_or (read_row row) (BadRow row.seq)
  if is_sound_after before work then Ok work else Err (Unsound row.seq)

-- these records and those of the rows after them, or the first fault
abbrev pub checked_after : List Record → List Row → Result (List Record) RowFault
checked_after before [] = Ok before
checked_after before (row ∷ rows) = do
  work ← read_after before row
  checked_after (before ++ work ∷ []) rows

-- the records of the rows, or the first fault
abbrev pub checked : List Row → Result (List Record) RowFault
checked rows = checked_after [] rows

-- the rows are those of a store: each is read, and sound after those before it
abbrev pub AreSound : List Row → Type 0
AreSound rows = (works : List Record) × (checked rows ≡ Ok works)

-- a row with this fault, after rows that are sound
pub record IsFirstFault (rows : List Row) (fault : RowFault) : Type 0 where
  pub before : List Row
  pub row : Row
  pub later : List Row
  pub works : List Record
  pub whole : rows ≡ before ++ row ∷ later
  pub sound : checked before ≡ Ok works
  pub here : read_after works row ≡ Err fault

-- A fault in the place of what a call is to answer: it is that fault, or memory was refused.
abbrev pub IsFaultOf : {T : Type 0} → Result T RowFault → RowFault → Type 0
IsFaultOf answer Memory = Unit {0}
IsFaultOf answer fault = answer ≡ Err fault
