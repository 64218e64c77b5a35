-- The rule of the desk: what holds of all seats at its table between any two steps, and what each step does to them.
use Rattle.std.specs.Prelude.{◌≡◌, ℕ, List, [], ◌∷◌, ◌++◌, length, false}
use Rattle.std.specs.List.{AllByRecursion}
use mathlib.Core.List.{IsPrefix}
use Rattle.atomic_table.specs.Table.{Me, Step}
use Rattle.atomic_table.specs.Seated.{TableId}
use Rattle.atomic_table.specs.declared.shared.Seat.{Seat}
use Rattle.wm_callers.specs.Places.{last_place, longer}
use Rattle.wm_callers.specs.declared.entry.Signed.{Signed}
use Rattle.wm_machine.specs.declared.command.Command.TheVariants.{Prune}
use Rattle.wm_machine.specs.declared.reply.Reply.TheVariants.{Moment}
use Rattle.wm_callers.specs.declared.view.Own.{Own}
use Rattle.wm_callers.specs.declared.view.View.{View}
use Rattle.wm_callers.specs.declared.view.View.TheVariants.{OfDesk, OfPass, Spent}

-- ---- the rule

-- the lists of all entries that a view has: a desk's one
abbrev pub all_by : View → List (List Signed)
all_by (OfDesk desk) = desk.all ∷ []
all_by (OfPass pass) = []
all_by Spent = []

-- those that all views have
abbrev pub all_in : List View → List (List Signed)
all_in [] = []
all_in (view ∷ views) = all_by view ++ all_in views

-- what a view knows of callers
abbrev pub owns_by : View → List Own
owns_by (OfDesk desk) = desk.kept
owns_by (OfPass pass) = pass.own ∷ pass.kept
owns_by Spent = []

-- what all views know of callers
abbrev pub owns_in : List View → List Own
owns_in [] = []
owns_in (view ∷ views) = owns_by view ++ owns_in views

-- what a caller has seen begins all entries
abbrev pub Fits : List Signed → Own → Type 0
Fits all own = IsPrefix own.seen all

-- the rule, where the desk has these entries
pub record IsKeptWith (all : List Signed) (words : List ℕ) (views : List View) : Type 0 where
  -- just one view is a desk's
  pub desk : all_in views ≡ all ∷ []
  -- the word counts its entries
  pub counted : words ≡ length all ∷ []
  -- what all views know of callers fits them
  pub fits : AllByRecursion (Fits all) (owns_in views)

-- the rule
abbrev pub IsKept : List ℕ → List View → Type 0
IsKept words views = (all : List Signed) × IsKeptWith all words views

-- ---- seats at rest

abbrev pub desk_view : List Signed → View
desk_view all = OfDesk (record { all = all; kept = [] })

abbrev pub pass_view : Own → View
pass_view own = OfPass (record { own = own; kept = [] })

-- nobody in particular
abbrev pub no_own : Own
no_own = record { number = 0; seen = []; mine = [] }

-- the entries of a desk's view
abbrev pub entries_of : View → List Signed
entries_of (OfDesk desk) = desk.all
entries_of (OfPass pass) = []
entries_of Spent = []

-- what a pass's view knows
abbrev pub known_by : View → Own
known_by (OfDesk desk) = no_own
known_by (OfPass pass) = pass.own
known_by Spent = no_own

abbrev pub all_of : Seat (Unit {0}) View → List Signed
all_of seat = entries_of seat.me.0

abbrev pub own_of : Seat (Unit {0}) View → Own
own_of seat = known_by seat.me.0

-- the seat is that of the desk of this table between two calls
pub record IsDeskSeat (table_id : TableId) (seat : Seat (Unit {0}) View) : Type 0 where
  pub own : seat.table_id ≡ table_id
  pub word : table_id.words ≡ 1
  pub rest : seat.me ≡ (desk_view (all_of seat), [])

-- the seat is that of a pass of this table between two calls
pub record IsPassSeat (table_id : TableId) (seat : Seat (Unit {0}) View) : Type 0 where
  pub own : seat.table_id ≡ table_id
  pub rest : seat.me ≡ (pass_view (own_of seat), [])

-- ---- the steps

-- what a view has seen, as a pass that made nothing
abbrev pub note_own : View → Own
note_own (OfDesk desk) = record no_own { seen = desk.all }
note_own (OfPass pass) = record pass.own { mine = [] }
note_own Spent = no_own

abbrev pub note_of : View → View
note_of view = pass_view (note_own view)

-- a desk's view once it keeps what another one knows of callers
abbrev pub with_kept : View → View → View
with_kept (OfDesk desk) other = OfDesk (record desk { kept = owns_by other ++ desk.kept })
with_kept (OfPass pass) other = OfPass pass
with_kept Spent other = Spent

-- a pass's view once it has the longer of two lists, and keeps both
abbrev pub with_longer : View → View → View
with_longer (OfDesk desk) other = OfDesk desk
with_longer (OfPass pass) other =
    OfPass (record {
      own = record pass.own { seen = longer pass.own.seen (known_by other).seen };
      kept = pass.own ∷ known_by other ∷ pass.kept;
    })
with_longer Spent other = Spent

-- a pass's view once it has another's list, of which the last entry is its own
abbrev pub with_signed : View → View → View
with_signed (OfDesk desk) other = OfDesk desk
with_signed (OfPass pass) other =
    OfPass (record pass { own = record pass.own { seen = (known_by other).seen; mine = pass.own.mine ++ last_place (known_by other).seen ∷ [] } })
with_signed Spent other = Spent

-- a desk's view with one entry more
abbrev pub with_entry : Signed → View → View
with_entry entry (OfDesk desk) = OfDesk (record desk { all = desk.all ++ entry ∷ [] })
with_entry entry (OfPass pass) = OfPass pass
with_entry entry Spent = Spent

-- a view that keeps nothing
abbrev pub cleared : View → View
cleared (OfDesk desk) = desk_view desk.all
cleared (OfPass pass) = pass_view pass.own
cleared Spent = Spent

-- what a load tells: what the desk keeps fits its entries, and of what a pass keeps each list begins its own
abbrev pub Told : View → Type 0
Told (OfDesk desk) = AllByRecursion (Fits desk.all) desk.kept
Told (OfPass pass) = AllByRecursion (λ own. IsPrefix own.seen pass.own.seen) pass.kept
Told Spent = Unit {0}

abbrev pub Compares : Step (Unit {0}) → Me (Unit {0}) View → ℕ → Me (Unit {0}) View → Type 0
Compares step before found after = Told before.0 × (after ≡ (cleared before.0, before.1))

-- what an addition tells: there were as many entries as was found, and this one was added
abbrev pub Adds : Signed → Step (Unit {0}) → Me (Unit {0}) View → ℕ → Me (Unit {0}) View → Type 0
Adds entry step before found after = (found ≡ length (entries_of before.0)) × (after ≡ (with_entry entry before.0, before.1))

-- ---- entries and places of a call

-- what a pass knows once it has made an entry at this place, and has seen these
abbrev pub with_call : Own → List Signed → ℕ → Own
with_call own entries place = record own { seen = entries; mine = own.mine ++ place ∷ [] }

-- a caller that has seen and made nothing
abbrev pub fresh : ℕ → Own
fresh number = record { number = number; seen = []; mine = [] }

-- no entry in particular
abbrev pub no_signed : Signed
no_signed = record { caller = 0; line = 0; command = Prune false; reply = Moment }
