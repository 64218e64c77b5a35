-- The rule of the roll: what holds of all seats at its table between any two steps, and what each step does to them.
use Rattle.std.specs.Prelude.{◌≡◌, ◌≤◌, ℕ, List, [], ◌∷◌, ◌++◌, count_by}
use Rattle.std.specs.List.{AllByRecursion}
use Rattle.atomic_table.specs.Table.{Me, Step}
use Rattle.atomic_table.specs.Seated.{TableId}
use Rattle.atomic_table.specs.declared.shared.Seat.{Seat}
use Rattle.wm_collections.specs.Lists.{AllLater}
use Rattle.wm_roll.specs.Parts.{DifferInRun, IsListed, is_of, without}
use Rattle.wm_roll.specs.declared.part.Part.{Part}
use Rattle.wm_roll.specs.declared.view.Lists.{Lists}
use Rattle.wm_roll.specs.declared.view.View.{View}
use Rattle.wm_roll.specs.declared.view.View.TheVariants.{OfRoll, OfToken, Spent}
use Rattle.wm_worker.specs.declared.kind.Kind.TheVariants.{Echo}

-- ---- the rule

-- the lists of the views that are a roll's
abbrev pub lists_in : List View → List Lists
lists_in [] = []
lists_in (OfRoll lists ∷ views) = lists ∷ lists_in views
lists_in (OfToken part ∷ views) = lists_in views
lists_in (Spent ∷ views) = lists_in views

-- the parts that a view has in its own hand: a token's its part, the roll's those that came back
abbrev pub held_by : View → List Part
held_by (OfRoll lists) = lists.returned
held_by (OfToken part) = part ∷ []
held_by Spent = []

-- the parts that all views have in hand
abbrev pub held_in : List View → List Part
held_in [] = []
held_in (view ∷ views) = held_by view ++ held_in views

-- the rule, where the roll has these lists
pub record IsKeptWith (lists : Lists) (views : List View) : Type 0 where
  -- just one view is the roll's
  pub roll : lists_in views ≡ lists ∷ []
  -- listed parts differ in their run
  pub differ : AllLater DifferInRun lists.listed
  -- the part of each token is listed, and so is each that came back
  pub listed : AllByRecursion (IsListed lists.listed) (held_in views)
  -- no two of these are of one run
  pub once : (run : ℕ) → count_by (is_of run) (held_in views) ≤ 1

-- the rule
abbrev pub IsKept : List View → Type 0
IsKept views = (lists : Lists) × IsKeptWith lists views

-- ---- the roll at rest

-- the roll's view while this is listed and nothing is coming back
abbrev pub at_rest : List Part → View
at_rest parts = OfRoll (record { listed = parts; returned = [] })

-- the roll's view at first
abbrev pub first_view : View
first_view = at_rest []

-- the parts that a view lists: only the roll's lists any
abbrev pub listed_by : View → List Part
listed_by (OfRoll lists) = lists.listed
listed_by (OfToken part) = []
listed_by Spent = []

-- the parts that the roll of this seat lists
abbrev pub listed_of : Seat (Unit {0}) View → List Part
listed_of seat = listed_by seat.me.0

-- the seat is a roll's, and nothing is coming back
abbrev pub IsAtRest : Seat (Unit {0}) View → Type 0
IsAtRest seat = seat.me ≡ (at_rest (listed_of seat), [])

-- the seat is that of the roll of this table between two calls: its parts differ in their run, and nothing is coming back
pub record IsRollOf (table_id : TableId) (seat : Seat (Unit {0}) View) : Type 0 where
  pub own : seat.table_id ≡ table_id
  pub word : table_id.words ≡ 1
  pub rest : IsAtRest seat
  pub differ : AllLater DifferInRun (listed_of seat)

-- ---- the steps

-- no part in particular
abbrev pub no_part : Part
no_part = record { run = 0; instance = 0; kind = Echo }

-- the roll's view once it lists this part too
abbrev pub with_listed : Part → View → View
with_listed part (OfRoll lists) = OfRoll (record lists { listed = lists.listed ++ part ∷ [] })
with_listed part (OfToken its) = OfToken its
with_listed part Spent = Spent

-- the roll's view once the parts that another view has in hand came back
abbrev pub with_returned : View → View → View
with_returned (OfRoll lists) back = OfRoll (record lists { returned = held_by back ++ lists.returned })
with_returned (OfToken part) back = OfToken part
with_returned Spent back = Spent

-- the listed parts but for those of the runs that came back
abbrev pub without_each : List Part → List Part → List Part
without_each [] listed = listed
without_each (part ∷ returned) listed = without part.run (without_each returned listed)

-- the roll's view once the parts that came back are off both lists
abbrev pub struck : View → View
struck (OfRoll lists) = at_rest (without_each lists.returned lists.listed)
struck (OfToken part) = OfToken part
struck Spent = Spent

-- what the roll's load tells: each part that came back was listed, and it is off both lists
abbrev pub Strikes : Step (Unit {0}) → Me (Unit {0}) View → ℕ → Me (Unit {0}) View → Type 0
Strikes step before found after = AllByRecursion (IsListed (listed_by before.0)) (held_by before.0) × (after ≡ (struck before.0, before.1))
