-- What a keeper over a connection tells, and what it knows of that.
use Rattle.sqlite.specs.Held.{Held, state}
use Rattle.sqlite.specs.State.{State, HasCleanDisk}
use Rattle.sqlite_trees.specs.Tree.{Trees}
use Rattle.sqlite_trees.specs.View.{is_int}
use Rattle.sqlite_trees.specs.declared.store.Store.{Ghosts}
use Rattle.sqlite_value.specs.Order.{Row as Cells, column}
use Rattle.std.specs.List.{AllByRecursion}
use Rattle.std.specs.Prelude.{◌≡◌, ◌≢◌, ◌⊎◌, ℕ, Bool, true, false, not, List, [], ◌++◌, map, Option, None, Some, IsPermutation, IsTrue, if◌then◌else◌}
use Rattle.wm_keeper.specs.Keeper.{Ascends}
use Rattle.wm_keeper.specs.Store.{Store}
use Rattle.wm_keeper.specs.declared.row.Row.{Row}
use Rattle.wm_columns.specs.Values.{row_of}
use Rattle.wm_sqlite.specs.Held.{all_rows, Differ, held_in, row_in, tables_in, told_rows, Tables}
use Rattle.wm_sqlite.specs.Resting.{Rests, RestsWith, WasOpen}
use Rattle.wm_sqlite.specs.Standing.{ShowsTables}
use Rattle.wm_sqlite.specs.States.{SqliteState}
use Rattle.wm_sqlite.specs.Table.{both_schema, no_schema, work_schema}
use Rattle.wm_sqlite.specs.declared.standing.Spread.{Spread}
use Rattle.wm_sqlite.specs.declared.standing.Spread.TheVariants.{Both}
use Rattle.wm_sqlite.specs.declared.standing.Standing.{Standing}
use Rattle.wm_sqlite.specs.declared.standing.Standing.TheVariants.{Unknown, Missing, First, Found, Read}

-- the tables that are known to be there; one that is missing is one without rows
abbrev pub tables_at : Standing → Trees → Tables
tables_at Unknown trees = ([], [])
tables_at Missing trees = ([], [])
tables_at First trees = (trees 0, [])
tables_at Found trees = tables_in trees
tables_at (Read spread) trees = tables_in trees

-- the rows told of tables, and none where nothing is known of them
abbrev pub told_at : Standing → Trees → Option (List Row)
told_at Unknown trees = None
told_at standing trees = told_rows (map row_in (all_rows (tables_at standing trees)))

-- rows that are told, where the connection is open
abbrev pub while_open : Bool → Option (List Row) → Option (List Row)
while_open true told = told
while_open false told = None

-- the rows told of what a connection shows
abbrev pub rows_told : Standing → State → Option (List Row)
rows_told standing s = while_open s.is_open (told_at standing s.now.trees)

-- a crash may leave tables of which these rows are told, as long as the disk returned what was written
pub record LeavesRows (standing : Standing) (s : State) (image : List Row) : Type 0 where
  pub clean : HasCleanDisk s
  pub left : Trees
  pub may : s.may_leave left
  pub told : told_at standing left ≡ Some image

-- What is told of what a connection shows, beside a count of faults. No name is told. It is lost once the connection is shut.
abbrev pub told_of : Standing → State → ℕ → Store
told_of standing s faults = record { rows = rows_told standing s; images = LeavesRows standing s; name = None; faults = faults; is_lost = not s.is_open }

-- what is known from the schema alone, exactly where no transaction is open
abbrev pub IsSeenAs : Standing → State → Type 0
IsSeenAs Unknown s = (s.in_transaction ≡ true) ⊎ ((s.now.schema ≢ no_schema) × (s.now.schema ≢ work_schema) × (s.now.schema ≢ both_schema))
IsSeenAs Missing s = (s.in_transaction ≡ false) × (s.now.schema ≡ no_schema)
IsSeenAs First s = (s.in_transaction ≡ false) × (s.now.schema ≡ work_schema)
IsSeenAs Found s = (s.in_transaction ≡ false) × (s.now.schema ≡ both_schema)
IsSeenAs (Read spread) s = ⊥

-- what is known once the rows were read, of which no two have the same number or some do
abbrev pub looked_at : Bool → Spread → Standing → Standing
looked_at apart spread Unknown = Unknown
looked_at apart spread standing = if apart then Read spread else Unknown

-- the tables were looked at: their rows were read, or nothing is known of them
abbrev pub IsLookedAt : Standing → Type 0
IsLookedAt Unknown = Unit {0}
IsLookedAt Missing = ⊥
IsLookedAt First = ⊥
IsLookedAt Found = ⊥
IsLookedAt (Read spread) = Unit {0}

-- where the rows may stand
abbrev pub spread_of : Standing → Spread
spread_of (Read spread) = spread
spread_of standing = Both

-- both tables are there, or nothing is known of them
abbrev pub IsMade : Standing → Type 0
IsMade Missing = ⊥
IsMade First = ⊥
IsMade standing = Unit {0}

-- one of the tables is known to be missing
abbrev pub IsUnmade : Standing → Type 0
IsUnmade Missing = Unit {0}
IsUnmade First = Unit {0}
IsUnmade standing = ⊥

-- these rows are told of tables that are shown so
pub record AreShown (held : List Row) (first second : List Cells) : Type 0 where
  pub tables : Tables
  pub shows : ShowsTables tables first second
  pub told : told_rows (map row_in (all_rows tables)) ≡ Some held

-- these rows are those that are shown so, under integers, and rise where no two have the same number
pub record AreRead (first second : List Cells) (rows : List Row) : Type 0 where
  pub permutes : IsPermutation (map row_of first ++ map row_of second) rows
  pub ascend : Differ (map row_of first ++ map row_of second) → Ascends rows
  pub first_numbered : AllByRecursion (λ values. IsTrue (is_int (column values 1))) first
  pub second_numbered : AllByRecursion (λ values. IsTrue (is_int (column values 1))) second

-- the same rows are told, unless it is lost and tells none; a crash leaves nothing that it couldn't leave before, and what is lost stays so
pub record TellsAlike (before now : Store) : Type 0 where
  pub rows : now.is_lost ≡ false → now.rows ≡ before.rows
  pub silent : now.is_lost ≡ true → now.rows ≡ None
  pub images : (image : List Row) → now.images image → before.images image
  pub lost : IsTrue before.is_lost → IsTrue now.is_lost

module _ {A : Type 0} (g : Ghosts A) where
  -- what a keeper shows of its store
  abbrev pub store_of : SqliteState A → Store
  store_of keeper = told_of keeper.standing (state g keeper.connection) keeper.faults

  -- what a keeper knows of its connection, while that is open
  abbrev pub Knows : Standing → Held A → Type 0
  Knows Unknown h = Unit {0}
  Knows Missing h = IsTrue (state g h).is_open → Rests g no_schema h
  Knows First h = IsTrue (state g h).is_open → Rests g work_schema h
  Knows Found h = IsTrue (state g h).is_open → Rests g both_schema h
  Knows (Read spread) h = IsTrue (state g h).is_open → RestsWith g spread (held_in (all_rows (tables_in (state g h).now.trees))) h

  -- both tables are there, and these rows are told of them
  pub record AreThere (h : Held A) (held : List Row) : Type 0 where
    pub rests : Rests g both_schema h
    pub told : told_rows (map row_in (all_rows (tables_in (state g h).now.trees))) ≡ Some held

  -- after a call that changes nothing of its rows a keeper knows what is there, and tells as it did
  pub record StillTells (before now : Standing) (old new : Held A) : Type 0 where
    pub knows : Knows now new
    pub alike : TellsAlike (told_of before (state g old) 0) (told_of now (state g new) 0)
    pub was_open : WasOpen g old new
