-- What a connection rests at between two transactions, and what rows it holds.
use Rattle.sqlite.specs.Effect.{Database}
use Rattle.sqlite.specs.Held.{Held, state}
use Rattle.sqlite.specs.State.{HasCleanDisk}
use Rattle.sqlite_schema.specs.declared.schema.Schema.{Schema}
use Rattle.sqlite_trees.specs.declared.store.Store.{Ghosts}
use Rattle.std.specs.Prelude.{◌≡◌, ◌⊎◌, [], false, List, IsTrue}
use Rattle.wm_keeper.specs.declared.row.Change.{Change}
use Rattle.wm_keeper.specs.declared.row.Row.{Row}
use Rattle.wm_sqlite.specs.Held.{added, all_rows, held_in, removed, tables_in, IsListed, Tables}
use Rattle.wm_sqlite.specs.Standing.{StandsWith}
use Rattle.wm_sqlite.specs.Table.{both_schema, no_schema, work_schema}
use Rattle.wm_sqlite.specs.declared.standing.Spread.{Spread}
use Rattle.wm_sqlite.specs.declared.standing.Spread.TheVariants.{Both, Second}

-- the rows with these changes: without those that are removed, and then with those that are put
abbrev pub with_changes : List Change → List Row → List Row
with_changes changes rows = added changes (removed changes rows)

-- the database has `work` alone, or nothing
abbrev pub IsIncomplete : Schema → Type 0
IsIncomplete schema = (schema ≡ no_schema) ⊎ (schema ≡ work_schema)

-- the tables have rows only where they may stand
abbrev pub AreSpread : Spread → Tables → Type 0
AreSpread Both tables = Unit {0}
AreSpread Second tables = tables.0 ≡ []

-- the tables have these rows, each under a number of its own
pub record AreHeld (spread : Spread) (rows : List Row) (tables : Tables) : Type 0 where
  pub spread_so : AreSpread spread tables
  pub listed : IsListed (all_rows tables)
  pub held : held_in (all_rows tables) ≡ rows

module _ {A : Type 0} (g : Ghosts A) where
  -- what is open after it was open before it
  abbrev pub WasOpen : Held A → Held A → Type 0
  WasOpen old new = HasCleanDisk (state g new) → IsTrue (state g new).is_open → IsTrue (state g old).is_open

  -- no transaction is open, nothing is pending, and the database has this schema
  pub record Rests (schema : Schema) (h : Held A) : Type 0 where
    pub is_open : IsTrue (state g h).is_open
    pub mode : (state g h).in_transaction ≡ false
    pub schema_is : (state g h).now.schema ≡ schema
    pub settled : (state g h).now ≡ (state g h).committed

  -- a database of this schema rests as it did
  abbrev pub RestsStill : Schema → Held A → Held A → Type 0
  RestsStill schema old new = Rests schema old → Rests schema new × ((state g new).now ≡ (state g old).now)

  module _ (spread : Spread) where
    -- a transaction is open, which began at this database, and sees tables of these rows
    pub record Holds (base : Database) (rows : List Row) (h : Held A) : Type 0 where
      pub tables : Tables
      pub stands : StandsWith g base tables h
      pub are_held : AreHeld spread rows tables

    -- a step of a transaction makes this of the rows, as long as the disk returned what was written
    abbrev pub Makes : (List Row → List Row) → Held A → Held A → Type 0
    Makes change old new = HasCleanDisk (state g new) → (base : Database) (rows : List Row) → Holds base rows old → Holds base (change rows) new

    -- no transaction is open, and the database has the two tables, with these rows, and nothing else
    pub record RestsWith (rows : List Row) (h : Held A) : Type 0 where
      pub rests : Rests both_schema h
      pub are_held : AreHeld spread rows (tables_in (state g h).now.trees)
