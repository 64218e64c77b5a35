-- What a connection stands at while a transaction is open.
use Rattle.sqlite.specs.Effect.{Database}
use Rattle.sqlite.specs.Held.{Held, state}
use Rattle.sqlite_schema.specs.declared.schema.Schema.{Schema}
use Rattle.sqlite_trees.specs.declared.store.Store.{Ghosts}
use Rattle.sqlite_value.specs.Order.{Row}
use Rattle.std.specs.Prelude.{◌≡◌, List, map, true, IsTrue, IsPermutation}
use Rattle.wm_sqlite.specs.Held.{tables_in, Tables}
use Rattle.wm_sqlite.specs.Table.{both_schema, carried, shown_row}

-- the rows that a query shows are those of the table, in whatever order
pub record ShowsTable (table : List Row) (shown : List Row) : Type 0 where
  pub ordered : List Row
  pub permutes : IsPermutation table ordered
  pub is : shown ≡ map shown_row ordered

-- queries show the rows of both tables, those of `work` as rows of `work2`
pub record ShowsTables (tables : Tables) (first second : List Row) : Type 0 where
  pub first_shown : ShowsTable (map carried tables.0) first
  pub second_shown : ShowsTable tables.1 second

module _ {A : Type 0} (g : Ghosts A) where
  -- a transaction is open, which began at this database
  pub record HasBegun (base : Database) (h : Held A) : Type 0 where
    pub mode : (state g h).in_transaction ≡ true
    pub origin : (state g h).committed ≡ base

  -- and it sees a database of this schema
  pub record Stands (schema : Schema) (base : Database) (h : Held A) : Type 0 where
    pub is_open : IsTrue (state g h).is_open
    pub begun : HasBegun base h
    pub schema_is : (state g h).now.schema ≡ schema

  -- and both tables, with these rows
  pub record StandsWith (base : Database) (tables : Tables) (h : Held A) : Type 0 where
    pub stands : Stands both_schema base h
    pub tables_are : tables_in (state g h).now.trees ≡ tables
