-- The two tables of the rows, as the database sees them: their forms, and a row as it is written, as it stands and as it is shown.
use Rattle.sqlite_schema.specs.declared.schema.Column.{Column}
use Rattle.sqlite_schema.specs.declared.schema.Kind.{Kind}
use Rattle.sqlite_schema.specs.declared.schema.Kind.TheVariants.{Integer, Text, Blob}
use Rattle.sqlite_schema.specs.declared.schema.Schema.{Schema}
use Rattle.sqlite_schema.specs.declared.schema.Table.{Table}
use Rattle.sqlite_value.specs.Order.{Row as Cells, column}
use Rattle.sqlite_value.specs.declared.keys.Collation.TheVariants.{Binary}
use Rattle.sqlite_value.specs.declared.value.Value.TheVariants.{Null, Int}
use Rattle.std.specs.List.{range_with_len}
use Rattle.std.specs.Prelude.{◌≡◌, ℕ, pos, negsuc, Bool, true, false, List, [], ◌∷◌, ◌++◌, drop, map, take, Some, codes}

-- a column of this name and type, which takes values of that type alone, and refuses NULL or doesn't
abbrev pub column_of : List ℕ × Kind × Bool → Column
column_of form = record { name = form.0; kind = form.1; is_strict = true; not_null = form.2; default = Null; collation = Binary }

-- the name, the type and whether NULL is refused, of each column of `work2` in order
abbrev pub forms : List (List ℕ × Kind × Bool)
forms = (codes "version", Integer, true) ∷ (codes "seq", Integer, false) ∷ (codes "id", Blob, true) ∷ (codes "name", Text, false)
    ∷ (codes "class", Text, true) ∷ (codes "kind", Integer, true) ∷ (codes "period", Integer, true) ∷ (codes "flex", Integer, true)
    ∷ (codes "delay", Integer, true) ∷ (codes "policy", Integer, true) ∷ (codes "wait", Integer, true) ∷ (codes "merger", Integer, true)
    ∷ (codes "network", Integer, true) ∷ (codes "flags", Integer, true) ∷ (codes "phase", Integer, true) ∷ (codes "attempt", Integer, true)
    ∷ (codes "backoff_n", Integer, true) ∷ (codes "runs", Integer, true) ∷ (codes "generation", Integer, true) ∷ (codes "enqueued_at", Integer, true)
    ∷ (codes "input", Text, true) ∷ (codes "output", Text, true) ∷ (codes "prior", Blob, true) ∷ (codes "tags", Text, true)
    ∷ (codes "next_at", Integer, true) ∷ (codes "keep_for", Integer, true) ∷ (codes "finished_at", Integer, true) ∷ []

-- `work` has the first 24 of them
abbrev pub first_forms : List (List ℕ × Kind × Bool)
first_forms = take 24 forms

-- the table of this name, this place in its database and these columns, whose second column is the number of its rows
abbrev pub table_of : List ℕ → ℕ → List (List ℕ × Kind × Bool) → Table
table_of name place columns = record {
  name = name;
  tree = place;
  columns = map column_of columns;
  key = Some 1;
  primary = 0 ∷ [];
  uniques = [];
  orders = [];
  checks = [];
  references = [];
  computed = [];
  stamps = record { places = []; terms = []; formats = [] };
  is_counted = false;
}

-- the table of the rows of version 1, and that of the rows of version 2, which is made after it
abbrev pub work : Table
work = table_of (codes "work") 0 first_forms

abbrev pub work2 : Table
work2 = table_of (codes "work2") 1 forms

-- a table with no rule besides its columns and its key
pub record IsPlain (table : Table) : Type 0 where
  pub uniques : table.uniques ≡ []
  pub checks : table.checks ≡ []
  pub references : table.references ≡ []
  pub computed : table.computed ≡ []
  pub places : table.stamps.places ≡ []
  pub uncounted : table.is_counted ≡ false

-- a table of this name and these columns, with the key of its rows
pub record HasForm (name : List ℕ) (columns : List (List ℕ × Kind × Bool)) (table : Table) : Type 0 where
  pub name_is : table.name ≡ name
  pub key : table.key ≡ Some 1
  pub columns_are : table.columns ≡ map column_of columns
  pub plain : IsPlain table

-- the database that has nothing
abbrev pub no_schema : Schema
no_schema = record { tables = []; indexes = []; views = [] }

-- the database that has `work` and nothing else
abbrev pub work_schema : Schema
work_schema = record { tables = work ∷ []; indexes = []; views = [] }

-- the database that has both tables and nothing else
abbrev pub both_schema : Schema
both_schema = record { tables = work ∷ work2 ∷ []; indexes = []; views = [] }

-- values as they stand in a table, where the number is the rowid, before all columns, and the column of the key is NULL
abbrev pub cells : Cells → Cells
cells values = column values 1 ∷ column values 0 ∷ Null ∷ drop 2 values

-- the columns of a row at these places
abbrev pub columns_at : List ℕ → Cells → Cells
columns_at places r = map (column r) places

-- a row of `work2` as the query shows it: its values
abbrev pub shown_row : Cells → Cells
shown_row = columns_at (1 ∷ 0 ∷ range_with_len 3 25)

-- a row of `work` as one of `work2`: no next moment, not kept, and finished at 0
abbrev pub carried : Cells → Cells
carried r = columns_at (range_with_len 0 25) r ++ Int (negsuc 0) ∷ Int (pos 0) ∷ Int (pos 0) ∷ []
