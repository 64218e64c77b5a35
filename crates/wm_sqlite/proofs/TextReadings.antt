-- What the database reads the statements as.
use Rattle.std.proofs.Common.{◌≡◌, pos, negsuc, ℕ, List, [], ◌∷◌, ◌++◌, codes, false, None, Ok, refl, map}
use Rattle.sqlite_value.specs.declared.value.Value.TheVariants.{Null, Int}
use Rattle.sqlite_value.specs.declared.keys.Collation.TheVariants.{Binary}
use Rattle.sqlite_sql.specs.Term.{Term, lit, col, op2}
use Rattle.sqlite_sql.specs.Query.{Query, inner, end}
use Rattle.sqlite_sql.specs.declared.ops.BinaryOp.TheVariants.{Compare}
use Rattle.sqlite_sql.specs.declared.ops.CompareOp.TheVariants.{Eq}
use Rattle.sqlite_schema.specs.declared.program.Program.{Program}
use Rattle.sqlite_schema.specs.declared.command.Source.TheVariants.{Values}
use Rattle.sqlite_schema.specs.declared.command.Command.TheVariants.{Insert, Select, Delete, CreateTable, Nothing}
use Rattle.sqlite_resolve.specs.Compile.{table_defined_by}
use Rattle.sqlite_tied.specs.Compute.{everything}
use Rattle.sqlite.specs.Listing.{understood, reads_listing}
use Rattle.sqlite.proofs.Callers.{IsPlain, command_of, statement_of}
use Rattle.wm_sqlite.specs.Table.{both_schema, first_forms, forms, no_schema, work, work2, work_schema}
use Rattle.wm_sqlite.specs.Texts.{create_text, create2_text, delete_text, delete2_text, insert_text, select_text, select2_text}

-- the values of the row that INSERT puts, each a parameter
abbrev pub terms : List Term
terms = col 0 1 ∷ col 0 0 ∷ lit Null ∷ col 0 2 ∷ col 0 3 ∷ col 0 4 ∷ col 0 5 ∷ col 0 6 ∷ col 0 7 ∷ col 0 8 ∷ col 0 9 ∷ col 0 10 ∷ col 0 11 ∷ col 0 12 ∷ col 0 13 ∷ col 0 14 ∷ col 0 15 ∷ col 0 16 ∷ col 0 17 ∷ col 0 18 ∷ col 0 19 ∷ col 0 20 ∷ col 0 21 ∷ col 0 22 ∷ col 0 23 ∷ col 0 24 ∷ col 0 25 ∷ col 0 26 ∷ []

-- what SELECT asks of a table: these terms of each row, by its number
abbrev pub query_of : ℕ → List Term → Query
query_of place terms = record {
  from = inner place end;
  filter = [];
  group = None;
  project = terms;
  distinct = false;
  collations = [];
  order = (col 1 0, record { collation = Binary; descending = false }) ∷ [];
  limit = lit (Int (negsuc 0));
  offset = lit (Int (pos 0));
}

abbrev pub select : Query
select = query_of 0 (col 1 1 ∷ col 1 0 ∷ col 1 3 ∷ col 1 4 ∷ col 1 5 ∷ col 1 6 ∷ col 1 7 ∷ col 1 8 ∷ col 1 9 ∷ col 1 10 ∷ col 1 11 ∷ col 1 12 ∷ col 1 13 ∷ col 1 14 ∷ col 1 15 ∷ col 1 16 ∷ col 1 17 ∷ col 1 18 ∷ col 1 19 ∷ col 1 20 ∷ col 1 21 ∷ col 1 22 ∷ col 1 23 ∷ col 1 24 ∷ lit (Int (negsuc 0)) ∷ lit (Int (pos 0)) ∷ lit (Int (pos 0)) ∷ [])

abbrev pub select2 : Query
select2 = query_of 1 (col 1 1 ∷ col 1 0 ∷ col 1 3 ∷ col 1 4 ∷ col 1 5 ∷ col 1 6 ∷ col 1 7 ∷ col 1 8 ∷ col 1 9 ∷ col 1 10 ∷ col 1 11 ∷ col 1 12 ∷ col 1 13 ∷ col 1 14 ∷ col 1 15 ∷ col 1 16 ∷ col 1 17 ∷ col 1 18 ∷ col 1 19 ∷ col 1 20 ∷ col 1 21 ∷ col 1 22 ∷ col 1 23 ∷ col 1 24 ∷ col 1 25 ∷ col 1 26 ∷ col 1 27 ∷ [])

-- the rows that DELETE takes out of a table
abbrev pub chosen : ℕ → Query
chosen place = record {
  from = inner place end;
  filter = op2 (Compare Eq Binary) (col 1 0) (col 0 0) ∷ [];
  group = None;
  project = col 1 0 ∷ [];
  distinct = false;
  collations = [];
  order = [];
  limit = lit (Int (negsuc 0));
  offset = lit (Int (pos 0));
}

-- a query with no table computed before it
abbrev pub program : Query → Program
program q = record { lets = []; body = q }

-- where there is nothing, CREATE makes `work`
pub create_is : (command_of (understood no_schema create_text) ≡ CreateTable)
    × (statement_of create_text (understood no_schema create_text) ≡ create_text)
    × (table_defined_by create_text ≡ Ok work)
unfolding understood everything
create_is = (refl, refl, refl)

pub create_plain : IsPlain (understood no_schema create_text)
unfolding understood everything
create_plain = (refl, refl)

-- where `work` is, it does nothing
pub create_again_is : command_of (understood work_schema create_text) ≡ Nothing
unfolding understood everything
create_again_is = refl

pub create_again_plain : IsPlain (understood work_schema create_text)
unfolding understood everything
create_again_plain = (refl, refl)

-- where `work` is, the other CREATE makes `work2`
pub create2_is : (command_of (understood work_schema create2_text) ≡ CreateTable)
    × (statement_of create2_text (understood work_schema create2_text) ≡ create2_text)
    × (table_defined_by create2_text ≡ Ok (record work2 { tree = 0 }))
unfolding understood everything
create2_is = (refl, refl, refl)

pub create2_plain : IsPlain (understood work_schema create2_text)
unfolding understood everything
create2_plain = (refl, refl)

-- INSERT puts one row of 28 values into `work2`
pub insert_is : command_of (understood both_schema insert_text) ≡ Insert 1 (Values terms 28)
unfolding understood everything
insert_is = refl

pub insert_plain : IsPlain (understood both_schema insert_text)
unfolding understood everything
insert_plain = (refl, refl)

-- SELECT asks for all columns, and reads no catalog
pub select_is : (command_of (understood both_schema select_text)
    ≡ Select (program select) (map (λ form. form.0) first_forms ++ codes "-1" ∷ codes "0" ∷ codes "0" ∷ []))
    × (reads_listing both_schema select_text ≡ false)
unfolding understood everything
select_is = (refl, refl)

pub select_plain : IsPlain (understood both_schema select_text)
unfolding understood everything
select_plain = (refl, refl)

pub select2_is : (command_of (understood both_schema select2_text) ≡ Select (program select2) (map (λ form. form.0) forms))
    × (reads_listing both_schema select2_text ≡ false)
unfolding understood everything
select2_is = (refl, refl)

pub select2_plain : IsPlain (understood both_schema select2_text)
unfolding understood everything
select2_plain = (refl, refl)

-- DELETE takes out the rows that its condition chooses
pub delete_is : command_of (understood both_schema delete_text) ≡ Delete 0 (program (chosen 0))
unfolding understood everything
delete_is = refl

pub delete_plain : IsPlain (understood both_schema delete_text)
unfolding understood everything
delete_plain = (refl, refl)

pub delete2_is : command_of (understood both_schema delete2_text) ≡ Delete 1 (program (chosen 1))
unfolding understood everything
delete2_is = refl

pub delete2_plain : IsPlain (understood both_schema delete2_text)
unfolding understood everything
delete2_plain = (refl, refl)
