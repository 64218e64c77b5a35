-- A stored row as the values of its 27 columns, in the order of the table, both ways.
use Rattle.sqlite.specs.Values.{or_null}
use Rattle.sqlite_rules.specs.Edit.{id_in}
use Rattle.sqlite_value.specs.Order.{Row as Cells, bytes, column}
use Rattle.sqlite_value.specs.declared.value.Value.{Value}
use Rattle.sqlite_value.specs.declared.value.Value.TheVariants.{Null, Int, Text as Words, Blob as Bytes}
use Rattle.std.specs.Prelude.{◌≡◌, ℕ, ℤ, pos, List, [], ◌∷◌, Option, None, Some}
use Rattle.wm_columns.specs.Columns.{prior_in, tags_in}
use Rattle.wm_keeper.specs.declared.row.Row.{Row}

-- the values of a row, where its lists are written as these bytes and this text
abbrev pub values_of : Row → List ℕ → List ℕ → Cells
values_of row prior tags = Int row.version ∷ Int row.seq ∷ Bytes row.id ∷ or_null Words row.name ∷ Words row.class ∷ Int row.kind ∷ Int row.period
    ∷ Int row.flex ∷ Int row.delay ∷ Int row.policy ∷ Int row.wait ∷ Int row.merger ∷ Int row.network ∷ Int row.flags ∷ Int row.phase
    ∷ Int row.attempt ∷ Int row.backoff_n ∷ Int row.runs ∷ Int row.generation ∷ Int row.enqueued_at ∷ Words row.input ∷ Words row.output
    ∷ Bytes prior ∷ Words tags ∷ Int row.next_at ∷ Int row.keep_for ∷ Int row.finished_at ∷ []

-- the text in a column, none where it is NULL
abbrev pub text_in : Value → Option (List ℕ)
text_in Null = None
text_in v = Some (bytes v)

-- the lists of a stored row: its version, its prerequisites and its tags. Where one can't be read the version is 0, and both are empty
abbrev pub lists_of : ℤ → Option (List ℤ) → Option (List (List ℕ)) → ℤ × List ℤ × List (List ℕ)
lists_of version (Some prior) (Some tags) = (version, prior, tags)
lists_of version (Some prior) None = (pos 0, [], [])
lists_of version None tags = (pos 0, [], [])

-- the row that these values are, with lists that were read
abbrev pub row_with : Cells → ℤ × List ℤ × List (List ℕ) → Row
row_with values lists = record {
  version = lists.0;
  seq = id_in (column values 1);
  id = bytes (column values 2);
  name = text_in (column values 3);
  class = bytes (column values 4);
  kind = id_in (column values 5);
  period = id_in (column values 6);
  flex = id_in (column values 7);
  delay = id_in (column values 8);
  policy = id_in (column values 9);
  wait = id_in (column values 10);
  merger = id_in (column values 11);
  network = id_in (column values 12);
  flags = id_in (column values 13);
  phase = id_in (column values 14);
  attempt = id_in (column values 15);
  backoff_n = id_in (column values 16);
  runs = id_in (column values 17);
  generation = id_in (column values 18);
  enqueued_at = id_in (column values 19);
  input = bytes (column values 20);
  output = bytes (column values 21);
  prior = lists.1;
  tags = lists.2;
  next_at = id_in (column values 24);
  keep_for = id_in (column values 25);
  finished_at = id_in (column values 26);
}

-- the row that these values are
abbrev pub row_of : Cells → Row
row_of values = row_with values (lists_of (id_in (column values 0)) (prior_in (bytes (column values 22))) (tags_in (bytes (column values 23))))

-- the lists of this row are read from these bytes and this text
pub record AreLists (row : Row) (prior tags : List ℕ) : Type 0 where
  pub prior_is : prior_in prior ≡ Some row.prior
  pub tags_are : tags_in tags ≡ Some row.tags
