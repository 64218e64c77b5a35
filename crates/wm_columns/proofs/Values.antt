-- The values of a row are read as that row.
use Rattle.sqlite.specs.Values.{or_null}
use Rattle.sqlite_value.specs.declared.value.Value.TheVariants.{Text}
use Rattle.std.proofs.Common.{◌≡◌, ℕ, ℤ, List, Option, None, Some, refl, ◌∙◌, ap}
use Rattle.wm_columns.specs.Columns.{prior_in, tags_in}
use Rattle.wm_columns.specs.Values.{lists_of, row_of, row_with, text_in, values_of, AreLists}
use Rattle.wm_keeper.specs.declared.row.Row.{Row}

-- a name reads as it was written
text_in-or_null : (name : Option (List ℕ)) → text_in (or_null Text name) ≡ name
text_in-or_null None = refl
text_in-or_null (Some text) = refl

-- lists that are read
lists_of-read : (version : ℤ) (prior : Option (List ℤ)) (tags : Option (List (List ℕ))) (numbers : List ℤ) (texts : List (List ℕ)) → prior ≡ Some numbers
    → tags ≡ Some texts → lists_of version prior tags ≡ (version, numbers, texts)
lists_of-read version prior tags numbers texts is are = rw (is, are) refl

-- a row is read from its values
pub row_of-values : (row : Row) (prior tags : List ℕ) → AreLists row prior tags → row_of (values_of row prior tags) ≡ row
row_of-values row prior tags are =
    ap (row_with (values_of row prior tags)) (lists_of-read row.version (prior_in prior) (tags_in tags) row.prior row.tags are.prior_is are.tags_are)
    ∙ ap (λ name. record row { name = name }) (text_in-or_null row.name)
