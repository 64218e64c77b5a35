-- The rows that tables hold, where a row of them is deleted or inserted, and where they are shown.
use Rattle.sqlite_rules.specs.Edit.{id_in}
use Rattle.sqlite_trees.specs.Tree.{has_rowid, put_row as put_cells, rowid, without_rowid}
use Rattle.sqlite_trees.specs.View.{is_int}
use Rattle.sqlite_value.proofs.OrderLemmas.{value_cmp-Int}
use Rattle.sqlite_value.specs.Order.{Row as Cells, column, value_cmp}
use Rattle.sqlite_value.specs.declared.value.Value.{Value}
use Rattle.sqlite_value.specs.declared.value.Value.TheVariants.{Null, Int, Real, Text, Blob}
use Rattle.std.proofs.Common.{◌≡◌, ◌≢◌, ℕ, ℤ, Bool, true, false, cond, not, IsTrue, Less, Equal, Greater}
use Rattle.std.proofs.Common.{List, [], ◌∷◌, ◌++◌, filter, map, IsPermutation, refl, sym, subst, ◌∙◌, ap, arith}
use Rattle.std.specs.List.{AllByRecursion}
use Rattle.std.specs.Ordering.{int_cmp, is_eq, match_ordering}
use Rattle.std.specs.declared.cmp.Ordering.{Ordering}
use Rattle.std.proofs.lemmas.Bool.{cond_both, false≢true}
use Rattle.std.proofs.lemmas.Bool.Decides.{nat_tests}
use Rattle.std.proofs.lemmas.Int.{ints}
use Rattle.std.proofs.lemmas.List.Elements.{All-from_recursion, recursion_from_All}
use Rattle.std.proofs.lemmas.List.Sorted.{All-permutation, IsPermutation-append_left, IsPermutation-append_right, IsPermutation-map, IsPermutation-sym, IsPermutation-trans}
use Rattle.std.proofs.lemmas.List.{map-append}
use Rattle.wm_collections.proofs.Lists.{All-kept, All-map, All-unmap}
use Rattle.wm_keeper.specs.Keeper.{Ascends, put_row, remove_row}
use Rattle.wm_keeper.specs.declared.row.Row.{Row}
use Rattle.wm_sqlite.proofs.HeldRows.{Ascends-differ, ascends-in_order, Differ-same, in_order-ascending, in_order-same, IsNew}
use Rattle.wm_sqlite.proofs.HeldRows.{put-put, put-removed, remove-put, remove-put-same}
use Rattle.wm_columns.specs.Values.{AreLists, row_of}
use Rattle.wm_sqlite.specs.Held.{all_rows, AreNumbered, Differ, held_in, in_order, IsListed, row_in, Tables, with_cells, without}
use Rattle.wm_sqlite.specs.Standing.{ShowsTable, ShowsTables}
use Rattle.wm_columns.specs.Values.{values_of}
use Rattle.wm_columns.proofs.Values.{row_of-values}
use Rattle.wm_sqlite.specs.Table.{carried, cells, shown_row}

-- ---- one row

-- the cells of a row are read as that row
pub row_in-cells : (row : Row) (prior tags : List ℕ) → AreLists row prior tags → row_in (cells (values_of row prior tags)) ≡ row
row_in-cells = row_of-values

is_numbered : (n : ℤ) (v : Value) → IsTrue (is_int v) → is_eq (value_cmp v (Int n)) ≡ true → n ≡ id_in v
is_numbered n (Int m) is e = let o : is_eq (int_cmp m n) ≡ true = sym (ap is_eq (value_cmp-Int m n)) ∙ e in grind (arith, ints, nat_tests)
is_numbered n Null is e = absurd (false≢true is)
is_numbered n (Real x) is e = absurd (false≢true is)
is_numbered n (Text t) is e = absurd (false≢true is)
is_numbered n (Blob b) is e = absurd (false≢true is)

isnt_numbered : (n : ℤ) (v : Value) → IsTrue (is_int v) → is_eq (value_cmp v (Int n)) ≡ false → n ≢ id_in v
isnt_numbered n (Int m) is e same = let o : is_eq (int_cmp m n) ≡ false = sym (ap is_eq (value_cmp-Int m n)) ∙ e in grind (arith, ints, nat_tests)
isnt_numbered n Null is e same = false≢true is
isnt_numbered n (Real x) is e same = false≢true is
isnt_numbered n (Text t) is e same = false≢true is
isnt_numbered n (Blob b) is e same = false≢true is

-- a row of a rowid has that number
pub has_rowid-seq : (n : ℤ) (r : Cells) → IsTrue (is_int (rowid r)) → has_rowid n r ≡ true → n ≡ (row_in r).seq
has_rowid-seq n r is = is_numbered n (rowid r) is

-- and a row of another rowid has another number
pub hasnt_rowid-seq : (n : ℤ) (r : Cells) → IsTrue (is_int (rowid r)) → has_rowid n r ≡ false → n ≢ (row_in r).seq
hasnt_rowid-seq n r is = isnt_numbered n (rowid r) is

-- ---- a row less

-- none of the rows has the number, where none of the table has the rowid
new_row : (n : ℤ) (table : List Cells) → AllByRecursion (λ r. IsTrue (is_int (rowid r))) table → AllByRecursion (λ r. has_rowid n r ≡ false) table
    → IsNew n (map row_in table)
new_row n [] numbered none = tt
new_row n (r ∷ table) numbered none = (hasnt_rowid-seq n r numbered.0 none.0, new_row n table numbered.1 none.1)

-- a number that no row of the table has isn't one of those that a filter keeps
new_kept : (n : ℤ) (keep : Cells → Bool) (table : List Cells) → IsNew n (map row_in table) → IsNew n (map row_in (filter keep table))
new_kept n keep table new =
    All-map (λ row. n ≢ row.seq) row_in (filter keep table) (λ r h. h)
    (All-kept (λ r. n ≢ (row_in r).seq) keep table (All-unmap (λ row. n ≢ row.seq) row_in table new))

differ_kept : (keep : Cells → Bool) (table : List Cells) → Differ (map row_in table) → Differ (map row_in (filter keep table))
differ_kept keep [] differ = tt
differ_kept keep (r ∷ table) differ =
    let rest = differ_kept keep table differ.1 in
    cond_both (keep r) (r ∷ filter keep table) (filter keep table) (λ (l : List Cells). Differ (map row_in l))
    (λ e. (new_kept (row_in r).seq keep table differ.0, rest)) (λ e. rest)

-- after a delete the numbers of a table are still integers, no two the same
pub IsListed-without : (n : ℤ) (table : List Cells) → IsListed table → IsListed (without_rowid n table)
IsListed-without n table listed = record {
  numbered = All-kept (λ r. IsTrue (is_int (rowid r))) (λ r. not (has_rowid n r)) table listed.numbered;
  apart = differ_kept (λ r. not (has_rowid n r)) table listed.apart;
}

-- after a delete no row has the rowid
pub without-absent : (n : ℤ) (table : List Cells) → AllByRecursion (λ r. has_rowid n r ≡ false) (without_rowid n table)
without-absent n [] = tt
without-absent n (r ∷ table) = go (has_rowid n r) refl (without-absent n table)
  where
    go : (b : Bool) → has_rowid n r ≡ b → AllByRecursion (λ x. has_rowid n x ≡ false) (without_rowid n table)
        → AllByRecursion (λ x. has_rowid n x ≡ false) (cond (not b) (r ∷ without_rowid n table) (without_rowid n table))
    go true e rest = rest
    go false e rest = (e, rest)

-- where no row has the rowid, a delete changes nothing
pub without-same : (n : ℤ) (table : List Cells) → AllByRecursion (λ r. has_rowid n r ≡ false) table → without_rowid n table ≡ table
without-same n [] none = refl
without-same n (r ∷ table) none = rw (none.0) (ap (λ rest. r ∷ rest) (without-same n table none.1))

held_without : (n : ℤ) (table : List Cells) → AllByRecursion (λ r. IsTrue (is_int (rowid r))) table
    → held_in (without_rowid n table) ≡ remove_row n (held_in table)
held_without n [] numbered = refl
held_without n (r ∷ table) numbered = go (has_rowid n r) refl (held_without n table numbered.1)
  where
    go : (b : Bool) → has_rowid n r ≡ b → held_in (without_rowid n table) ≡ remove_row n (held_in table)
        → held_in (cond (not b) (r ∷ without_rowid n table) (without_rowid n table)) ≡ remove_row n (put_row (row_in r) (held_in table))
    go true e rest =
        rest
        ∙ subst (λ m. remove_row m (held_in table) ≡ remove_row m (put_row (row_in r) (held_in table))) (sym (has_rowid-seq n r numbered.0 e))
        (sym (remove-put-same (row_in r) (held_in table)))
    go false e rest =
        ap (put_row (row_in r)) rest
        ∙ sym (remove-put n (row_in r) (held_in table) (hasnt_rowid-seq n r numbered.0 e) (ascends-in_order (map row_in table)))

-- a delete removes the row of the number
pub held-without : (n : ℤ) (table : List Cells) → IsListed table → held_in (without_rowid n table) ≡ remove_row n (held_in table)
held-without n table listed = held_without n table listed.numbered

-- ---- a row more

-- what holds of each row holds still after an insert of a row that it holds of
All-put_cells : (P : Cells → Type 0) (new : Cells) (table : List Cells) → P new → AllByRecursion P table → AllByRecursion P (put_cells new table)
All-put_cells P new [] p all = (p, tt)
All-put_cells P new (r ∷ table) p all = go (value_cmp (rowid r) (rowid new)) (All-put_cells P new table p all.1)
  where
    go : (o : Ordering) → AllByRecursion P (put_cells new table)
        → AllByRecursion P (match_ordering o (r ∷ put_cells new table) (new ∷ table) (new ∷ r ∷ table))
    go Less rest = (all.0, rest)
    go Equal rest = (p, all.1)
    go Greater rest = (p, all)

new_put : (n : ℤ) (new : Cells) (table : List Cells) → n ≢ (row_in new).seq → IsNew n (map row_in table) → IsNew n (map row_in (put_cells new table))
new_put n new table other none =
    All-map (λ row. n ≢ row.seq) row_in (put_cells new table) (λ r h. h)
    (All-put_cells (λ r. n ≢ (row_in r).seq) new table other (All-unmap (λ row. n ≢ row.seq) row_in table none))

differ_put : (new : Cells) (table : List Cells) → Differ (map row_in table) → IsNew (row_in new).seq (map row_in table)
    → Differ (map row_in (put_cells new table))
differ_put new [] differ none = (tt, tt)
differ_put new (r ∷ table) differ none = go (value_cmp (rowid r) (rowid new)) (differ_put new table differ.1 none.1)
  where
    go : (o : Ordering) → Differ (map row_in (put_cells new table))
        → Differ (map row_in (match_ordering o (r ∷ put_cells new table) (new ∷ table) (new ∷ r ∷ table)))
    go Less rest = (new_put (row_in r).seq new table (λ e. none.0 (sym e)) differ.0, rest)
    go Equal rest = (none.1, differ.1)
    go Greater rest = (none, differ)

-- a row that stands before the table
new_put_after : (n : ℤ) (new : Cells) (xs table : List Cells) → n ≢ (row_in new).seq → IsNew n (map row_in (xs ++ table))
    → IsNew n (map row_in (xs ++ put_cells new table))
new_put_after n new [] table other none = new_put n new table other none
new_put_after n new (r ∷ xs) table other none = (none.0, new_put_after n new xs table other none.1)

differ_put_after : (new : Cells) (xs table : List Cells) → Differ (map row_in (xs ++ table)) → IsNew (row_in new).seq (map row_in (xs ++ table))
    → Differ (map row_in (xs ++ put_cells new table))
differ_put_after new [] table differ none = differ_put new table differ none
differ_put_after new (r ∷ xs) table differ none =
    (new_put_after (row_in r).seq new xs table (λ e. none.0 (sym e)) differ.0, differ_put_after new xs table differ.1 none.1)

All-put_after : (P : Cells → Type 0) (new : Cells) (xs table : List Cells) → P new → AllByRecursion P (xs ++ table) → AllByRecursion P (xs ++ put_cells new table)
All-put_after P new [] table p all = All-put_cells P new table p all
All-put_after P new (r ∷ xs) table p all = (all.0, All-put_after P new xs table p all.1)

-- ---- a row of a number in place of any

module _ (row : Row) (prior tags : List ℕ) (are : AreLists row prior tags) where
  abbrev its : Cells
  its = cells (values_of row prior tags)

  numbered_so : (row_in its).seq ≡ row.seq
  numbered_so = ap (λ (one : Row). one.seq) (row_in-cells row prior tags are)

  held_put : (table : List Cells) → AreNumbered table → AllByRecursion (λ r. has_rowid row.seq r ≡ false) table
      → held_in (put_cells its table) ≡ put_row (row_in its) (held_in table)
  held_put [] numbered none = refl
  held_put (r ∷ table) numbered none = go (value_cmp (rowid r) (Int row.seq)) refl (held_put table numbered.1 none.1)
    where
      go : (o : Ordering) → value_cmp (rowid r) (Int row.seq) ≡ o → held_in (put_cells its table) ≡ put_row (row_in its) (held_in table)
          → held_in (match_ordering o (r ∷ put_cells its table) (its ∷ table) (its ∷ r ∷ table)) ≡ put_row (row_in its) (put_row (row_in r) (held_in table))
      go Less e rest =
          ap (put_row (row_in r)) rest
          ∙ put-put (row_in r) (row_in its) (held_in table) (λ same. hasnt_rowid-seq row.seq r numbered.0 none.0 (sym same))
      go Equal e rest = absurd (false≢true (sym none.0 ∙ ap is_eq e))
      go Greater e rest = refl

  held_put_after : (xs table : List Cells) → AreNumbered (xs ++ table) → AllByRecursion (λ r. has_rowid row.seq r ≡ false) (xs ++ table)
      → held_in (xs ++ put_cells its table) ≡ put_row (row_in its) (held_in (xs ++ table))
  held_put_after [] table numbered none = held_put table numbered none
  held_put_after (r ∷ xs) table numbered none =
      ap (put_row (row_in r)) (held_put_after xs table numbered.1 none.1)
      ∙ put-put (row_in r) (row_in its) (held_in (xs ++ table)) (λ same. hasnt_rowid-seq row.seq r numbered.0 none.0 (sym same))

-- ---- both tables

without-map : (n : ℤ) (table : List Cells) → map carried (without_rowid n table) ≡ without_rowid n (map carried table)
without-map n [] = refl
without-map n (r ∷ table) = go (has_rowid n r) (without-map n table)
  where
    go : (b : Bool) → map carried (without_rowid n table) ≡ without_rowid n (map carried table)
        → map carried (cond (not b) (r ∷ without_rowid n table) (without_rowid n table))
        ≡ cond (not b) (carried r ∷ without_rowid n (map carried table)) (without_rowid n (map carried table))
    go true rest = rest
    go false rest = ap (λ rows. carried r ∷ rows) rest

without-append : (n : ℤ) (xs ys : List Cells) → without_rowid n xs ++ without_rowid n ys ≡ without_rowid n (xs ++ ys)
without-append n [] ys = refl
without-append n (r ∷ xs) ys = go (has_rowid n r) (without-append n xs ys)
  where
    go : (b : Bool) → without_rowid n xs ++ without_rowid n ys ≡ without_rowid n (xs ++ ys)
        → cond (not b) (r ∷ without_rowid n xs) (without_rowid n xs) ++ without_rowid n ys
        ≡ cond (not b) (r ∷ without_rowid n (xs ++ ys)) (without_rowid n (xs ++ ys))
    go true rest = rest
    go false rest = ap (λ rows. r ∷ rows) rest

-- a number that is deleted from both is deleted from all rows
pub without-all : (n : ℤ) (tables : Tables) → all_rows (without n tables) ≡ without_rowid n (all_rows tables)
without-all n tables =
    ap (λ rows. rows ++ without_rowid n tables.1) (without-map n tables.0) ∙ without-append n (map carried tables.0) tables.1

-- after a delete the numbers are still integers, no two the same
pub IsListed-deleted : (n : ℤ) (tables : Tables) → IsListed (all_rows tables) → IsListed (all_rows (without n tables))
IsListed-deleted n tables listed = rw (without-all n tables) (IsListed-without n (all_rows tables) listed)

-- and the row of the number is removed
pub held-deleted : (n : ℤ) (tables : Tables) → IsListed (all_rows tables)
    → held_in (all_rows (without n tables)) ≡ remove_row n (held_in (all_rows tables))
held-deleted n tables listed = ap held_in (without-all n tables) ∙ held-without n (all_rows tables) listed

-- after a delete no row has the number
absent : (n : ℤ) (tables : Tables) → AllByRecursion (λ r. has_rowid n r ≡ false) (all_rows (without n tables))
absent n tables = rw (without-all n tables) (without-absent n (all_rows tables))

module _ (row : Row) (prior tags : List ℕ) (are : AreLists row prior tags) (tables : Tables) (listed : IsListed (all_rows tables)) where
  abbrev left : Tables
  left = without row.seq tables

  abbrev replaced : Tables
  replaced = with_cells (cells (values_of row prior tags)) left

  left_listed : IsListed (all_rows left)
  left_listed = IsListed-deleted row.seq tables listed

  -- a delete from both and an insert into `work2` leave integers, no two the same
  pub IsListed-replaced : IsListed (all_rows replaced)
  IsListed-replaced = record {
    numbered = All-put_after (λ r. IsTrue (is_int (rowid r))) (cells (values_of row prior tags)) (map carried left.0) left.1 refl left_listed.numbered;
    apart = differ_put_after (cells (values_of row prior tags)) (map carried left.0) left.1 left_listed.apart
        (subst (λ n. IsNew n (map row_in (all_rows left))) (sym (numbered_so row prior tags are))
        (new_row row.seq (all_rows left) left_listed.numbered (absent row.seq tables)));
  }

  -- and put the row in place of any that stood there
  pub held-replaced : held_in (all_rows replaced) ≡ put_row row (held_in (all_rows tables))
  held-replaced =
      held_put_after row prior tags are (map carried left.0) left.1 left_listed.numbered (absent row.seq tables)
      ∙ ap (λ one. put_row one (held_in (all_rows left))) (row_in-cells row prior tags are)
      ∙ ap (put_row row) (held-deleted row.seq tables listed)
      ∙ put-removed row (held_in (all_rows tables)) (ascends-in_order (map row_in (all_rows tables)))

-- the numbers of each table are integers
numbered_before : (xs : List Cells) (table : List Cells) → AreNumbered (map carried xs ++ table) → AreNumbered xs × AreNumbered table
numbered_before [] table all = (tt, all)
numbered_before (r ∷ xs) table all = let rest = numbered_before xs table all.1 in ((all.0, rest.0), rest.1)

pub AreNumbered-first : (tables : Tables) → IsListed (all_rows tables) → AreNumbered tables.0
AreNumbered-first tables listed = (numbered_before tables.0 tables.1 listed.numbered).0

pub AreNumbered-second : (tables : Tables) → IsListed (all_rows tables) → AreNumbered tables.1
AreNumbered-second tables listed = (numbered_before tables.0 tables.1 listed.numbered).1

-- ---- the rows that are shown

-- a table shown in whatever order has integers for its numbers where what is shown has
numbered_shown : (table shown : List Cells) → ShowsTable table shown → AllByRecursion (λ values. IsTrue (is_int (column values 1))) shown → AreNumbered table
numbered_shown table shown shows all =
    let back = IsPermutation-sym table shows.ordered shows.permutes in
    let seen : AllByRecursion (λ values. IsTrue (is_int (column values 1))) (map shown_row shows.ordered) =
    subst (AllByRecursion (λ values. IsTrue (is_int (column values 1)))) shows.is all in
    recursion_from_All (λ r. IsTrue (is_int (rowid r))) table
    (All-permutation (λ r. IsTrue (is_int (rowid r))) shows.ordered table back
    (All-from_recursion (λ r. IsTrue (is_int (rowid r))) shows.ordered
    (All-unmap (λ values. IsTrue (is_int (column values 1))) shown_row shows.ordered seen)))

numbered_both : (xs ys : List Cells) → AreNumbered xs → AreNumbered ys → AreNumbered (xs ++ ys)
numbered_both [] ys one other = other
numbered_both (r ∷ xs) ys one other = (one.0, numbered_both xs ys one.1 other)

rows_shown : (ordered : List Cells) → map row_of (map shown_row ordered) ≡ map row_in ordered
rows_shown [] = refl
rows_shown (r ∷ ordered) = ap (λ rows. row_in r ∷ rows) (rows_shown ordered)

shown_permutes : (table shown : List Cells) → ShowsTable table shown → IsPermutation (map row_in table) (map row_of shown)
shown_permutes table shown shows =
    subst (IsPermutation (map row_in table)) (sym (ap (map row_of) shows.is ∙ rows_shown shows.ordered))
    (IsPermutation-map row_in table shows.ordered shows.permutes)

permutes_both : (xs others ys more : List Row) → IsPermutation xs others → IsPermutation ys more → IsPermutation (xs ++ ys) (others ++ more)
permutes_both xs others ys more one two =
    IsPermutation-trans (xs ++ ys) (others ++ ys) (others ++ more) (IsPermutation-append_left ys xs others one) (IsPermutation-append_right others ys more two)

module _ (tables : Tables) (first second : List Cells) (shows : ShowsTables tables first second) where
  -- the rows that are read are those of both tables, in whatever order
  pub all_shown : (rows : List Row) → IsPermutation (map row_of first ++ map row_of second) rows → IsPermutation (map row_in (all_rows tables)) rows
  all_shown rows same =
      IsPermutation-trans (map row_in (all_rows tables)) (map row_of first ++ map row_of second) rows
      (subst (λ all. IsPermutation all (map row_of first ++ map row_of second)) (sym (map-append row_in (map carried tables.0) tables.1))
      (permutes_both (map row_in (map carried tables.0)) (map row_of first) (map row_in tables.1) (map row_of second)
      (shown_permutes (map carried tables.0) first shows.first_shown) (shown_permutes tables.1 second shows.second_shown)))
      same

  -- and their numbers are integers
  pub all_numbered : AllByRecursion (λ values. IsTrue (is_int (column values 1))) first
      → AllByRecursion (λ values. IsTrue (is_int (column values 1))) second → AreNumbered (all_rows tables)
  all_numbered one other =
      numbered_both (map carried tables.0) tables.1 (numbered_shown (map carried tables.0) first shows.first_shown one)
      (numbered_shown tables.1 second shows.second_shown other)

-- rows that rise are those of the table whose rows they are, which has no two of one number
pub held-shown : (all rows : List Row) → IsPermutation all rows → Ascends rows → Differ all × (in_order all ≡ rows)
held-shown all rows same up =
    let differ = Differ-same rows all (IsPermutation-sym all rows same) (Ascends-differ rows up) in
    (differ, in_order-same all rows same differ ∙ in_order-ascending rows up)

-- a table without rows holds none
pub IsListed-none : IsListed []
IsListed-none = record { numbered = tt; apart = tt }
