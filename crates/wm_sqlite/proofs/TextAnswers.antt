-- What the two SELECTs show of the tables.
use Rattle.std.proofs.Common.{◌≡◌, ℕ, List, [], ◌∷◌, map, IsPermutation, sym, ap, subst, ◌∙◌}
use Rattle.std.proofs.lemmas.List.Concat.{flat_map_single}
use Rattle.sqlite_value.specs.declared.value.Value.TheVariants.{Null}
use Rattle.sqlite_value.specs.Order.{Row, column}
use Rattle.sqlite_sql.specs.Term.{Env}
use Rattle.sqlite_sql.specs.Query.{IsAnswer, output, Output}
use Rattle.sqlite_sql.specs.Program.{overlay}
use Rattle.sqlite_keyed.proofs.ListLemmas.{map-map}
use Rattle.sqlite.specs.State.{State, Shown, ShowsRows, IsUnchanged}
use Rattle.sqlite.specs.Clock.{timed}
use Rattle.sqlite.specs.Listing.{understood}
use Rattle.sqlite.proofs.Callers.{IsPlain, reads_as}
use Rattle.wm_sqlite.specs.Standing.{ShowsTable}
use Rattle.wm_sqlite.specs.Table.{both_schema, carried, shown_row}
use Rattle.wm_sqlite.specs.Texts.{select_text, select2_text}
use Rattle.wm_sqlite.proofs.Reordered.{reordered}
use Rattle.wm_sqlite.proofs.TextReadings.{select, select_is, select_plain, select2, select2_is, select2_plain}

abbrev slots : Row → Env
slots r = [] ∷ r ∷ []

abbrev pair : (Row → Row) → Row → Output
pair shows r = (column r 0 ∷ [], shows r)

abbrev shown_carried : Row → Row
shown_carried r = shown_row (carried r)

-- rows in whatever order, shown
in_order : (shows : Row → Row) (all rows : List Row) (kept ordered : List Output) → kept ≡ map (pair shows) all → IsPermutation kept ordered
    → rows ≡ map (λ (p : Output). p.1) ordered → (ys : List Row) × IsPermutation all ys × (rows ≡ map shows ys)
in_order shows all rows kept ordered are same shown =
    let order = reordered (pair shows) all ordered (subst (λ k. IsPermutation k ordered) are same) in
    (order.0, order.1, shown ∙ ap (map (λ (p : Output). p.1)) order.2 ∙ map-map (λ (p : Output). p.1) (pair shows) order.0)

-- of rows that are carried over, those that are carried over
carried_order : (all rows : List Row) → (ys : List Row) × IsPermutation all ys × (rows ≡ map shown_carried ys) → ShowsTable (map carried all) rows
carried_order all rows order = record {
  ordered = map carried order.0;
  permutes = Rattle.std.proofs.lemmas.List.Sorted.IsPermutation-map carried all order.0 order.1;
  is = order.2 ∙ sym (map-map shown_row carried order.0);
}

-- the query of `work` shows all its rows as those of `work2`, in whatever order
pub shows : (old new : State) (rows : List Row) → old.now.schema ≡ both_schema → Shown select_text [] old new rows
    → ShowsTable (map carried (old.now.trees 0)) rows
shows old new rows has h =
    let all = old.now.trees 0 in
    let read = reads_as select_text [] old new both_schema has _ select_is.0 select_plain select_is.1 rows h in
    let a : IsAnswer select (overlay old.now.trees []) [] rows = read.answer Null in
    let staged : a.staged ≡ map slots all = a.grouped ∙ flat_map_single slots all in
    let kept : a.kept ≡ map (pair shown_carried) all = a.distinct ∙ ap (map (output select)) staged ∙ map-map (output select) slots all in
    carried_order all rows (in_order shown_carried all rows a.kept a.ordered kept a.same a.shown)

-- and that of `work2` shows its rows
pub shows2 : (old new : State) (rows : List Row) → old.now.schema ≡ both_schema → Shown select2_text [] old new rows
    → ShowsTable (old.now.trees 1) rows
shows2 old new rows has h =
    let all = old.now.trees 1 in
    let read = reads_as select2_text [] old new both_schema has _ select2_is.0 select2_plain select2_is.1 rows h in
    let a : IsAnswer select2 (overlay old.now.trees []) [] rows = read.answer Null in
    let staged : a.staged ≡ map slots all = a.grouped ∙ flat_map_single slots all in
    let kept : a.kept ≡ map (pair shown_row) all = a.distinct ∙ ap (map (output select2)) staged ∙ map-map (output select2) slots all in
    let order = in_order shown_row all rows a.kept a.ordered kept a.same a.shown in
    record { ordered = order.0; permutes = order.1; is = order.2 }

-- and a query changes nothing
pub shows_same : (old new : State) (text : List ℕ) (rows : List Row) → old.now.schema ≡ both_schema → IsPlain (understood both_schema text)
    → Shown text [] old new rows → IsUnchanged old new
unfolding Shown
shows_same old new text rows has plain h =
    let known = subst IsPlain (sym (sym h.1.is ∙ ap (λ s. understood s text) has)) plain in
    let it = subst (ShowsRows old new text h.0 (timed [] h.0.formats h.1.now) rows) known.0 h.2 in
    it.3
