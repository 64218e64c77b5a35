-- What each of the statements makes of the transaction that it stands in.
use Rattle.std.proofs.Common.{◌≡◌, ◌⊎◌, inl, inr, ℕ, ℤ, List, [], ◌∷◌, map, true, IsTrue, Option, Some, None, Result, Ok, Err, OnOk, OnErr, IfOk, IfErr, Vec, sym, ap, ap₂, subst, ◌∙◌}
use Rattle.std.specs.declared.alloc.Global.{Global}
use Rattle.sqlite_value.specs.declared.value.Value.TheVariants.{Int}
use Rattle.sqlite_value.specs.Order.{Row}
use Rattle.sqlite_trees.specs.declared.store.Store.{Ghosts}
use Rattle.sqlite_trees.specs.Tree.{without_rowid}
use Rattle.sqlite.specs.declared.error.Error.{Error}
use Rattle.sqlite.specs.Effect.{Database}
use Rattle.sqlite_schema.specs.declared.command.Returning.{Returning}
use Rattle.sqlite_resolve.specs.declared.compiled.Compiled.{Compiled}
use Rattle.sqlite.specs.State.{State, ExecutesInside, FailsToQuery, HasCleanDisk, FailsToShow, IsNotRun, IsRolledBack, IsTooLate, IsUnchanged, Shown, Shows}
use Rattle.sqlite.specs.Held.{Held, state}
use Rattle.sqlite_schema.specs.declared.schema.Schema.{Schema}
use Rattle.sqlite.specs.Listing.{understood}
use Rattle.sqlite.proofs.Callers.{IsPlain}
use Rattle.wm_keeper.specs.declared.row.Row.{Row as Stored}
use Rattle.wm_columns.specs.Values.{values_of}
use Rattle.wm_sqlite.specs.Table.{both_schema, carried, cells, no_schema, work_schema}
use Rattle.wm_sqlite.specs.Held.{tables_in, with_cells, AreNumbered, Tables}
use Rattle.wm_sqlite.specs.Standing.{ShowsTable, Stands, StandsWith}
use Rattle.wm_sqlite.specs.Steps.{LeavesBase, MakesFirst, MakesSecond, MakesTables, MakesWhere}
use Rattle.wm_sqlite.specs.Texts.{create_text, create2_text, delete_text, delete2_text, insert_text, select_text, select2_text}
use Rattle.wm_sqlite.proofs.TextAnswers.{shows, shows2, shows_same}
use Rattle.wm_sqlite.proofs.TextRemovals.{removes, removes2}
use Rattle.wm_sqlite.proofs.TextSteps.{makes, makes_again, makes2, puts, removes_answer, removes2_answer}

module _ (old new : State) where
  -- what a refused call leaves: what was there, or what the last commit left
  abbrev pub IsLeft : Type 0
  IsLeft = IsUnchanged old new ⊎ IsRolledBack old new

  -- so a connection that is open was open
  pub left-open : IsLeft → IsTrue new.is_open → IsTrue old.is_open
  left-open (inl same) up = same.0.was_open
  left-open (inr back) up = back.was_open up

  -- and the last commit is still that
  pub left-committed : IsLeft → IsTrue new.is_open → new.committed ≡ old.committed
  left-committed (inl same) up = same.0.committed_is
  left-committed (inr back) up = (back.undone up).1

  module _ (sql : List ℕ) (params : Row) (e : Error) where
    -- a statement that is refused
    pub refused : ExecutesInside 0 sql params old new (Err e) → IsLeft
    refused (inl ran) = ran.1
    refused (inr ended) = inl ended.2

    -- a text that isn't run
    pub unrun : IsNotRun old new sql params e → IsLeft
    unfolding IsNotRun
    unrun (inl h) = inl h.1
    unrun (inr h) = inr h.3

    unshown : (c : Compiled) (given : Row) (returning : Option Returning) → FailsToShow old new sql c given e returning → IsLeft
    unshown c given None h = inl h.3
    unshown c given (Some what) (inl h) = inl h.1
    unshown c given (Some what) (inr h) = inr h.3

    unasked : FailsToQuery sql params old new e → IsLeft
    unfolding FailsToQuery
    unasked (inl h) = unrun h
    unasked (inr h) = unshown h.0 _ h.0.returning h.2

    -- a query that fails
    pub unread : FailsToQuery sql params old new e ⊎ IsTooLate sql params old new e → IsLeft
    unread (inl failed) = unasked failed
    unread (inr late) = inl late.5

module _ {A : Type 0} (g : Ghosts A) (old new : Held A) where
  -- a statement that changed nothing leaves the transaction as it stood
  stays : (schema : Schema) (base : Database) → Stands g schema base old → IsUnchanged (state g old) (state g new) → Stands g schema base new
  stays schema base s same = record {
    is_open = same.0.is_open;
    begun = record { mode = same.0.mode ∙ s.begun.mode; origin = same.0.committed_is ∙ s.begun.origin };
    schema_is = ap (λ (d : Database). d.schema) same.0.now_is ∙ s.schema_is;
  }

  pub stays-with : (base : Database) (tables : Tables) → StandsWith g base tables old → IsUnchanged (state g old) (state g new) → StandsWith g base tables new
  stays-with base tables s same = record {
    stands = stays both_schema base s.stands same;
    tables_are = ap (λ (d : Database). tables_in d.trees) same.0.now_is ∙ s.tables_are;
  }

  -- one that wrote leaves the transaction with what it wrote
  written : (schema before : Schema) (base : Database) → Stands g before base old
      → Shows (state g old) (state g new) (state g new).now (state g old).committed true → (state g new).now.schema ≡ schema → Stands g schema base new
  written schema before base s shown is =
      record { is_open = shown.is_open; begun = record { mode = shown.mode; origin = shown.committed_is ∙ s.begun.origin }; schema_is = is }

  written-with : (before : Schema) (base : Database) (tables : Tables) → Stands g before base old
      → Shows (state g old) (state g new) (state g new).now (state g old).committed true
      → ((state g new).now.schema ≡ both_schema) × (tables_in (state g new).now.trees ≡ tables) → StandsWith g base tables new
  written-with before base tables s shown did = record { stands = written both_schema before base s shown did.0; tables_are = did.1 }

  module _ (sql : List ℕ) (params : Row) where
    -- one that is refused commits nothing
    pub refuses : (r : Result ℕ Error) → (HasCleanDisk (state g new) → IsTrue (state g old).in_transaction → ExecutesInside 0 sql params (state g old) (state g new) r)
        → OnErr r (LeavesBase g old new)
    refuses (Ok count) runs = tt
    refuses (Err e) runs = λ clean up base s.
        left-committed (state g old) (state g new) (refused (state g old) (state g new) sql params e (runs clean s.mode)) up ∙ s.origin

  -- CREATE makes `work`, with no row, and does nothing where it is
  pub makes_first : (r : Result ℕ Error)
      → (HasCleanDisk (state g new) → IsTrue (state g old).in_transaction → ExecutesInside 0 create_text [] (state g old) (state g new) r)
      → OnOk r (MakesFirst g old new)
  makes_first (Err e) runs = tt
  makes_first (Ok count) runs = record {
    made = λ clean base s.
        let h = runs clean s.begun.mode in
        let did = makes (state g old) (state g new) count s.schema_is h.0 in
        (written work_schema no_schema base s h.1 did.0, did.1);
    kept = λ clean base s.
        let same = makes_again (state g old) (state g new) count s.schema_is (runs clean s.begun.mode).0 in
        (stays work_schema base s same, ap (λ (d : Database). d.trees 0) same.0.now_is);
  }

  -- the other CREATE makes `work2`, with no row
  pub makes_second : (r : Result ℕ Error)
      → (HasCleanDisk (state g new) → IsTrue (state g old).in_transaction → ExecutesInside 0 create2_text [] (state g old) (state g new) r)
      → OnOk r (MakesSecond g old new)
  makes_second (Err e) runs = tt
  makes_second (Ok count) runs = λ clean base s.
      let h = runs clean s.begun.mode in
      written-with work_schema base ((state g old).now.trees 0, []) s h.1 (makes2 (state g old) (state g new) count s.schema_is h.0)

  -- DELETE takes a number out of `work`
  pub deletes_first : (n : ℤ) (r : Result ℕ Error)
      → (HasCleanDisk (state g new) → IsTrue (state g old).in_transaction → ExecutesInside 0 delete_text (Int n ∷ []) (state g old) (state g new) r)
      → OnOk r (MakesWhere g (λ tables. AreNumbered tables.0) (λ tables. (without_rowid n tables.0, tables.1)) old new)
  deletes_first n (Err e) runs = tt
  deletes_first n (Ok count) runs = λ clean base tables s numbered.
      let h = runs clean s.stands.begun.mode in
      let did = removes_answer (state g old) (state g new) n count s.stands.schema_is h.0 in
      let first : (state g old).now.trees 0 ≡ tables.0 = ap (λ (t : Tables). t.0) s.tables_are in
      let second : (state g old).now.trees 1 ≡ tables.1 = ap (λ (t : Tables). t.1) s.tables_are in
      let gone = removes n (state g old).now.trees (state g new).now.trees (subst AreNumbered (sym first) numbered) did.1 in
      written-with both_schema base (without_rowid n tables.0, tables.1) s.stands h.1
      (did.0, ap₂ (λ one two. (one, two)) (gone ∙ ap (without_rowid n) first) (did.2 ∙ second))

  -- the other takes it out of `work2`
  pub deletes_second : (n : ℤ) (r : Result ℕ Error)
      → (HasCleanDisk (state g new) → IsTrue (state g old).in_transaction → ExecutesInside 0 delete2_text (Int n ∷ []) (state g old) (state g new) r)
      → OnOk r (MakesWhere g (λ tables. AreNumbered tables.1) (λ tables. (tables.0, without_rowid n tables.1)) old new)
  deletes_second n (Err e) runs = tt
  deletes_second n (Ok count) runs = λ clean base tables s numbered.
      let h = runs clean s.stands.begun.mode in
      let did = removes2_answer (state g old) (state g new) n count s.stands.schema_is h.0 in
      let first : (state g old).now.trees 0 ≡ tables.0 = ap (λ (t : Tables). t.0) s.tables_are in
      let second : (state g old).now.trees 1 ≡ tables.1 = ap (λ (t : Tables). t.1) s.tables_are in
      let gone = removes2 n (state g old).now.trees (state g new).now.trees (subst AreNumbered (sym second) numbered) did.1 in
      written-with both_schema base (tables.0, without_rowid n tables.1) s.stands h.1
      (did.0, ap₂ (λ one two. (one, two)) (did.2 ∙ first) (gone ∙ ap (without_rowid n) second))

  -- INSERT puts a row into `work2`
  pub inserts : (row : Stored) (prior tags : List ℕ) (r : Result ℕ Error)
      → (HasCleanDisk (state g new) → IsTrue (state g old).in_transaction → ExecutesInside 0 insert_text (values_of row prior tags) (state g old) (state g new) r)
      → OnOk r (MakesTables g (with_cells (cells (values_of row prior tags))) old new)
  inserts row prior tags (Err e) runs = tt
  inserts row prior tags (Ok count) runs = λ clean base tables s.
      let h = runs clean s.stands.begun.mode in
      let did = puts (state g old) (state g new) row prior tags count s.stands.schema_is h.0 in
      written-with both_schema base (with_cells (cells (values_of row prior tags)) tables) s.stands h.1
      (did.0, did.1 ∙ ap (with_cells (cells (values_of row prior tags))) s.tables_are)

  -- SELECT changes nothing
  pub selects : (text : List ℕ) (r : Result (Vec Row Global) Error) → IsPlain (understood both_schema text)
      → (HasCleanDisk (state g new) → IfOk r (λ rows. Shown text [] (state g old) (state g new) rows.items))
      → OnOk r (MakesTables g (λ tables. tables) old new)
  selects text (Err e) plain shown = tt
  selects text (Ok rows) plain shown = λ clean base tables s.
      stays-with base tables s (shows_same (state g old) (state g new) text rows.items s.stands.schema_is plain (shown clean))

  -- and shows the rows of its table
  pub selects_first : (r : Result (Vec Row Global) Error) → IfOk r (λ rows. Shown select_text [] (state g old) (state g new) rows.items)
      → IfOk r (λ rows. (base : Database) (tables : Tables) → StandsWith g base tables old → ShowsTable (map carried tables.0) rows.items)
  selects_first (Err e) shown = tt
  selects_first (Ok rows) shown = λ base tables s.
      subst (λ (t : Tables). ShowsTable (map carried t.0) rows.items) s.tables_are (shows (state g old) (state g new) rows.items s.stands.schema_is shown)

  pub selects_second : (r : Result (Vec Row Global) Error) → IfOk r (λ rows. Shown select2_text [] (state g old) (state g new) rows.items)
      → IfOk r (λ rows. (base : Database) (tables : Tables) → StandsWith g base tables old → ShowsTable tables.1 rows.items)
  selects_second (Err e) shown = tt
  selects_second (Ok rows) shown = λ base tables s.
      subst (λ (t : Tables). ShowsTable t.1 rows.items) s.tables_are (shows2 (state g old) (state g new) rows.items s.stands.schema_is shown)

  -- and commits nothing where it fails
  pub selects_none : (text : List ℕ) (r : Result (Vec Row Global) Error)
      → (HasCleanDisk (state g new) → IfErr r (λ e. FailsToQuery text [] (state g old) (state g new) e ⊎ IsTooLate text [] (state g old) (state g new) e))
      → OnErr r (LeavesBase g old new)
  selects_none text (Ok rows) failed = tt
  selects_none text (Err e) failed = λ clean up base s.
      left-committed (state g old) (state g new) (unread (state g old) (state g new) text [] e (failed clean)) up ∙ s.origin
