-- What CREATE, INSERT and DELETE make of the database, before the rows that DELETE takes out are looked at.
use Rattle.std.proofs.Common.{◌≡◌, ◌≢◌, ◌⊎◌, inl, inr, ℕ, ℤ, List, [], ◌∷◌, Bool, true, false, cond, Some, None, Option, Ok, Err, Result, refl, sym, ap, ap₂, subst, ◌∙◌, arith}
use Rattle.sqlite_value.specs.declared.value.Value.{Value}
use Rattle.sqlite_value.specs.declared.value.Value.TheVariants.{Null, Int, Text}
use Rattle.sqlite_value.specs.Order.{Row as Cells}
use Rattle.sqlite_trees.specs.Tree.{Trees, put_row}
use Rattle.sqlite_sql.specs.Ops.{unary}
use Rattle.sqlite_sql.specs.Query.{IsAnswer}
use Rattle.sqlite_sql.specs.Program.{overlay}
use Rattle.sqlite_schema.specs.declared.command.Source.TheVariants.{Values}
use Rattle.sqlite_schema.specs.declared.command.Command.TheVariants.{Insert, Delete, CreateTable, Nothing}
use Rattle.sqlite_schema.specs.declared.schema.Kind.TheVariants as kind
use Rattle.sqlite_schema.specs.declared.schema.Schema.{Schema}
use Rattle.sqlite_rules.specs.declared.error.Rowids.TheVariants.{Chosen, Given}
use Rattle.sqlite_rules.specs.Edit.{edit_of, edited, without_all}
use Rattle.sqlite_rules.specs.Calls.{ids_of}
use Rattle.sqlite_rules.specs.Cast.{cast}
use Rattle.sqlite_catalog.specs.Change.{created, next_tree, KeepsRows}
use Rattle.sqlite.specs.Values.{or_null}
use Rattle.sqlite.specs.Does.{Tally, Does, lacks_sequence}
use Rattle.sqlite.specs.Rows.{Written}
use Rattle.sqlite.specs.Listing.{understood}
use Rattle.sqlite.specs.Effect.{Database, Answers}
use Rattle.sqlite.specs.State.{State, mode_of, Writes, Executes, IsUnchanged}
use Rattle.sqlite.proofs.Callers.{runs_as, one_step, statement_of}
use Rattle.wm_keeper.specs.declared.row.Row.{Row}
use Rattle.wm_sqlite.specs.Held.{tables_in, with_cells}
use Rattle.wm_columns.specs.Values.{values_of}
use Rattle.wm_sqlite.specs.Table.{both_schema, cells, no_schema, work, work2, work_schema}
use Rattle.wm_sqlite.specs.Texts.{create_text, create2_text, delete_text, delete2_text, insert_text}
use Rattle.wm_sqlite.proofs.TextReadings.{terms, chosen, program, create_is, create_plain, create_again_is, create_again_plain, create2_is, create2_plain}
use Rattle.wm_sqlite.proofs.TextReadings.{insert_is, insert_plain, delete_is, delete_plain, delete2_is, delete2_plain}

-- a part that gave a value did not stop on the way
went : {B E R : Type 0} {b : B} {Stops : E → Type 0} → ((stop : E) × Stops stop × (Ok b ≡ Err stop)) ⊎ R → R
went (inl stopped) = absurd (let e = stopped.2 in cc)
went (inr on) = on

same_value : {B E : Type 0} {a b : B} → ◌≡◌ {A = Result B E} (Ok a) (Ok b) → a ≡ b
same_value e = cc

either : (b : Bool) (x : Value) → cond b x x ≡ x
either true x = refl
either false x = refl

cast_int : (n : ℤ) → cast kind.Integer (Int n) ≡ Int n
unfolding unary
cast_int n = either _ (Int n)

cast_null : cast kind.Integer Null ≡ Null
unfolding unary
cast_null = either _ Null

cast_text : (o : Option (List ℕ)) → cast kind.Text (or_null Text o) ≡ or_null Text o
cast_text None = refl
cast_text (Some t) = refl

-- the two tables stand at different places
first≢second : ◌≢◌ {A = ℕ} 0 1
first≢second e = omega (arith, e)

-- where there is nothing `work` is made, with no row
pub makes : (old new : State) (count : ℕ) → old.now.schema ≡ no_schema → Executes create_text [] old new (Ok count)
    → (new.now.schema ≡ work_schema) × (new.now.trees 0 ≡ [])
makes old new count has h =
    let ran = runs_as create_text [] old new no_schema has CreateTable create_is.0 create_plain count h in
    let w = subst (λ t. Writes old new None CreateTable t [] count) create_is.1 ran in
    let all = went w.changed in
    let first = went all.1 in
    let made = first.1 in
    let both : Ok made.table ≡ Ok work = sym made.defined ∙ create_is.2 in
    let same : made.table ≡ work = cc in
    let schema : first.0.schema ≡ work_schema = made.is ∙ ap (λ s. created s made.table) has ∙ ap (created no_schema) same in
    let plain : lacks_sequence first.0.schema ≡ false = ap lacks_sequence schema in
    let now : new.now ≡ first.0 = ap (λ (p : Tally × Database). p.1) (same_value all.2) ∙ same_value (rw plain at first.2) in
    (ap (λ (d : Database). d.schema) now ∙ schema, ap (λ (d : Database). d.trees 0) now ∙ subst (λ s. first.0.trees (next_tree s) ≡ []) has made.empty)

-- where `work` is nothing is done
pub makes_again : (old new : State) (count : ℕ) → old.now.schema ≡ work_schema → Executes create_text [] old new (Ok count) → IsUnchanged old new
makes_again old new count has h = (runs_as create_text [] old new work_schema has Nothing create_again_is create_again_plain count h).0

-- where `work` is, `work2` is made beside it, with no row
pub makes2 : (old new : State) (count : ℕ) → old.now.schema ≡ work_schema → Executes create2_text [] old new (Ok count)
    → (new.now.schema ≡ both_schema) × (tables_in new.now.trees ≡ (old.now.trees 0, []))
makes2 old new count has h =
    let ran = runs_as create2_text [] old new work_schema has CreateTable create2_is.0 create2_plain count h in
    let w = subst (λ t. Writes old new None CreateTable t [] count) create2_is.1 ran in
    let all = went w.changed in
    let first = went all.1 in
    let made = first.1 in
    let both : Ok made.table ≡ Ok (record work2 { tree = 0 }) = sym made.defined ∙ create2_is.2 in
    let same : made.table ≡ record work2 { tree = 0 } = cc in
    let schema : first.0.schema ≡ both_schema = made.is ∙ ap (λ s. created s made.table) has ∙ ap (created work_schema) same in
    let plain : lacks_sequence first.0.schema ≡ false = ap lacks_sequence schema in
    let now : new.now ≡ first.0 = ap (λ (p : Tally × Database). p.1) (same_value all.2) ∙ same_value (rw plain at first.2) in
    let kept : first.0.trees 0 ≡ old.now.trees 0 = (subst (λ (s : Schema). KeepsRows s.tables old.now.trees first.0.trees) has made.others).0 in
    let empty : first.0.trees 1 ≡ [] = subst (λ s. first.0.trees (next_tree s) ≡ []) has made.empty in
    (ap (λ (d : Database). d.schema) now ∙ schema, ap (λ (d : Database). tables_in d.trees) now ∙ ap₂ (λ one two. (one, two)) kept empty)

-- the row is put into `work2` under its number
pub puts : (old new : State) (row : Row) (prior tags : List ℕ) (count : ℕ) → old.now.schema ≡ both_schema
    → Executes insert_text (values_of row prior tags) old new (Ok count)
    → (new.now.schema ≡ both_schema) × (tables_in new.now.trees ≡ with_cells (cells (values_of row prior tags)) (tables_in old.now.trees))
puts old new row prior tags count has h =
    let params = values_of row prior tags in
    let db = old.now.trees in
    let command = Insert 1 (Values terms 28) in
    let w = runs_as insert_text params old new both_schema has command insert_is insert_plain count h in
    let text = statement_of insert_text (understood both_schema insert_text) in
    let Made : Schema → Type 0 = λ s. Does old.step_limit (mode_of old) params (record old.now { schema = s }) text None command (Ok (w.tally, new.now)) in
    let done = went (subst Made has w.changed) in
    let now = ap (λ (p : Tally × Database). p.1) (same_value (went (went done.2).2).2) in
    let given = went done.1 in
    let written = went (went given.2).2 in
    let counted = went written.2 in
    let trees : done.0.trees ≡ written.0 = ap (λ (it : Written). it.trees) (same_value counted.2) ∙ same_value counted.1 in
    let applied = one_step both_schema _ db written.0 (edit_of db work2 [] Chosen 0 given.0) refl written.1 in
    let edit : edited db (edit_of db work2 [] Chosen 0 given.0) ≡ put_row (cells params) (db 1) =
    ap (λ all. edited db (edit_of db work2 [] Chosen 0 all)) given.1.1
    ∙ rw (
      cast_int row.version,
      cast_int row.seq,
      cast_int row.kind,
      cast_int row.period,
      cast_int row.flex,
      cast_int row.delay,
      cast_int row.policy,
      cast_int row.wait,
      cast_int row.merger,
      cast_int row.network,
      cast_int row.flags,
      cast_int row.phase,
      cast_int row.attempt,
      cast_int row.backoff_n,
      cast_int row.runs,
      cast_int row.generation,
      cast_int row.enqueued_at,
      cast_int row.next_at,
      cast_int row.keep_for,
      cast_int row.finished_at,
      cast_null,
      cast_text row.name,
    ) refl in
    let other : written.0 0 ≡ db 0 = applied.tables.0 first≢second in (
      ap (λ (d : Database). d.schema) now,
      ap (λ (d : Database). tables_in d.trees) now ∙ ap tables_in trees ∙ ap₂ (λ one two. (one, two)) other (applied.rows ∙ edit),
    )

-- what DELETE leaves of the database, where its condition's answer was these rows of the table at this place
abbrev pub RemovesAnswer : ℕ → ℤ → Trees → Trees → Type 0
RemovesAnswer place n old new =
    (rows : List Cells) × IsAnswer (chosen place) (overlay old []) (Int n ∷ []) rows × (new place ≡ without_all (old place) (ids_of rows))

-- the rows are taken out of `work` whose numbers the condition's answer has
pub removes_answer : (old new : State) (n : ℤ) (count : ℕ) → old.now.schema ≡ both_schema → Executes delete_text (Int n ∷ []) old new (Ok count)
    → (new.now.schema ≡ both_schema) × RemovesAnswer 0 n old.now.trees new.now.trees × (new.now.trees 1 ≡ old.now.trees 1)
removes_answer old new n count has h =
    let params = Int n ∷ [] in
    let db = old.now.trees in
    let command = Delete 0 (program (chosen 0)) in
    let w = runs_as delete_text params old new both_schema has command delete_is delete_plain count h in
    let text = statement_of delete_text (understood both_schema delete_text) in
    let Made : Schema → Type 0 = λ s. Does old.step_limit (mode_of old) params (record old.now { schema = s }) text None command (Ok (w.tally, new.now)) in
    let done = went (subst Made has w.changed) in
    let now = ap (λ (p : Tally × Database). p.1) (same_value (went (went done.2).2).2) in
    let given = went done.1 in
    let written = went given.2 in
    let trees : done.0.trees ≡ written.0 = ap (λ (it : Written). it.trees) (same_value written.2) in
    let applied = one_step both_schema _ db written.0 (edit_of db work (ids_of given.0) Given 0 []) refl written.1 in
    let answer : Answers (record { schema = both_schema; trees = db }) (program (chosen 0)) params given.0 = given.1 in
    let after : (t : ℕ) → new.now.trees t ≡ written.0 t = λ t. ap (λ (d : Database). d.trees t) now ∙ ap (λ (all : Trees). all t) trees in
    (ap (λ (d : Database). d.schema) now, (given.0, answer.answer Null, after 0 ∙ applied.rows), after 1 ∙ applied.tables.1.0 (λ e. first≢second (sym e)))

-- and likewise out of `work2`
pub removes2_answer : (old new : State) (n : ℤ) (count : ℕ) → old.now.schema ≡ both_schema → Executes delete2_text (Int n ∷ []) old new (Ok count)
    → (new.now.schema ≡ both_schema) × RemovesAnswer 1 n old.now.trees new.now.trees × (new.now.trees 0 ≡ old.now.trees 0)
removes2_answer old new n count has h =
    let params = Int n ∷ [] in
    let db = old.now.trees in
    let command = Delete 1 (program (chosen 1)) in
    let w = runs_as delete2_text params old new both_schema has command delete2_is delete2_plain count h in
    let text = statement_of delete2_text (understood both_schema delete2_text) in
    let Made : Schema → Type 0 = λ s. Does old.step_limit (mode_of old) params (record old.now { schema = s }) text None command (Ok (w.tally, new.now)) in
    let done = went (subst Made has w.changed) in
    let now = ap (λ (p : Tally × Database). p.1) (same_value (went (went done.2).2).2) in
    let given = went done.1 in
    let written = went given.2 in
    let trees : done.0.trees ≡ written.0 = ap (λ (it : Written). it.trees) (same_value written.2) in
    let applied = one_step both_schema _ db written.0 (edit_of db work2 (ids_of given.0) Given 0 []) refl written.1 in
    let answer : Answers (record { schema = both_schema; trees = db }) (program (chosen 1)) params given.0 = given.1 in
    let after : (t : ℕ) → new.now.trees t ≡ written.0 t = λ t. ap (λ (d : Database). d.trees t) now ∙ ap (λ (all : Trees). all t) trees in
    (ap (λ (d : Database). d.schema) now, (given.0, answer.answer Null, after 1 ∙ applied.rows), after 0 ∙ applied.tables.0 first≢second)
