-- Where a connection rests once a transaction is over.
use Rattle.sqlite.specs.Effect.{Database}
use Rattle.sqlite.specs.Held.{Held, state}
use Rattle.sqlite.specs.State.{IsRolledBack, Shows}
use Rattle.sqlite.specs.Steps.{FailsToCommit}
use Rattle.sqlite.specs.declared.error.Error.{Error}
use Rattle.sqlite_trees.specs.View.{doubt}
use Rattle.sqlite_trees.specs.declared.store.Store.{Ghosts}
use Rattle.sqlite_schema.specs.declared.schema.Schema.{Schema}
use Rattle.std.proofs.Common.{◌≡◌, ◌≤◌, ℕ, Bool, true, false, List, Result, Ok, Err, IsTrue, IfOk, OnOk, OnErr, refl, sym, ap, ◌∙◌, subst, inl, inr, true≢false, arith}
use Rattle.wm_keeper.specs.declared.row.Row.{Row}
use Rattle.wm_sqlite.specs.Resting.{AreHeld, Holds, Rests, RestsStill, RestsWith}
use Rattle.wm_sqlite.specs.Standing.{Stands, StandsWith}
use Rattle.wm_sqlite.specs.Held.{tables_in, Tables}
use Rattle.wm_sqlite.specs.Table.{both_schema}
use Rattle.wm_sqlite.specs.declared.standing.Spread.{Spread}

-- ---- answers

pub on_ok : {T E P : Type 0} (r : Result T E) → P → OnOk r P
on_ok (Ok x) p = p
on_ok (Err e) p = tt

-- an answer with the value of another
pub if_ok_from : {T E F : Type 0} (P : T → Type 0) (r : Result T E) (s : Result T F) → IfOk s (λ x. r ≡ Ok x) → IfOk r P → IfOk s P
if_ok_from P r (Ok x) same p = subst (λ one. IfOk one P) same p
if_ok_from P r (Err e) same p = tt

pub on_err : {T E P : Type 0} (r : Result T E) → P → OnErr r P
on_err (Ok x) p = tt
on_err (Err e) p = p

pub on_err_map : {T E P Q : Type 0} (r : Result T E) → OnErr r P → (P → Q) → OnErr r Q
on_err_map (Ok x) p f = tt
on_err_map (Err e) p f = f p

-- what holds whatever is answered
pub by_answer : {T E P Q R : Type 0} (r : Result T E) → OnOk r P → OnErr r Q → (P → R) → (Q → R) → R
by_answer (Ok x) p q f g = f p
by_answer (Err e) p q f g = g q

pub on_ok_then : {T E P Q : Type 0} (r : Result T E) → OnOk r P → (P → Q) → OnOk r Q
on_ok_then (Ok x) p f = f p
on_ok_then (Err e) p f = tt

pub if_ok_then : {T E : Type 0} (P Q : T → Type 0) (r : Result T E) → IfOk r P → ((x : T) → P x → Q x) → IfOk r Q
if_ok_then P Q (Ok x) p f = f x p
if_ok_then P Q (Err e) p f = tt

-- ---- a disk

-- a store is shut as soon as its disk returned something else than was written
pub open-clean : (clean open_now : Bool) → (clean ≡ false → open_now ≡ false) → IsTrue open_now → doubt clean ≡ 0
unfolding doubt
open-clean true open_now shut up = refl
open-clean false open_now shut up = absurd (true≢false (sym up ∙ shut refl))

-- so what it returns is what was written as long as that is so later
pub was-clean : {n m : ℕ} → n ≤ m → m ≡ 0 → n ≡ 0
was-clean below is = omega (arith, below, is)

-- ---- transactions

module _ {A : Type 0} (g : Ghosts A) where
  -- a transaction begins where the connection rests
  pub begins : (schema : Schema) (old : Held A) → Rests g schema old → Stands g schema (state g old).committed (record old { in_transaction = true })
  begins schema old rests = record { is_open = rests.is_open; begun = record { mode = refl; origin = refl }; schema_is = rests.schema_is }

  pub begins-both : (old : Held A) → Rests g both_schema old
      → StandsWith g (state g old).committed (tables_in (state g old).now.trees) (record old { in_transaction = true })
  begins-both old rests = record { stands = begins both_schema old rests; tables_are = refl }

  pub begins-with : (spread : Spread) (rows : List Row) (old : Held A) → RestsWith g spread rows old
      → Holds g spread (state g old).committed rows (record old { in_transaction = true })
  begins-with spread rows old with =
      record { tables = tables_in (state g old).now.trees; stands = begins-both old with.rests; are_held = with.are_held }

  -- and where it is undone it rests there again
  pub undoes : (schema : Schema) (first old new : Held A) → (state g old).committed ≡ (state g first).committed → IsTrue (state g new).is_open
      → IsRolledBack (state g old) (state g new) → RestsStill g schema first new
  undoes schema first old new same up back rests =
      let now : (state g new).now ≡ (state g first).committed = (back.undone up).0 ∙ same in
      let committed : (state g new).committed ≡ (state g first).committed = (back.undone up).1 ∙ same in
      let again : (state g new).now ≡ (state g first).now = now ∙ sym rests.settled in (
        record {
          is_open = up;
          mode = back.autocommit;
          schema_is = ap (λ (d : Database). d.schema) again ∙ rests.schema_is;
          settled = now ∙ sym committed;
        },
        again,
      )

  -- a commit that fails undoes its transaction
  pub fails-back : (old new : Held A) (e : Error) → (state g old).in_transaction ≡ true → FailsToCommit (state g old) (state g new) e
      → IsRolledBack (state g old) (state g new)
  fails-back old new e mode why = elim why [
    | inl failed ↦ failed.3
    | inr outside ↦ absurd (true≢false (sym mode ∙ outside.1))
  ]

  -- one that is made rests at what the transaction saw
  pub commits : (base : Database) (tables : Tables) (old new : Held A) → StandsWith g base tables old
      → Shows (state g old) (state g new) (state g old).now (state g old).now false
      → Rests g both_schema new × (tables_in (state g new).now.trees ≡ tables)
  commits base tables old new stands shown = (
    record {
      is_open = shown.is_open;
      mode = shown.mode;
      schema_is = ap (λ (d : Database). d.schema) shown.now_is ∙ stands.stands.schema_is;
      settled = shown.now_is ∙ sym shown.committed_is;
    },
    ap (λ (d : Database). tables_in d.trees) shown.now_is ∙ stands.tables_are,
  )

  pub commits-with : (spread : Spread) (base : Database) (rows : List Row) (old new : Held A) → Holds g spread base rows old
      → Shows (state g old) (state g new) (state g old).now (state g old).now false → RestsWith g spread rows new
  commits-with spread base rows old new holds shown =
      let made = commits base holds.tables old new holds.stands shown in
      record { rests = made.0; are_held = subst (AreHeld spread rows) (sym made.1) holds.are_held }
