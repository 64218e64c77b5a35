-- What a connection rests at once a transaction, which began where it rested, is over.
use Rattle.sqlite.specs.Effect.{Database}
use Rattle.sqlite.specs.Held.{Held, state}
use Rattle.sqlite.specs.State.{HasCleanDisk, IsRolledBack}
use Rattle.sqlite.specs.Steps.{FailsToCommit}
use Rattle.sqlite.specs.declared.error.Error.{Error}
use Rattle.sqlite_schema.specs.declared.schema.Schema.{Schema}
use Rattle.sqlite_trees.specs.Tree.{Trees}
use Rattle.sqlite_trees.specs.declared.store.Store.{Ghosts}
use Rattle.std.proofs.Common.{◌≡◌, true, List, Result, Ok, Err, IsTrue, IfErr, OnErr, refl, sym, subst, inl, inr}
use Rattle.std.specs.Borrow.{MutBor}
use Rattle.wm_keeper.specs.declared.row.Row.{Row}
use Rattle.wm_sqlite.proofs.Rests.{begins, begins-with, by_answer, fails-back, undoes}
use Rattle.wm_sqlite.specs.Held.{tables_in}
use Rattle.wm_sqlite.specs.Resting.{AreHeld, Holds, Rests, RestsStill, RestsWith}
use Rattle.wm_sqlite.specs.Standing.{HasBegun, Stands}
use Rattle.wm_sqlite.specs.Steps.{IsStep}
use Rattle.wm_sqlite.specs.Table.{both_schema}
use Rattle.wm_sqlite.specs.declared.standing.Spread.{Spread}

module _ {A : Type 0} (g : Ghosts A) where
  -- a database of any schema rests as it did
  abbrev pub StillRests : Held A → Held A → Type 0
  StillRests old new = HasCleanDisk (state g new) → IsTrue (state g new).is_open → (schema : Schema) → RestsStill g schema old new

  -- and so with its rows
  pub still-with : (spread : Spread) (rows : List Row) (old new : Held A) → RestsStill g both_schema old new → RestsWith g spread rows old
      → RestsWith g spread rows new
  still-with spread rows old new still with =
      let again = still with.rests in
      record { rests = again.0; are_held = subst (λ (d : Database). AreHeld spread rows (tables_in d.trees)) (sym again.1) with.are_held }

  -- the same connection has the same disk
  pub clean-at : {h k : Held A} → h ≡ k → HasCleanDisk (state g k) → HasCleanDisk (state g h)
  clean-at same clean = subst (λ h. HasCleanDisk (state g h)) (sym same) clean

  module _ (old : Held A) (first mid : MutBor (Held A)) (begun : first.now ≡ record old { in_transaction = true }) where
    start : HasBegun g (state g old).committed first.now
    start = subst (HasBegun g (state g old).committed) (sym begun) (record { mode = refl; origin = refl })

    -- it began at what rested there
    pub began : (schema : Schema) → Rests g schema old → Stands g schema (state g old).committed first.now
    began schema rests = subst (Stands g schema (state g old).committed) (sym begun) (begins g schema old rests)

    pub began-with : (spread : Spread) (rows : List Row) → RestsWith g spread rows old → Holds g spread (state g old).committed rows first.now
    began-with spread rows rests = subst (Holds g spread (state g old).committed rows) (sym begun) (begins-with g spread rows old rests)

    -- a crash after its steps leaves what it could leave before
    pub left-before : {T E : Type 0} {Did : Held A → Held A → Type 0} {r : Result T E} (left : Trees) → IsStep g Did r first mid → HasCleanDisk (state g mid.now)
        → (state g mid.now).may_leave left → (state g old).may_leave left
    left-before left step clean may = elim (step.survives.crash clean left may) [
      | inl before ↦ subst (λ h. (state g h).may_leave left) begun before
      | inr none ↦ absurd none
    ]

    -- where it is undone
    pub undone-still : {T E : Type 0} {Did : Held A → Held A → Type 0} (r : Result T E) (end : Held A) → IsStep g Did r first mid
        → (HasCleanDisk (state g end) → HasCleanDisk (state g mid.now)) → (HasCleanDisk (state g end) → IsRolledBack (state g mid.now) (state g end))
        → StillRests old end
    undone-still r end step early undone clean up schema =
        let back = undone clean in
        let base = (state g old).committed in
        let origin : (state g mid.now).committed ≡ base =
        by_answer r (step.goes_on (early clean)) step.err (λ goes. (goes base start).origin) (λ leaves. leaves (early clean) (back.was_open up) base start) in
        undoes g schema old mid.now end origin up back

    -- and where its commit fails
    pub failed-still : {T E : Type 0} {Did : Held A → Held A → Type 0} {x : T} (r : Result (Unit {0}) Error) (end : Held A) → IsStep g {T = T} {E = E} Did (Ok x) first mid
        → (HasCleanDisk (state g end) → HasCleanDisk (state g mid.now))
        → (HasCleanDisk (state g end) → IfErr r (FailsToCommit (state g mid.now) (state g end))) → OnErr r (StillRests old end)
    failed-still (Ok done) end step early fails = tt
    failed-still (Err e) end step early fails = λ clean up schema.
        let goes = step.goes_on (early clean) (state g old).committed start in
        undoes g schema old mid.now end goes.origin up (fails-back g mid.now end e goes.mode (fails clean))
