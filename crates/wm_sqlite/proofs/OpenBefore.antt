-- A connection that is open after a call of a transaction was open before it.
use Rattle.sqlite.specs.Held.{Held, state}
use Rattle.sqlite.specs.State.{State, ExecutesInside, FailsToQuery, IsTooLate, Shown, ShowsRows}
use Rattle.sqlite.specs.declared.error.Error.{Error}
use Rattle.sqlite_resolve.specs.declared.compiled.Compiled.{Compiled}
use Rattle.sqlite_schema.specs.declared.command.Returning.{Returning}
use Rattle.sqlite_trees.specs.declared.store.Store.{Ghosts}
use Rattle.sqlite_value.specs.Order.{Row}
use Rattle.std.proofs.Common.{◌≡◌, ◌⊎◌, ℕ, Bool, true, false, List, Option, Some, None, Result, Ok, Err, Vec, IsTrue, IfOk, IfErr, OnOk, refl, subst}
use Rattle.std.specs.declared.alloc.Global.{Global}
use Rattle.wm_sqlite.proofs.TextTurns.{left-open, refused, unread}

module _ (old new : State) (sql : List ℕ) (params : Row) where
  shown : (c : Compiled) (given : Row) (rows : List Row) (returning : Option Returning) → ShowsRows old new sql c given rows returning → IsTrue old.is_open
  shown c given rows None is = is.3.0.was_open
  shown c given rows (Some what) is = is.1.shown.was_open

  shown-open : (rows : List Row) → Shown sql params old new rows → IsTrue old.is_open
  unfolding Shown
  shown-open rows is = shown is.0 _ rows is.0.returning is.2

  -- a query that was answered or refused
  pub read-open : (r : Result (Vec Row Global) Error) → IfOk r (λ rows. Shown sql params old new rows.items)
      → IfErr r (λ e. FailsToQuery sql params old new e ⊎ IsTooLate sql params old new e) → IsTrue new.is_open → IsTrue old.is_open
  read-open (Ok rows) is why up = shown-open rows.items is
  read-open (Err e) is why up = left-open old new (unread old new sql params e why) up

  inside-open : (r : Result ℕ Error) → ExecutesInside 0 sql params old new r → IsTrue new.is_open → IsTrue old.is_open
  inside-open (Ok count) ran up = ran.1.was_open
  inside-open (Err e) ran up = left-open old new (refused old new sql params e ran) up

-- a statement that ran, or came too late
pub ran-open : {A : Type 0} (g : Ghosts A) (old new : Held A) (sql : List ℕ) (params : Row) (r : Result ℕ Error)
    → ((state g old).in_transaction ≡ false → new ≡ old)
    → (IsTrue (state g old).in_transaction → ExecutesInside 0 sql params (state g old) (state g new) r)
    → IsTrue (state g new).is_open → IsTrue (state g old).is_open
ran-open g old new sql params r late ran up = go (state g old).in_transaction refl
  where
    go : (mode : Bool) → (state g old).in_transaction ≡ mode → IsTrue (state g old).is_open
    go true is = inside-open (state g old) (state g new) sql params r (ran (rw is refl)) up
    go false is = subst (λ h. IsTrue (state g h).is_open) (late is) up

-- a statement that was run, and so didn't come too late
pub ran-opened : {A : Type 0} (g : Ghosts A) (old new : Held A) (sql : List ℕ) (params : Row) (late : Error) (r : Result ℕ Error)
    → ((state g old).in_transaction ≡ false → r ≡ Err late)
    → (IsTrue (state g old).in_transaction → ExecutesInside 0 sql params (state g old) (state g new) r) → OnOk r (IsTrue (state g old).is_open)
ran-opened g old new sql params late (Err e) outside ran = tt
ran-opened g old new sql params late (Ok count) outside ran = go (state g old).in_transaction refl
  where
    go : (mode : Bool) → (state g old).in_transaction ≡ mode → IsTrue (state g old).is_open
    go true is = (ran (rw is refl)).1.was_open
    go false is = let fails = outside is in absurd cc
