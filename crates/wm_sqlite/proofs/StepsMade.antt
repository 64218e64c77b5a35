-- Steps of a transaction: one that is run by itself, and one after another.
use Rattle.sqlite.specs.Effect.{Database}
use Rattle.sqlite.specs.Held.{Held, state}
use Rattle.sqlite.specs.State.{State, ExecutesInside, FailsToQuery, HasCleanDisk, IsTooLate, Shown, ShowsRows, Survives}
use Rattle.sqlite.specs.declared.error.Error.{Error}
use Rattle.sqlite.proofs.StateLemmas.{survives_then}
use Rattle.sqlite_resolve.specs.declared.compiled.Compiled.{Compiled}
use Rattle.sqlite_schema.specs.declared.command.Returning.{Returning}
use Rattle.sqlite_trees.specs.declared.store.Store.{Ghosts}
use Rattle.sqlite_value.specs.Order.{Row}
use Rattle.std.proofs.Common.{◌≡◌, ◌⊎◌, ℕ, true, false, List, [], Option, Some, None, Result, Ok, Err, Vec, IsTrue, IfOk, IfErr, IsErr, OnOk, ap, ◌∙◌, if◌then◌else◌}
use Rattle.std.specs.Borrow.{MutBor}
use Rattle.std.specs.declared.alloc.Global.{Global}
use Rattle.wm_sqlite.proofs.OpenBefore.{ran-open, read-open}
use Rattle.wm_sqlite.proofs.Rests.{on_err_map, on_ok_then, was-clean}
use Rattle.wm_sqlite.proofs.TextTurns.{left-committed, left-open, refuses, selects_none, IsLeft}
use Rattle.wm_sqlite.specs.Standing.{HasBegun}
use Rattle.wm_sqlite.specs.Steps.{IsStep}

-- a query that was answered leaves the transaction open, and what it began at
module _ (old new : State) (sql : List ℕ) where
  goes : (c : Compiled) (given : Row) (rows : List Row) (returning : Option Returning) → ShowsRows old new sql c given rows returning → old.in_transaction ≡ true
      → (new.in_transaction ≡ true) × (new.committed ≡ old.committed)
  goes c given rows None is mode = (is.3.0.mode ∙ mode, is.3.0.committed_is)
  goes c given rows (Some what) is mode =
      (is.1.shown.mode ∙ mode, is.1.shown.committed_is ∙ ap (λ inside. if inside then old.committed else new.now) mode)

  shown-goes : (params : Row) (rows : List Row) → Shown sql params old new rows → old.in_transaction ≡ true
      → (new.in_transaction ≡ true) × (new.committed ≡ old.committed)
  unfolding Shown
  shown-goes params rows is mode = goes is.0 _ rows is.0.returning is.2 mode

module _ {A : Type 0} (g : Ghosts A) where
  -- ---- one that is run

  module _ (sql : List ℕ) (params : Row) (old new : MutBor (Held A)) (same : new.ghost_name ≡ old.ghost_name)
      (survives : Survives (state g old.now) (state g new.now) (λ _. ⊥)) where
    ran-goes : (r : Result ℕ Error) → (IsTrue (state g old.now).in_transaction → ExecutesInside 0 sql params (state g old.now) (state g new.now) r)
        → OnOk r ((base : Database) → HasBegun g base old.now → HasBegun g base new.now)
    ran-goes (Err e) ran = tt
    ran-goes (Ok count) ran = λ base begun. let h = (ran begun.mode).1 in record { mode = h.mode; origin = h.committed_is ∙ begun.origin }

    -- a statement
    pub ran-step : {late : Error} {Did : Held A → Held A → Type 0} (r : Result ℕ Error)
        → ((state g old.now).in_transaction ≡ false → (r ≡ Err late) × (new.now ≡ old.now))
        → (HasCleanDisk (state g new.now) → IsTrue (state g old.now).in_transaction → ExecutesInside 0 sql params (state g old.now) (state g new.now) r)
        → OnOk r (Did old.now new.now) → IsStep g Did r old new
    ran-step r ended ran did = record {
      same_reference = same;
      survives = survives;
      was_open = λ clean. ran-open g old.now new.now sql params r (λ outside. (ended outside).1) (ran clean);
      goes_on = λ clean. ran-goes r (ran clean);
      ok = did;
      err = refuses g old.now new.now sql params r ran;
    }

  module _ (sql : List ℕ) (old new : MutBor (Held A)) where
    read-goes : (r : Result (Vec Row Global) Error) → IfOk r (λ rows. Shown sql [] (state g old.now) (state g new.now) rows.items)
        → OnOk r ((base : Database) → HasBegun g base old.now → HasBegun g base new.now)
    read-goes (Err e) is = tt
    read-goes (Ok rows) is = λ base begun. let h = shown-goes (state g old.now) (state g new.now) sql [] rows.items is begun.mode in
        record { mode = h.0; origin = h.1 ∙ begun.origin }

    -- a query
    pub read-step : {Did : Held A → Held A → Type 0} (r : Result (Vec Row Global) Error) → new.ghost_name ≡ old.ghost_name
        → Survives (state g old.now) (state g new.now) (λ _. ⊥)
        → (HasCleanDisk (state g new.now) → IfOk r (λ rows. Shown sql [] (state g old.now) (state g new.now) rows.items))
        → (HasCleanDisk (state g new.now)
        → IfErr r (λ e. FailsToQuery sql [] (state g old.now) (state g new.now) e ⊎ IsTooLate sql [] (state g old.now) (state g new.now) e))
        → OnOk r (Did old.now new.now) → IsStep g Did r old new
    read-step r same survives is why did = record {
      same_reference = same;
      survives = survives;
      was_open = λ clean. read-open (state g old.now) (state g new.now) sql [] r (is clean) (why clean);
      goes_on = λ clean. read-goes r (is clean);
      ok = did;
      err = selects_none g old.now new.now sql r why;
    }

  -- a text that is prepared and not run
  pub prepared-step : {T : Type 0} {Did : Held A → Held A → Type 0} (r : Result T Error) (old new : MutBor (Held A)) → new.ghost_name ≡ old.ghost_name
      → Survives (state g old.now) (state g new.now) (λ _. ⊥) → (HasCleanDisk (state g new.now) → IsLeft (state g old.now) (state g new.now)) → IsErr r
      → IsStep g Did r old new
  prepared-step (Ok x) old new same survives left is = absurd cc
  prepared-step (Err e) old new same survives left is = record {
    same_reference = same;
    survives = survives;
    was_open = λ clean. left-open (state g old.now) (state g new.now) (left clean);
    goes_on = λ clean. tt;
    ok = tt;
    err = λ clean up base begun. left-committed (state g old.now) (state g new.now) (left clean) up ∙ begun.origin;
  }

  -- ---- one after another

  -- a step did what follows from what it did
  pub step-map : {T E : Type 0} {Did Also : Held A → Held A → Type 0} (r : Result T E) (old new : MutBor (Held A)) → IsStep g Did r old new
      → (Did old.now new.now → Also old.now new.now) → IsStep g Also r old new
  step-map r old new one also = record {
    same_reference = one.same_reference;
    survives = one.survives;
    was_open = one.was_open;
    goes_on = one.goes_on;
    ok = on_ok_then r one.ok also;
    err = one.err;
  }

  -- one that is refused is refused, whatever it was to do and to answer
  pub step-refused : {T U E F : Type 0} {Did Also : Held A → Held A → Type 0} {e : E} (r : Result U F) (old new : MutBor (Held A)) → IsErr r
      → IsStep g {T = T} {E = E} Did (Err e) old new → IsStep g Also r old new
  step-refused (Ok x) old new is one = absurd cc
  step-refused (Err f) old new is one = record {
    same_reference = one.same_reference;
    survives = one.survives;
    was_open = one.was_open;
    goes_on = λ clean. tt;
    ok = tt;
    err = one.err;
  }

  -- one that is answered is that, whatever the answer
  pub step-answered : {T U E F : Type 0} {Did : Held A → Held A → Type 0} {x : T} {y : U} (old new : MutBor (Held A))
      → IsStep g {T = T} {E = E} Did (Ok x) old new → IsStep g {T = U} {E = F} Did (Ok y) old new
  step-answered old new one = record {
    same_reference = one.same_reference;
    survives = one.survives;
    was_open = one.was_open;
    goes_on = one.goes_on;
    ok = one.ok;
    err = tt;
  }

  -- and after one that was answered comes another
  pub step-then : {T U E F : Type 0} {Did Next Both : Held A → Held A → Type 0} {x : T} (r : Result U F) (old mid new : MutBor (Held A))
      → IsStep g {T = T} {E = E} Did (Ok x) old mid → IsStep g Next r mid new
      → ((HasCleanDisk (state g new.now) → HasCleanDisk (state g mid.now)) → Did old.now mid.now → Next mid.now new.now → Both old.now new.now) → IsStep g Both r old new
  step-then r old mid new one two both =
      let early : HasCleanDisk (state g new.now) → HasCleanDisk (state g mid.now) = λ clean. was-clean two.survives.clean clean in
      record {
        same_reference = two.same_reference ∙ one.same_reference;
        survives = survives_then (state g old.now) (state g mid.now) (state g new.now) _ _ (λ _. ⊥) (λ _ left none. none) (λ _ left none. none) one.survives two.survives;
        was_open = λ clean up. one.was_open (early clean) (two.was_open clean up);
        goes_on = λ clean. on_ok_then r (two.goes_on clean) (λ goes base begun. goes base (one.goes_on (early clean) base begun));
        ok = on_ok_then r two.ok (both early one.ok);
        err = on_err_map r two.err (λ leaves clean up base begun. leaves clean up base (one.goes_on (early clean) base begun));
      }

  -- which may be refused
  pub then-refused : {T E U F V G : Type 0} {Did Next Also : Held A → Held A → Type 0} {x : T} {e : F} (r : Result V G) (old mid new : MutBor (Held A)) → IsErr r
      → IsStep g {T = T} {E = E} Did (Ok x) old mid → IsStep g {T = U} {E = F} Next (Err e) mid new → IsStep g Also r old new
  then-refused {e = e} r old mid new is one two =
      let both : IsStep g (λ _ _. Unit {0}) (Err e) old new = step-then (Err e) old mid new one two (λ early did next. tt) in
      step-refused r old new is both
