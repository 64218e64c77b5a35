-- What a call inside a transaction leaves of it.
use Rattle.sqlite.specs.Effect.{Database}
use Rattle.sqlite.specs.Held.{Held, state}
use Rattle.sqlite.specs.State.{HasCleanDisk, Survives}
use Rattle.sqlite_trees.specs.declared.store.Store.{Ghosts}
use Rattle.std.specs.Borrow.{MutBor}
use Rattle.std.specs.Prelude.{◌≡◌, [], Result, IsTrue, OnOk, OnErr}
use Rattle.wm_sqlite.specs.Held.{Tables}
use Rattle.wm_sqlite.specs.Resting.{WasOpen}
use Rattle.wm_sqlite.specs.Standing.{HasBegun, Stands, StandsWith}
use Rattle.wm_sqlite.specs.Table.{no_schema, work_schema}

module _ {A : Type 0} (g : Ghosts A) where
  -- a step was refused, and leaves what the transaction began at, as long as the disk returned what was written
  abbrev pub LeavesBase : Held A → Held A → Type 0
  LeavesBase old new = HasCleanDisk (state g new) → IsTrue (state g new).is_open → (base : Database) → HasBegun g base old → (state g new).committed ≡ base

  -- A step of a transaction, which commits nothing: where it is answered it did this, and the transaction goes on.
  pub record IsStep {T E : Type 0} (Did : Held A → Held A → Type 0) (result : Result T E) (old new : MutBor (Held A)) : Type 0 where
    pub same_reference : new.ghost_name ≡ old.ghost_name
    pub survives : Survives (state g old.now) (state g new.now) (λ _. ⊥)
    pub was_open : WasOpen g old.now new.now
    pub goes_on : HasCleanDisk (state g new.now) → OnOk result ((base : Database) → HasBegun g base old.now → HasBegun g base new.now)
    pub ok : OnOk result (Did old.now new.now)
    pub err : OnErr result (LeavesBase old.now new.now)

  -- it makes this of the tables that meet a condition, as long as the disk returned what was written
  abbrev pub MakesWhere : (Tables → Type 0) → (Tables → Tables) → Held A → Held A → Type 0
  MakesWhere Needs change old new =
      HasCleanDisk (state g new) → (base : Database) (tables : Tables) → StandsWith g base tables old → Needs tables → StandsWith g base (change tables) new

  -- and of any
  abbrev pub MakesTables : (Tables → Tables) → Held A → Held A → Type 0
  MakesTables change old new = HasCleanDisk (state g new) → (base : Database) (tables : Tables) → StandsWith g base tables old → StandsWith g base (change tables) new

  -- it makes `work` where the database has nothing, and else leaves it as it is
  pub record MakesFirst (old new : Held A) : Type 0 where
    pub made : HasCleanDisk (state g new) → (base : Database) → Stands g no_schema base old → Stands g work_schema base new × ((state g new).now.trees 0 ≡ [])
    pub kept : HasCleanDisk (state g new) → (base : Database) → Stands g work_schema base old
        → Stands g work_schema base new × ((state g new).now.trees 0 ≡ (state g old).now.trees 0)

  -- it makes `work2` beside `work`
  abbrev pub MakesSecond : Held A → Held A → Type 0
  MakesSecond old new =
      HasCleanDisk (state g new) → (base : Database) → Stands g work_schema base old → StandsWith g base ((state g old).now.trees 0, []) new

  -- it makes both, or `work2` beside `work`
  pub record MakesBoth (old new : Held A) : Type 0 where
    pub made : HasCleanDisk (state g new) → (base : Database) → Stands g no_schema base old → StandsWith g base ([], []) new
    pub completed : MakesSecond old new
