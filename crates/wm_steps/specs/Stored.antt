-- What a commit makes of a store, and what a crash may leave in it.
use Rattle.std.specs.Prelude.{◌≡◌, ◌⊎◌, List, Result, IfSome, IsSome, OnErr, OnOk}
use Rattle.wm_keeper.specs.Keeper.{changed, KeepCause}
use Rattle.wm_keeper.specs.Store.{changed_rows, IsAtMost, Store, TellsOn}
use Rattle.wm_keeper.specs.declared.keeper.KeepFault.{KeepFault}
use Rattle.wm_keeper.specs.declared.row.Change.{Change}
use Rattle.wm_keeper.specs.declared.row.Row.{Row}

-- a crash now leaves just these rows
abbrev pub LeavesOnly : List Row → Store → Type 0
LeavesOnly rows store = (image : List Row) → store.images image → image ≡ rows

-- the rows that are told, if any, are these
abbrev pub HoldsOnly : List Row → Store → Type 0
HoldsOnly rows store = IfSome store.rows (λ told. told ≡ rows)

-- a crash now leaves what it could leave before, or, where rows were told, these
abbrev pub LeavesBefore : List Row → Store → Store → Type 0
LeavesBefore rows before now = (image : List Row) → now.images image → before.images image ⊎ (IsSome before.rows × (image ≡ rows))

-- a commit of these changes was made: where a crash left just the rows held, it leaves just those with the changes
abbrev pub MakesImages : List Change → Store → Store → Type 0
MakesImages changes before now =
    (rows : List Row) → HoldsOnly rows before → LeavesOnly rows before → LeavesOnly (changed changes rows) now

-- it was refused: a crash leaves what it could leave before, or the rows held with the changes
abbrev pub KeepsImages : List Change → Store → Store → Type 0
KeepsImages changes before now = (rows : List Row) → HoldsOnly rows before → LeavesBefore (changed changes rows) before now

-- what a commit of these changes makes of a store, or a refusal; where there are none, the store is as it was
pub record IsStored {T : Type 0} (changes : List Change) (result : Result T KeepFault) (before now : Store) : Type 0 where
  pub ok : OnOk result (IsAtMost (changed_rows changes before) now.rows)
  pub err : OnErr result (IsAtMost before.rows now.rows)
  pub images : OnOk result (MakesImages changes before now)
  pub images_err : OnErr result (KeepsImages changes before now)
  pub cause : KeepCause result before.faults now.faults
  pub tells_on : TellsOn before now
