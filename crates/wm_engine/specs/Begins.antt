-- What an engine or a table begins with, and why it may not.
use Rattle.std.specs.Prelude.{◌≡◌, ◌≢◌, ◌⊎◌, ℤ, Bool, true, false, if◌then◌else◌, List, IsSome, MatchBool, Result, Ok, Err}
use Rattle.wm_faults.specs.Faults as faults
use Rattle.wm_keeper.specs.Store.{Store}
use Rattle.wm_keeper.specs.declared.row.Row.{Row}
use Rattle.wm_machine.specs.Opened.{Opened}
use Rattle.wm_machine.specs.Rows.{rows_of}
use Rattle.wm_machine.specs.declared.state.State.{State}
use Rattle.wm_machine.specs.declared.state.Instance.{Instance}
use Rattle.wm_rows.specs.Sound.{checked, AreSound}
use Rattle.wm_rows.specs.declared.fault.RowFault.{RowFault}
use Rattle.wm_rows.specs.declared.fault.RowFault.TheVariants as row
use Rattle.wm_rows.specs.declared.fault.RowFault.TheVariants.{BadRow, Unsound}
use Rattle.wm_engine.specs.Images.{WouldOpen}
use Rattle.wm_steps.specs.Stored.{LeavesOnly}
use Rattle.wm_engine.specs.TableState.{TableState}
use Rattle.wm_engine.specs.declared.trouble.BeginFault.{BeginFault}
use Rattle.wm_engine.specs.declared.trouble.BeginFault.TheVariants as begin
use Rattle.wm_engine.specs.declared.trouble.Trouble.{Trouble}
use Rattle.wm_engine.specs.declared.trouble.Trouble.TheVariants as trouble

-- the fault of a row, by which its store isn't opened
abbrev pub row_fault : ℤ → Bool → RowFault
row_fault seq bad_row = if bad_row then BadRow seq else Unsound seq

-- why a table isn't begun whose rows have a fault, or whose opening commit is refused
abbrev pub begin_fault_of : RowFault → BeginFault
begin_fault_of (BadRow seq) = begin.Bad seq true
begin_fault_of (Unsound seq) = begin.Bad seq false
begin_fault_of row.Memory = begin.Memory

abbrev pub begin_trouble_of : Trouble → BeginFault
begin_trouble_of trouble.KeeperFault = begin.KeeperFault
begin_trouble_of trouble.Memory = begin.CommitMemory

-- `Bad` names the first row with a fault, and says whether it is out of form; the keeper isn't asked to commit unless the rows are sound
abbrev pub IsBeginFault : List Row → BeginFault → Type 0
IsBeginFault rows (begin.Bad seq bad_row) = checked rows ≡ Err (row_fault seq bad_row)
IsBeginFault rows begin.KeeperFault = AreSound rows
IsBeginFault rows begin.CommitMemory = AreSound rows
IsBeginFault rows begin.Memory = Unit {0}

-- these rows change where they are opened: they are sound, and the state that they open to with these instances has other ones
pub record AreChangedByOpening (rows : List Row) (instances : List Instance) : Type 0 where
  pub sound : AreSound rows
  pub first : State
  pub opened : Opened rows instances first
  pub others : rows_of first ≢ rows

-- whether the opening was being committed
abbrev pub is_at_commit : BeginFault → Bool
is_at_commit begin.KeeperFault = true
is_at_commit begin.CommitMemory = true
is_at_commit _ = false

abbrev pub is_refused_by_keeper : {T K : Type 0} → Result T (K × BeginFault) → Bool
is_refused_by_keeper (Err (keeper, begin.KeeperFault)) = true
is_refused_by_keeper _ = false

-- the keeper, which the table has or which comes back
abbrev pub keeper_after : {K : Type 0} → Result (TableState K) (K × BeginFault) → K
keeper_after (Ok table) = table.keeper
keeper_after (Err refused) = refused.0

-- `KeeperFault` comes only where the keeper's count rose, and any other answer leaves it
abbrev pub BeginCause : {K : Type 0} → (K → Store) → K → Result (TableState K) (K × BeginFault) → Type 0
BeginCause store keeper result = faults.HasCause (is_refused_by_keeper result) (store keeper).faults (store (keeper_after result)).faults

-- where the table was begun, a crash leaves just the rows of its state, where it left just the rows loaded before
abbrev pub LeavesOpened : {K : Type 0} → (K → Store) → List Row → K → TableState K → Type 0
LeavesOpened store rows keeper table = LeavesOnly rows (store keeper) → LeavesOnly (rows_of table.first) (store table.keeper)

-- a crash leaves what it could leave before, or, where rows were told, what the opening would have left
abbrev pub MayLeaveOpening : {K : Type 0} → (K → Store) → List Row → List Instance → K → K → Type 0
MayLeaveOpening store rows instances keeper now =
    (image : List Row) → (store now).images image → (store keeper).images image ⊎ (IsSome (store keeper).rows × WouldOpen rows instances image)

-- where it wasn't, the keeper is as it was, unless the opening was being committed
abbrev pub LeavesUnopened : {K : Type 0} → (K → Store) → List Row → List Instance → K → K × BeginFault → Type 0
LeavesUnopened store rows instances keeper refused =
    MatchBool (is_at_commit refused.1) (MayLeaveOpening store rows instances keeper refused.0) (refused.0 ≡ keeper)
