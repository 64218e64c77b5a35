-- Why a call of a keeper ends early, and what it answers then.
use Rattle.sqlite.specs.declared.error.Error.{Error}
use Rattle.sqlite.specs.declared.error.Error.TheVariants.{SqliteFailure}
use Rattle.sqlite.specs.declared.error.ErrorCode.TheVariants.{OutOfMemory}
use Rattle.std.specs.Prelude.{Result, Ok, Err}
use Rattle.wm_keeper.specs.declared.keeper.KeepFault.{KeepFault}
use Rattle.wm_keeper.specs.declared.keeper.KeepFault.TheVariants as fault
use Rattle.wm_sqlite.specs.declared.refusal.Refusal.{Refusal}
use Rattle.wm_sqlite.specs.declared.refusal.Refusal.TheVariants as refusal

-- memory where the database wanted for it, and else the store
abbrev pub refusal_of : Error → Refusal
refusal_of (SqliteFailure OutOfMemory) = refusal.Memory
refusal_of _ = refusal.Store

-- what a keeper answers
abbrev pub answer_of : {T : Type 0} → Result T Refusal → Result T KeepFault
answer_of (Ok value) = Ok value
answer_of (Err refusal.Store) = Err fault.Failed
answer_of (Err refusal.Memory) = Err fault.Memory
