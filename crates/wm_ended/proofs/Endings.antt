-- Why a session ends as it does, by the trouble of its table or its last write.
use Rattle.std.proofs.Common.{◌≡◌, ℕ, Option, Some, None, Result, Ok, Err, OnOk, refl}
use Rattle.wm_ended.specs.Causes.{ended_by}
use Rattle.wm_ended.specs.Ended.{IsSessionStatus}
use Rattle.wm_ended.specs.declared.status.Status.TheVariants as status
use Rattle.wm_faults.specs.Faults.{Failed}
use Rattle.wm_io.specs.Writing.{WriteCause}
use Rattle.wm_io.specs.declared.writing.WriteFault.{WriteFault}
use Rattle.wm_io.specs.declared.writing.WriteFault.TheVariants as fault
use Rattle.wm_engine.specs.declared.trouble.Trouble.{Trouble}
use Rattle.wm_engine.specs.declared.trouble.Trouble.TheVariants as trouble

-- it is done only where no trouble was met, and all was written
pub done-none : (met : Option Trouble) (written : Result (Unit {0}) WriteFault) → ended_by met written ≡ status.Done → met ≡ None
done-none None written is = refl
done-none (Some trouble.KeeperFault) written is = absurd cc
done-none (Some trouble.Memory) written is = absurd cc

pub done-written : (P : Type 0) (met : Option Trouble) (written : Result (Unit {0}) WriteFault) → OnOk written P → ended_by met written ≡ status.Done → P
done-written P None (Ok done) all is = all
done-written P None (Err fault.Failed) all is = absurd cc
done-written P None (Err fault.Memory) all is = absurd cc
done-written P (Some trouble.KeeperFault) written all is = absurd cc
done-written P (Some trouble.Memory) written all is = absurd cc

pub keeper-met : (met : Option Trouble) (written : Result (Unit {0}) WriteFault) → ended_by met written ≡ status.KeeperFault
    → met ≡ Some trouble.KeeperFault
keeper-met None (Ok done) is = absurd cc
keeper-met None (Err fault.Failed) is = absurd cc
keeper-met None (Err fault.Memory) is = absurd cc
keeper-met (Some trouble.KeeperFault) written is = refl
keeper-met (Some trouble.Memory) written is = absurd cc

pub sink-failed : (met : Option Trouble) (written : Result (Unit {0}) WriteFault) (before now : ℕ) → WriteCause written before now
    → ended_by met written ≡ status.SinkFault → Failed before now
sink-failed None (Ok done) before now cause is = absurd cc
sink-failed None (Err fault.Failed) before now cause is = cause
sink-failed None (Err fault.Memory) before now cause is = absurd cc
sink-failed (Some trouble.KeeperFault) written before now cause is = absurd cc
sink-failed (Some trouble.Memory) written before now cause is = absurd cc

pub session-status : (met : Option Trouble) (written : Result (Unit {0}) WriteFault) → IsSessionStatus (ended_by met written)
session-status None (Ok done) = tt
session-status None (Err fault.Failed) = tt
session-status None (Err fault.Memory) = tt
session-status (Some trouble.KeeperFault) written = tt
session-status (Some trouble.Memory) written = tt
