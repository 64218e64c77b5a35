-- Which status a fault gives, and why a session ends early.
use Rattle.std.specs.Prelude.{◌≡◌, ℕ, Option, Some, None, IsNone, IfSome, Result, OnOk, IfErr}
use Rattle.wm_ended.specs.declared.status.Status.{Status}
use Rattle.wm_ended.specs.declared.status.Status.TheVariants as status
use Rattle.wm_faults.specs.Faults.{Failed}
use Rattle.wm_io.specs.declared.writing.WriteFault.{WriteFault}
use Rattle.wm_io.specs.declared.writing.WriteFault.TheVariants as fault
use Rattle.wm_session.specs.declared.book.Stop.{Stop}
use Rattle.wm_session.specs.declared.book.Stop.TheVariants as stop
use Rattle.wm_engine.specs.declared.trouble.Trouble.{Trouble}
use Rattle.wm_engine.specs.declared.trouble.Trouble.TheVariants as trouble

abbrev pub status_by_stop : Stop → Status
status_by_stop stop.KeeperFault = status.KeeperFault
status_by_stop stop.SinkFault = status.SinkFault
status_by_stop stop.Memory = status.Memory

abbrev pub stop_by_trouble : Trouble → Stop
stop_by_trouble trouble.KeeperFault = stop.KeeperFault
stop_by_trouble trouble.Memory = stop.Memory

abbrev pub stop_by_fault : WriteFault → Stop
stop_by_fault fault.Failed = stop.SinkFault
stop_by_fault fault.Memory = stop.Memory

-- a session that stopped for a fault has met one since it was given keeper and sink
abbrev pub StopCause : Option Stop → ℕ → ℕ → ℕ → ℕ → Type 0
StopCause (Some stop.KeeperFault) keeper keeper_now sink sink_now = Failed keeper keeper_now
StopCause (Some stop.SinkFault) keeper keeper_now sink sink_now = Failed sink sink_now
StopCause (Some stop.Memory) keeper keeper_now sink sink_now = Unit {0}
StopCause None keeper keeper_now sink sink_now = Unit {0}

-- how a session ends that had stopped for this, or whose last write was answered so
pub record EndsBy (stop : Option Stop) (written : Result (Unit {0}) WriteFault) (ended : Status) : Type 0 where
  pub stopped : IfSome stop (λ why. ended ≡ status_by_stop why)
  pub refused : IsNone stop → IfErr written (λ fault. ended ≡ status_by_stop (stop_by_fault fault))
  pub done : IsNone stop → OnOk written (ended ≡ status.Done)
