-- Which status a fault gives.
use Rattle.std.specs.Prelude.{Option, Some, None, Result, Ok, Err}
use Rattle.wm_ended.specs.declared.status.Status.{Status}
use Rattle.wm_ended.specs.declared.status.Status.TheVariants as status
use Rattle.wm_io.specs.declared.writing.WriteFault.{WriteFault}
use Rattle.wm_io.specs.declared.writing.WriteFault.TheVariants as fault
use Rattle.wm_keeper.specs.declared.keeper.KeepFault.{KeepFault}
use Rattle.wm_keeper.specs.declared.keeper.KeepFault.TheVariants as keep
use Rattle.wm_engine.specs.declared.trouble.BeginFault.{BeginFault}
use Rattle.wm_engine.specs.declared.trouble.BeginFault.TheVariants as begin
use Rattle.wm_engine.specs.declared.trouble.Trouble.{Trouble}
use Rattle.wm_engine.specs.declared.trouble.Trouble.TheVariants as trouble

abbrev pub status_by_begin : BeginFault → Status
status_by_begin (begin.Bad seq bad_row) = status.BadStore seq bad_row
status_by_begin begin.KeeperFault = status.KeeperFault
status_by_begin begin.Memory = status.Memory
status_by_begin begin.CommitMemory = status.Memory

abbrev pub status_by_keeper : KeepFault → Status
status_by_keeper keep.Failed = status.KeeperFault
status_by_keeper keep.Memory = status.Memory

-- how it ends where a table met this trouble, or none and the last write was answered so
abbrev pub ended_by : Option Trouble → Result (Unit {0}) WriteFault → Status
ended_by (Some trouble.KeeperFault) written = status.KeeperFault
ended_by (Some trouble.Memory) written = status.Memory
ended_by None (Ok done) = status.Done
ended_by None (Err fault.Failed) = status.SinkFault
ended_by None (Err fault.Memory) = status.Memory
