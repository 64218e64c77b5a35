-- What is handed back once all lines of callers were called, or one was refused.
use Rattle.std.specs.Prelude.{◌≡◌, true, false, Option, Some, None}
use Rattle.wm_faults.specs.Faults.{Failed}
use Rattle.wm_keeper.specs.Store.{TellsOn}
use Rattle.wm_machine.specs.Opened.{Opened}
use Rattle.wm_machine.specs.Replay.{Replay}
use Rattle.wm_seating.specs.Hands.{AreHandsBack}
use Rattle.wm_ended.specs.Ended.{IsSessionStatus, IsTextWritten}
use Rattle.wm_ended.specs.Tells.{Tells}
use Rattle.wm_ended.specs.declared.ended.Ended.{Ended}
use Rattle.wm_ended.specs.declared.status.Status.TheVariants as status
use Rattle.wm_engine.specs.Inputs.{Inputs}
use Rattle.wm_engine.specs.Rows.{HoldsRowsOf}
use Rattle.wm_engine.specs.TableState.{TableState}
use Rattle.wm_engine.specs.declared.trouble.Trouble.{Trouble}
use Rattle.wm_engine.specs.declared.trouble.Trouble.TheVariants as trouble

-- What a table hands back that is over, of what its run was given: its states and its log, which replays, with the rows kept; the text of the log was
-- written; the workers whose class wasn't retired come back. Each status has its cause: something was refused, or the sink failed.
pub record IsHandedOver {K W B : Type 0} (tells : Tells K W B) (run : Inputs) (refused : Option Trouble) (table : TableState K) (sink : W) (ended : Ended K W B)
    : Type 0 where
  pub status_is : IsSessionStatus ended.status
  pub began : ended.began ≡ true
  pub at_opening : ended.at_opening ≡ false
  pub first : ended.first ≡ table.first
  pub log : ended.log ≡ table.log
  pub last : ended.last ≡ table.state
  pub keeper_is : ended.keeper ≡ table.keeper
  pub opened : Opened run.rows run.instances ended.first
  pub replay : Replay ended.first ended.log ended.last
  pub rows : HoldsRowsOf ended.last (tells.store ended.keeper)
  pub tells_on : TellsOn run.store (tells.store ended.keeper)
  pub bytes : IsTextWritten (tells.given sink) (tells.given ended.sink) ended.status ended.first ended.log
  pub hands : AreHandsBack tells.kind_of ended.last ended.hands.items
  pub done : ended.status ≡ status.Done → refused ≡ None
  pub keeper_fault : ended.status ≡ status.KeeperFault → refused ≡ Some trouble.KeeperFault
  pub sink_fault : ended.status ≡ status.SinkFault → Failed (tells.sink_faults sink) (tells.sink_faults ended.sink)
