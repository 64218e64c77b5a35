-- How a run or a session ends: with which status, what is written, and what is handed back where no table was begun.
use Rattle.std.specs.Prelude.{◌≡◌, ℕ, Bool, false, List, [], Option, Vec}
use Rattle.std.specs.declared.alloc.Global.{Global}
use Rattle.wm_bench.specs.declared.hand.Hand.{Hand}
use Rattle.wm_ended.specs.declared.ended.Ended.{Ended}
use Rattle.wm_ended.specs.declared.status.Status.{Status}
use Rattle.wm_ended.specs.declared.status.Status.TheVariants as status
use Rattle.wm_io.specs.Writing.{IsAppended}
use Rattle.wm_machine.specs.Log.{HasPrefix}
use Rattle.wm_machine.specs.Opened.{opening_state}
use Rattle.wm_machine.specs.declared.event.Event.{Event}
use Rattle.wm_machine.specs.declared.state.State.{State}
use Rattle.wm_texts.specs.Texts.{log_text}

-- how a session ends
abbrev pub IsSessionStatus : Status → Type 0
IsSessionStatus status.Done = Unit {0}
IsSessionStatus status.KeeperFault = Unit {0}
IsSessionStatus status.SinkFault = Unit {0}
IsSessionStatus status.Memory = Unit {0}
IsSessionStatus _ = ⊥

-- a front of the text came to its end
pub record IsPartAppended (before now : Option (List ℕ)) (text : List ℕ) : Type 0 where
  pub front : List ℕ
  pub is_front : HasPrefix text front
  pub given : IsAppended before now front

-- the sink was given a front of the log's text, and all of it on `Done`
pub record IsTextWritten (before now : Option (List ℕ)) (ended : Status) (first : State) (log : List Event) : Type 0 where
  pub front : IsPartAppended before now (log_text first log)
  pub all : ended ≡ status.Done → IsAppended before now (log_text first log)

-- a run that ended with this status before its table was begun, at the commit of its opening or not: nothing has happened, and keeper, sink and
-- workers are these
pub record IsUnbegun {K W B : Type 0} (why : Status) (at_opening : Bool) (keeper : K) (sink : W) (hands : Vec (Hand B) Global) (ended : Ended K W B) : Type 0 where
  pub status_is : ended.status ≡ why
  pub began : ended.began ≡ false
  pub opening : ended.at_opening ≡ at_opening
  pub first : ended.first ≡ opening_state [] []
  pub log : ended.log ≡ []
  pub last : ended.last ≡ opening_state [] []
  pub keeper_is : ended.keeper ≡ keeper
  pub sink_is : ended.sink ≡ sink
  pub hands_are : ended.hands ≡ hands
