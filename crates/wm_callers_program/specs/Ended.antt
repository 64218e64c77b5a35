-- How callers end who called the lines of a script at one table.
use Rattle.std.specs.Prelude.{◌≡◌, ℕ, List, [], ◌++◌, Option}
use Rattle.std.specs.List.{AllByRecursion}
use Rattle.wm_bench.specs.declared.hand.Hand.{Hand}
use Rattle.wm_callers.specs.History.{IsOfDesk}
use Rattle.wm_callers_program.specs.Calls.{AreAllCalled, AreCalled}
use Rattle.wm_callers_program.specs.Lines.{AskedLine}
use Rattle.wm_beginning.specs.Over.{IsRunOver, IsTableOver}
use Rattle.wm_keeper.specs.declared.row.Row.{Row}
use Rattle.wm_machine.specs.Log.{commands_of}
use Rattle.wm_machine.specs.declared.event.Event.{Event}
use Rattle.wm_ended.specs.Tells.{Tells}
use Rattle.wm_ended.specs.declared.ended.Ended.{Ended}
use Rattle.wm_ended.specs.declared.status.Status.{Status}
use Rattle.wm_ended.specs.declared.status.Status.TheVariants as status
use Rattle.wm_engine.specs.Inputs.{Inputs}

-- all calls of callers come before the first work starts, or can't start
pub record CallsComeFirst (log : List Event) : Type 0 where
  pub calls : List Event
  pub drain : List Event
  pub log_is : log ≡ calls ++ drain
  pub of_desk : AllByRecursion IsOfDesk calls
  pub silent : commands_of drain ≡ []

-- of these lines, which go to so many callers, the log has a front of each one's, in order and each once, and on `Done` all; and these are the callers
pub record AreCallsOf (callers : ℕ) (lines : List AskedLine) (ended : Status) (log : List Event) (numbers : List ℕ) : Type 0 where
  pub called : AreCalled callers lines numbers log
  pub all_called : ended ≡ status.Done → AreAllCalled callers lines log

-- What so many callers of these lines hand back, of what their run was given: the table is over, and the log, of which these are the callers, has their
-- calls before all else.
pub record IsCallersEnd {K W B : Type 0} (tells : Tells K W B) (run : Inputs) (callers : ℕ) (lines : List AskedLine) (numbers : List ℕ)
    (ended : Ended K W B) : Type 0 where
  pub over : IsTableOver tells run ended
  pub calls : AreCallsOf callers lines ended.status ended.log numbers
  pub calls_first : CallsComeFirst ended.log

-- What so many callers of these lines, which were read, hand back that were given these workers, this keeper, of a store of this name, where it tells
-- it, and this sink. The keeper told these rows before, and they are held where it tells rows to the end.
pub record IsCallersRunEnd {K W B : Type 0} (tells : Tells K W B) (callers : ℕ) (lines : List AskedLine) (hands : List (Hand B)) (name : Option (List ℕ))
    (held before : Option (List Row)) (keeper : K) (sink : W) (numbers : List ℕ) (ended : Ended K W B) : Type 0 where
  pub over : IsRunOver tells hands name held before keeper sink ended
  pub calls : AreCallsOf callers lines ended.status ended.log numbers
  pub calls_first : CallsComeFirst ended.log
