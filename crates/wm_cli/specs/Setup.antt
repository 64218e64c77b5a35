-- What a run executes its commands on, once its table has begun.
use Rattle.std.specs.List.{AllByRecursion}
use Rattle.std.specs.Prelude.{◌≡◌, ◌<◌, ◌^◌, List, length}
use Rattle.wm_beginning.specs.Begun.{AreBenched, HasJustBegun}
use Rattle.wm_bench.specs.declared.place.Place.{Place}
use Rattle.wm_ended.specs.Tells.{Tells}
use Rattle.wm_machine.specs.Outcome.{IsAskable}
use Rattle.wm_machine.specs.declared.command.Command.{Command}
use Rattle.wm_engine.specs.Inputs.{Inputs}
use Rattle.wm_engine.specs.TableState.{TableState}

-- the run's lines are these commands, each of which may come, the table has just begun of what the run was given, beside the bench of its workers, and
-- the sink is the run's
pub record IsSetUp {K W B : Type 0} (tells : Tells K W B) (run : Inputs) (commands : List Command) (table : TableState K) (places : List (Place B)) (sink : W)
    : Type 0 where
  pub lines : commands ≡ run.lines
  pub askable : AllByRecursion IsAskable commands
  pub few : length commands < 2 ^ 32
  pub begun : HasJustBegun tells.store run table
  pub benched : AreBenched tells.kind_of places run.instances
  pub written : tells.given sink ≡ run.written
  pub sink_faults : tells.sink_faults sink ≡ run.sink_faults
