-- What an engine keeps.
use Rattle.std.specs.Prelude.{◌≡◌, ◌^◌, ◌<◌}
use Rattle.wm_engine.specs.Inputs.{Inputs}
use Rattle.wm_engine.specs.Parts.{AreOut}
use Rattle.wm_engine.specs.Rows.{HoldsRowsOf}
use Rattle.wm_keeper.specs.Store.{Store, TellsOn}
use Rattle.wm_machine.specs.Valid.{Valid}
use Rattle.wm_machine.specs.declared.state.State.{State}
use Rattle.wm_roll.specs.Views.{RollView}

-- of what the run was given: the state is one that the machine reaches, whose next run has a number, its rows are held in the store that was loaded, the roll is the run's, and
-- each part on it is that of a run of the state
pub record EngineInvariant (run : Inputs) (state : State) (store : Store) (roll : RollView) : Type 0 where
  pub valid : Valid state
  pub few_runs : state.next_run < 2 ^ 64
  pub rows : HoldsRowsOf state store
  pub tells_on : TellsOn run.store store
  pub own : roll.table_id ≡ run.roll
  pub out : AreOut state.runs roll.parts
