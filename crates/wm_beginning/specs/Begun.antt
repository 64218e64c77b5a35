-- What a table begins with beside its bench, and the table and the workers that it begins as.
use Rattle.atomic_table.specs.Seated.{TableId}
use Rattle.std.specs.Prelude.{◌≡◌, ◌≤◌, List, [], length, map, ◌↔◌}
use Rattle.wm_beginning.specs.declared.loading.Loaded.{Loaded}
use Rattle.wm_bench.specs.Places.{idle_hands, most_hands, place_of}
use Rattle.wm_bench.specs.declared.hand.Hand.{Hand}
use Rattle.wm_bench.specs.declared.place.Place.{Place}
use Rattle.wm_ended.specs.Tells.{Tells}
use Rattle.wm_keeper.specs.Store.{Store, TellsOn}
use Rattle.wm_keeper.specs.declared.row.Row.{Row}
use Rattle.wm_machine.specs.Opened.{Opened}
use Rattle.wm_machine.specs.Rows.{rows_of}
use Rattle.wm_machine.specs.declared.command.Command.{Command}
use Rattle.wm_machine.specs.declared.state.Instance.{Instance}
use Rattle.wm_rows.specs.Sound.{AreSound}
use Rattle.wm_seating.specs.Hands.{instances_from}
use Rattle.wm_seating.specs.Idle.{IsIdle}
use Rattle.wm_steps.specs.Stored.{LeavesOnly}
use Rattle.wm_engine.specs.Inputs.{Inputs}
use Rattle.wm_engine.specs.Rows.{HoldsRowsOf}
use Rattle.wm_engine.specs.TableState.{TableState}
use Rattle.wm_worker.specs.declared.kind.Kind.{Kind}

-- what a run is given that begins where a keeper shows this, once these rows were loaded from it, with these instances and this roll, whatever
-- lines and sink it is given
pub record IsGiven (run : Inputs) (store : Store) (rows : List Row) (instances : List Instance) (roll : TableId) : Type 0 where
  pub rows_are : rows ≡ run.rows
  pub instances_are : instances ≡ run.instances
  pub images : (image : List Row) → store.images image ↔ run.store.images image
  pub told : store.rows ≡ run.store.rows
  pub name : store.name ≡ run.store.name
  pub faults : store.faults ≡ run.store.faults
  pub lost : store.is_lost ≡ run.store.is_lost
  pub roll_is : roll ≡ run.roll

-- what a run is given that begins with what was loaded, with these lines
abbrev pub inputs_of : {K W B : Type 0} → Tells K W B → Loaded K W B → List Command → Inputs
inputs_of tells loaded lines = record {
  rows = loaded.rows.items;
  store = tells.store loaded.keeper;
  instances = loaded.instances;
  lines = lines;
  written = tells.given loaded.sink;
  sink_faults = tells.sink_faults loaded.sink;
  roll = loaded.roll.table_id;
}

-- a run's inputs are what it is given that begins so
pub record AreInputs {K W B : Type 0} (tells : Tells K W B) (run : Inputs) (loaded : Loaded K W B) (lines : List Command) : Type 0 where
  pub given : IsGiven run (tells.store loaded.keeper) loaded.rows.items loaded.instances loaded.roll.table_id
  pub lines_are : lines ≡ run.lines
  pub written : tells.given loaded.sink ≡ run.written
  pub sink_faults : tells.sink_faults loaded.sink ≡ run.sink_faults

-- some workers, not too many, are at these places, and these are their instances
pub record AreBenched {B : Type 0} (kind_of : B → Kind) (places : List (Place B)) (instances : List Instance) : Type 0 where
  pub hands : List (Hand B)
  pub few : length hands ≤ most_hands
  pub at_places : places ≡ map place_of hands
  pub are : instances ≡ instances_from kind_of 0 hands

-- a table that has just begun, of what its run was given: the rows are sound, its state is the one that they open to, nothing has happened, no ticket
-- is out, and its keeper holds the state's rows, in the store that was loaded, and met no fault; a crash leaves just these, where it left just the rows loaded
pub record HasJustBegun {K : Type 0} (store : K → Store) (run : Inputs) (table : TableState K) : Type 0 where
  pub sound : AreSound run.rows
  pub opened : Opened run.rows run.instances table.first
  pub state : table.state ≡ table.first
  pub log : table.log ≡ []
  pub roll : table.roll ≡ []
  pub rows : HoldsRowsOf table.first (store table.keeper)
  pub tells_on : TellsOn run.store (store table.keeper)
  pub no_fault : (store table.keeper).faults ≡ run.store.faults
  pub images : LeavesOnly run.rows run.store → LeavesOnly (rows_of table.first) (store table.keeper)

-- a table has just begun so beside the bench of these workers, and what will be written to is this
pub record HasBegun {K W B : Type 0} (store : K → Store) (kind_of : B → Kind) (run : Inputs) (hands : List (Hand B)) (given : W) (table : TableState K)
    (places : List (Place B)) (sink : W) : Type 0 where
  pub begun : HasJustBegun store run table
  pub benched : AreBenched kind_of places run.instances
  pub idle : IsIdle kind_of table places
  pub workers : idle_hands places ≡ hands
  pub sink_is : sink ≡ given
