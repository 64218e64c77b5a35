use Rattle.wm_engine.specs.Inputs.{no_inputs}
use Rattle.own_driver.proofs.opening.open.Given as goal

-- the mark of the table is what was loaded
abbrev pub ghosts-open_loaded : goal.ghosts-open_loaded
ghosts-open_loaded g a =
    record {
      inputs = record no_inputs {
        rows = a.loaded.rows.items;
        store = g.K.Keeper.store a.loaded.keeper;
        instances = a.loaded.instances;
        roll = a.loaded.roll.table_id;
      };
    }
