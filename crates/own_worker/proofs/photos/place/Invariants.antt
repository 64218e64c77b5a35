use Rattle.std.proofs.Common.{Some, false, []}
use Rattle.wm_engine.specs.Inputs.{no_inputs}
use Rattle.own_worker.proofs.photos.place.Given as goal

-- the mark of the table is an empty store that tells its rows, and this roll
abbrev pub ghosts-place_in : goal.ghosts-place_in
ghosts-place_in a = record { inputs = record no_inputs { store = record no_inputs.store { rows = Some []; is_lost = false }; roll = a.roll.table_id } }
