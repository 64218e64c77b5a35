use Rattle.std.proofs.Common.{Some, false, []}
use Rattle.wm_engine.specs.Inputs.{no_inputs}
use Rattle.command_tests.proofs.wakes.wake_with.Given as goal

-- the mark of the table is an empty store that tells its rows, with these instances and this roll
abbrev pub ghosts-wake_of : goal.ghosts-wake_of
ghosts-wake_of a = record { inputs = record no_inputs { instances = a.instances; roll = a.roll.table_id; store = record no_inputs.store { rows = Some []; is_lost = false } } }
