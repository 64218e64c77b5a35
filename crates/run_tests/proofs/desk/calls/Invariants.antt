use Rattle.std.proofs.Common.{Some, false, []}
use Rattle.wm_engine.specs.Inputs.{no_inputs}
use Rattle.run_tests.proofs.desk.calls.Given as goal

-- the mark of the table is an empty store that tells its rows, with this roll
abbrev pub ghosts-calls_on : goal.ghosts-calls_on
ghosts-calls_on g a = record { inputs = record no_inputs { roll = a.roll.table_id; store = record no_inputs.store { rows = Some []; is_lost = false } } }
