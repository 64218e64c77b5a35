use Rattle.std.proofs.Common.{Some, false, []}
use Rattle.wm_engine.specs.Inputs.{no_inputs}
use Rattle.run_tests.proofs.enqueuing.enqueue_in_threads.Given as goal

-- the mark of the table is an empty store that tells its rows, with this roll
abbrev pub ghosts-enqueue_on : goal.ghosts-enqueue_on
ghosts-enqueue_on g a = record { inputs = record no_inputs { roll = a.roll.table_id; store = record no_inputs.store { rows = Some []; is_lost = false } } }
