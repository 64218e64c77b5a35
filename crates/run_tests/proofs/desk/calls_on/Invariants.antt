use Rattle.wm_keeper.specs.Memory.{store_of}
use Rattle.wm_callers.specs.Openings.{inputs_of}
use Rattle.run_tests.proofs.desk.calls_on.Given as goal

-- the mark of the desk is what it is opened with
abbrev pub ghosts-calls_over : goal.ghosts-calls_over
ghosts-calls_over g a = record { desk = inputs_of a.opening (store_of a.table.keeper).faults }
