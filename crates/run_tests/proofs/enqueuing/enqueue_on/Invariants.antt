use Rattle.wm_keeper.specs.Memory.{store_of}
use Rattle.wm_callers.specs.Openings.{inputs_of}
use Rattle.run_tests.proofs.enqueuing.enqueue_on.Given as goal

-- the mark of the desk is what it is opened with
abbrev pub ghosts-enqueue_over : goal.ghosts-enqueue_over
ghosts-enqueue_over g a = record { desk = inputs_of a.opening (store_of a.table.keeper).faults }
