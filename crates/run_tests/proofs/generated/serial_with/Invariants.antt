use Rattle.wm_beginning.specs.Begun.{inputs_of}
use Rattle.wm_ended.specs.Tells.{tells_of}
use Rattle.run_tests.proofs.generated.serial_with.Given as goal

-- the mark of the run is what it is given
abbrev pub ghosts-serial_over : goal.ghosts-serial_over
ghosts-serial_over g a =
    record {
      inputs = inputs_of (tells_of g.K.Keeper.store g.W.Sink.given g.W.Sink.faults g.B.Worker.kind_of g.B.Worker.diary_of) a.loaded a.commands;
    }
