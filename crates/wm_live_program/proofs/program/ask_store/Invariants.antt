use Rattle.std.specs.Prelude.{[]}
use Rattle.wm_beginning.specs.Begun.{inputs_of}
use Rattle.wm_ended.specs.Tells.{tells_of}
use Rattle.wm_live_program.proofs.program.ask_store.Given as goal

-- the mark is what the driver is given
abbrev pub ghosts-ask_loaded : goal.ghosts-ask_loaded
ghosts-ask_loaded g a =
    record {
      inputs = inputs_of (tells_of g.K.Keeper.store g.W.Sink.given g.W.Sink.faults g.B.Worker.kind_of g.B.Worker.diary_of) a.loaded [];
    }
