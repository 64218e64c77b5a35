use Rattle.wm_beginning.specs.Begun.{inputs_of}
use Rattle.wm_ended.specs.Tells.{tells_of}
use Rattle.wm_callers_program.proofs.top.call_commands.Given as goal

-- the mark is what the callers are given
abbrev pub ghosts-call_loaded : goal.ghosts-call_loaded
ghosts-call_loaded g a =
    record {
      inputs = inputs_of (tells_of g.K.Keeper.store g.W.Sink.given g.W.Sink.faults g.B.Worker.kind_of g.B.Worker.diary_of) a.loaded a.commands;
    }
