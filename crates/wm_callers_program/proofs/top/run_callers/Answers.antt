use Rattle.std.proofs.Common.{map}
use Rattle.std.specs.Prelude.{string_bytes}
use Rattle.wm_beginning.specs.Reading.{reads_of}
use Rattle.wm_callers_program.proofs.CallRuns.{run-nothing}
use Rattle.wm_ended.specs.Tells.{tells_of}
use Rattle.wm_callers_program.proofs.top.run_callers.Goals as goal

pub returns-in-Err : goal.returns-in-Err
returns-in-Err g c =
    let tells = tells_of g.K.Keeper.store g.W.Sink.given g.W.Sink.faults g.B.Worker.kind_of g.B.Worker.diary_of in
    let source = reads_of g.S.Source.left g.S.Source.faults in
    rw c.uncalled.ensures.ended
    (run-nothing tells source (map string_bytes c.args.words.now) c.args.hands.items c.args.source.now c.call_words.new.source c.args.keeper c.args.sink
    c.in-Err.back c.unbegun.result c.uncalled.result.callers.items c.in-Err.ensures.not_begun c.unbegun.ensures c.uncalled.ensures.callers)
