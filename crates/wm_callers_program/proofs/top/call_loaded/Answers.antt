use Rattle.std.proofs.Common.{◌∙◌, ap}
use Rattle.wm_callers_program.proofs.CallRuns.{IsCallersRunEnd-begun}
use Rattle.wm_callers_program.specs.Lines.{lines_of}
use Rattle.wm_ended.specs.Tells.{tells_of}
use Rattle.wm_callers_program.proofs.top.call_loaded.Goals as goal

pub call_script-requires-clause-sink : goal.call_script-requires-clause-sink
call_script-requires-clause-sink g c = λ lifetimes outlive. ap g.W.Sink.given c.in-Ok.ensures.begun.sink_is ∙ c.requires.inputs.written

pub call_script-requires-clause-sink_faults : goal.call_script-requires-clause-sink_faults
call_script-requires-clause-sink_faults g c = λ lifetimes outlive. ap g.W.Sink.faults c.in-Ok.ensures.begun.sink_is ∙ c.requires.inputs.sink_faults

pub returns-in-Ok-clause-called : goal.returns-in-Ok-clause-called
returns-in-Ok-clause-called g c =
    let tells = tells_of g.K.Keeper.store g.W.Sink.given g.W.Sink.faults g.B.Worker.kind_of g.B.Worker.diary_of in
    let inputs = c.requires.inputs in
    let end = c.call_script.result in
    rw inputs.given.rows_are
    (IsCallersRunEnd-begun tells g.M.Mark.inputs c.args.crew.now.callers (lines_of c.args.commands) c.args.loaded c.args.commands end.callers.items end.ended
    c.call_script.ensures inputs c.requires.may c.in-Ok.ensures.begun.begun.sound)
