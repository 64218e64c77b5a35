use Rattle.std.proofs.Common.{subst}
use Rattle.wm_cli.proofs.Opening.{IsSetUp-begun}
use Rattle.wm_cli.proofs.RunEnds.{IsRunEnd-begun}
use Rattle.wm_ended.specs.Tells.{tells_of}
use Rattle.wm_session.specs.Ended.{IsSerialEnd}
use Rattle.wm_cli.proofs.program.run_loaded.Goals as goal

pub run_begun-requires-clause-set_up : goal.run_begun-requires-clause-set_up
run_begun-requires-clause-set_up g c = λ lifetimes outlive.
    let tells = tells_of g.K.Keeper.store g.W.Sink.given g.W.Sink.faults g.B.Worker.kind_of g.B.Worker.diary_of in
    let begun = c.in-Ok.begun in
    IsSetUp-begun tells g.M.Mark.inputs c.args.loaded c.args.commands begun.table begun.bench begun.sink c.requires.inputs c.in-Ok.ensures.begun
    c.requires.askable c.requires.few

pub returns-in-Ok-clause-begun : goal.returns-in-Ok-clause-begun
returns-in-Ok-clause-begun g c =
    let tells = tells_of g.K.Keeper.store g.W.Sink.given g.W.Sink.faults g.B.Worker.kind_of g.B.Worker.diary_of in
    let inputs = c.requires.inputs in
    let begun = c.in-Ok.ensures.begun in
    let run = g.M.Mark.inputs in
    rw inputs.given.rows_are
    (IsRunEnd-begun tells run c.args.crew.now.workers c.args.loaded c.args.commands c.run_begun.result c.run_begun.ensures.end
    (λ alone. subst (λ hands. IsSerialEnd tells run hands c.run_begun.result) begun.workers (c.run_begun.ensures.serial alone))
    inputs c.requires.may begun.begun.sound)
