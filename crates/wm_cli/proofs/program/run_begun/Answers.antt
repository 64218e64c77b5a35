use Rattle.std.proofs.Common.{subst}
use Rattle.wm_session.specs.Ended.{IsSerialEnd}
use Rattle.wm_ended.specs.Tells.{tells_of}
use Rattle.wm_cli.proofs.program.run_begun.Goals as goal

pub returns-in-Ok-clause-serial : goal.returns-in-Ok-clause-serial
returns-in-Ok-clause-serial g c = λ alone.
    let tells = tells_of g.K.Keeper.store g.W.Sink.given g.W.Sink.faults g.B.Worker.kind_of g.B.Worker.diary_of in
    subst (λ hands. IsSerialEnd tells g.M.Mark.inputs hands c.run_book.result) c.in-Ok.ensures.workers (c.run_book.ensures.serial alone)
