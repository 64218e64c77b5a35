use Rattle.wm_cli.proofs.Opening.{IsSetUp-begun}
use Rattle.wm_ended.specs.Tells.{tells_of}
use Rattle.run_tests.proofs.generated.serial_over.Goals as goal

pub open_book-requires : goal.open_book-requires
open_book-requires g c =
    let tells = tells_of g.K.Keeper.store g.W.Sink.given g.W.Sink.faults g.B.Worker.kind_of g.B.Worker.diary_of in
    let begun = c.in-Ok.begun in
    record {
      set_up = IsSetUp-begun tells g.M.Mark.inputs c.args.loaded c.args.commands begun.table begun.bench begun.sink c.requires.inputs c.in-Ok.ensures.begun
          c.requires.askable c.requires.few;
    }
