use Rattle.std.proofs.Common.{◌∙◌, length-drop, arith}
use Rattle.std.proofs.lemmas.List.{length-take}
use Rattle.wm_io.proofs.AppendedTexts.{IsAppended-piece}
use Rattle.wm_io.proofs.writing.write_front.Goals as goal

pub pieces-preserved : goal.pieces-preserved
pieces-preserved g c =
    let kept = c.pieces.invariant in
    record {
      within = omega (arith, simp (length-take, length-drop) at (c.in-Took.ensures.count.1));
      given = IsAppended-piece (g.W.Sink.given c.args.sink.now) (g.W.Sink.given c.pieces.sink)
          (g.W.Sink.given c.write.new.self) c.args.text.now c.pieces.taken c.in-Took.count kept.given c.in-Took.ensures.bytes;
      no_fault = c.in-Took.ensures.cause ∙ kept.no_fault;
    }
