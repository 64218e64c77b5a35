use Rattle.std.proofs.Common.{◌+◌, ◌++◌, arith, length-append}
use Rattle.std.proofs.lemmas.List.{length-take}
use Rattle.wm_beginning.proofs.TakenBytes.{IsTakenFrom-append}
use Rattle.wm_beginning.proofs.script.read_script.Goals as goal

pub returns-in_err-read_piece-clause-reads : goal.returns-in_err-read_piece-clause-reads
returns-in_err-read_piece-clause-reads g c =
    let left = g.S.Source.left in
    let before = c.pieces.script.items in
    let more = c.in_err-read_piece.ensures.bytes in
    record {
      bytes = before ++ more.bytes;
      few = omega (arith, length-append before more.bytes, more.few, length-take (c.min-room.result + 1) c.pieces.buffer, c.pieces.script.ok.0);
      taken = IsTakenFrom-append (left c.args.source.now) (left c.pieces.source)
          (left c.read_piece.new.source) before more.bytes c.pieces.invariant.taken more.taken;
    }
