use Rattle.wm_audit_program.proofs.Told.{IsPartAppended-front}
use Rattle.wm_audit_program.proofs.writing.write_text.Goals as goal

pub returns-clause-front : goal.returns-clause-front
returns-clause-front g c =
    IsPartAppended-front (g.W.Sink.given c.args.sink.now) (g.W.Sink.given c.write_front.new.sink) c.args.text.now c.write_front.result.0 c.write_front.ensures.given
