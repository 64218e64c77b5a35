use Rattle.std.proofs.Common.{inr, rules}
use Rattle.wm_audit_program.proofs.Told.{IsCutOff-front, IsToldBy-whole}
use Rattle.wm_audit_program.specs.Written.{takes_of}
use Rattle.wm_audit_program.proofs.checking.told.Goals as goal

pub returns-in-Ok-write_text : goal.returns-in-Ok-write_text
returns-in-Ok-write_text g c =
    IsToldBy-whole (takes_of g.W.Sink.given g.W.Sink.faults) c.args.bytes.now c.deref.result.now c.in-Ok.judged c.args.sink.now c.write_text.new.sink c.in-Ok.ensures
    c.deref.ensures.value c.in-Ok-write_text.ensures.all

pub returns-in-Err-Failed : goal.returns-in-Err-Failed
returns-in-Err-Failed g c = record {
  status_is = tt;
  written = IsCutOff-front c.args.bytes.now c.deref.result.now c.in-Ok.judged (g.W.Sink.given c.args.sink.now) (g.W.Sink.given c.write_text.new.sink) c.in-Ok.ensures
      c.deref.ensures.value c.write_text.ensures.front;
  sink_fault = λ is. search rules;
}

pub returns-in-Ok : goal.returns-in-Ok
returns-in-Ok g c = record {
  status_is = tt;
  written = inr (IsCutOff-front c.args.bytes.now c.deref.result.now c.in-Ok.judged (g.W.Sink.given c.args.sink.now) (g.W.Sink.given c.write_text.new.sink) c.in-Ok.ensures
      c.deref.ensures.value c.write_text.ensures.front);
  sink_fault = λ is. absurd (cc);
}
