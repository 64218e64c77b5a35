use Rattle.std.proofs.Common.{ℕ, Some, Err, subst, sym}
use Rattle.wm_session.proofs.Words.{TellCause, WriteCause, WriteFault, none-some, stop_by_fault}
use Rattle.wm_io.specs.declared.writing.WriteFault.TheVariants as fault
use Rattle.wm_session.proofs.pending.tell_last.Goals as goal

told_by : (why : WriteFault) (before now : ℕ) → WriteCause {T = Unit {0}} (Err why) before now → TellCause (Some (stop_by_fault why)) before now
told_by fault.Failed before now failed = failed
told_by fault.Memory before now same = same

pub returns-in-Ok : goal.returns-in-Ok
returns-in-Ok g c = record { texts = c.in-Ok.ensures.told; all = λ going. c.in-Ok.ensures.all; cause = c.in-Ok.ensures.cause }

pub returns-in-Err : goal.returns-in-Err
returns-in-Err g c =
    let why = c.in-Err.fault in
    record {
      texts = c.in-Err.ensures.told;
      all = λ going. absurd (none-some c.from.result (sym going));
      cause = subst (λ stop. TellCause (Some stop) (g.W.Sink.faults c.args.sink.now) (g.W.Sink.faults c.tell.new.sink)) (sym c.from.ensures)
          (told_by why (g.W.Sink.faults c.args.sink.now) (g.W.Sink.faults c.tell.new.sink) c.in-Err.ensures.cause);
    }
