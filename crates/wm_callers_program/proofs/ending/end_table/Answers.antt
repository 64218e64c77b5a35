use Rattle.std.proofs.Common.{◌≡◌, ◌∙◌, OnOk, map, refl, sym, ap, subst}
use Rattle.wm_callers_program.proofs.CallEnds.{plain-calls}
use Rattle.wm_callers_program.proofs.Flags.{plain-log}
use Rattle.wm_callers_program.specs.Ended.{CallsComeFirst}
use Rattle.wm_callers_program.specs.LogTexts.{plain_text}
use Rattle.wm_io.specs.Writing.{IsAppended}
use Rattle.wm_machine.specs.declared.state.State.{State}
use Rattle.wm_seating.specs.Bench.{instance_traits}
use Rattle.wm_ended.proofs.Endings.{done-none, done-written, keeper-met, session-status, sink-failed}
use Rattle.wm_seating.proofs.Hands.{AreHandsBack-all}
use Rattle.wm_seating.specs.Hands.{AreHandsBack}
use Rattle.wm_ended.specs.Ended.{IsPartAppended, IsSessionStatus}
use Rattle.wm_texts.specs.Texts.{log_text}
use Rattle.wm_callers_program.proofs.ending.end_table.Goals as goal

pub returns : goal.returns
returns g c =
    let kind_of = g.B.Worker.kind_of in
    let over = c.end-first in
    let first = over.result.first in
    let log = over.result.log in
    let refused = c.args.refused in
    let wrote = c.write_log-written in
    let before = g.W.Sink.given c.args.sink in
    let now = g.W.Sink.given wrote.new.sink in
    let is = c.of_end.ensures in
    let none : first.observers ≡ _ = ap (λ (s : State). s.observers) over.ensures.opened.state in
    let texts : plain_text first.hushed c.as_slice.result.now ≡ log_text first log =
    ap (plain_text first.hushed) c.as_slice.ensures ∙ sym (plain-log first log none (plain-calls log (subst CallsComeFirst (sym over.ensures.log) c.requires.calls))) in
    record {
      status_is = subst IsSessionStatus (sym is) (session-status refused wrote.result);
      began = refl;
      at_opening = refl;
      first = over.ensures.first;
      log = over.ensures.log;
      last = over.ensures.last;
      keeper_is = over.ensures.keeper;
      opened = over.ensures.opened;
      replay = over.ensures.replay;
      rows = over.ensures.rows;
      tells_on = over.ensures.tells_on;
      bytes = record {
        front = subst (IsPartAppended before now) texts wrote.ensures.front;
        all = λ done.
            done-written (IsAppended before now (log_text first log)) refused wrote.result
            (subst (λ text. OnOk wrote.result (IsAppended before now text)) texts wrote.ensures.all) (sym is ∙ done);
      };
      hands = subst (AreHandsBack kind_of over.result.last) (sym c.back.ensures)
          (AreHandsBack-all kind_of c.args.bench over.result.last c.requires.at_rest
          (c.requires.workers ∙ sym (ap (λ (s : State). map instance_traits s.instances) over.ensures.last)));
      done = λ done. done-none refused wrote.result (sym is ∙ done);
      keeper_fault = λ fault. keeper-met refused wrote.result (sym is ∙ fault);
      sink_fault = λ fault. sink-failed refused wrote.result (g.W.Sink.faults c.args.sink) (g.W.Sink.faults wrote.new.sink) wrote.ensures.cause (sym is ∙ fault);
    }
