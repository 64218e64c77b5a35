use Rattle.std.proofs.Common.{true, sym, ◌∙◌, ap}
use Rattle.wm_engine.specs.TableState.{TicketState}
use Rattle.wm_session.proofs.serial.take_turns.Goals as goal

pub turns-preserved : goal.turns-preserved
turns-preserved g c =
    let kept = c.turns.invariant in
    let turned = c.in-Some.ensures in
    let same = turned.next_is in
    record {
      under_way = turned.under_way;
      number = turned.number ∙ ap (λ (t : TicketState). t.instance) (sym same);
      kind = turned.kind ∙ ap (λ (t : TicketState). t.kind) (sym same);
      signal_is = kept.signal_is ∙ ap (λ (t : TicketState). record { run = t.task.run; never = true }) (sym same);
      driven = λ last driven. kept.driven last (turned.further last driven);
    }

pub returns-in_default : goal.returns-in_default
returns-in_default g c = c.turns.invariant.driven c.turn_once.new.book c.in_default.ensures
