use Rattle.std.proofs.Common.{ℕ, true, refl, ◌∙◌, ap, sym, arith}
use Rattle.wm_live.proofs.DrainSteps.{drained-nothing, drained-then, stopped-then}
use Rattle.wm_engine.specs.TableState.{TicketState}
use Rattle.wm_live.proofs.drive.take_turns.Goals as goal

pub turns-init : goal.turns-init
turns-init g c =
    let asked = c.requires in
    record {
      under_way = asked.under_way;
      number = asked.number;
      kind = asked.kind;
      same_run = refl;
      drained = drained-nothing c.args.stand.now;
      no_more = omega arith;
      same = refl;
    }

pub turn_once-requires-clause-signal_is : goal.turn_once-requires-clause-signal_is
turn_once-requires-clause-signal_is g c =
    c.requires.signal_is ∙ ap (λ (n : ℕ). record { run = n; never = true }) (sym c.turns.invariant.same_run)

pub turns-preserved : goal.turns-preserved
turns-preserved g c =
    let kept = c.turns.invariant in
    let turned = c.in-Go.ensures.turned in
    let no_more = turned.no_more in
    let before = kept.no_more in
    record {
      under_way = turned.under_way;
      number = turned.number;
      kind = turned.kind;
      same_run = ap (λ (t : TicketState). t.task.run) turned.next_is ∙ kept.same_run;
      drained = drained-then c.args.stand.now c.turns.stand c.turn_once.new.stand kept.drained turned.drained;
      no_more = omega (arith, no_more, before);
      same = c.in-Go.ensures.cause ∙ kept.same;
    }

pub returns-in-Over-clause-driven : goal.returns-in-Over-clause-driven
returns-in-Over-clause-driven g c =
    let kept = c.turns.invariant in
    let ended = c.in-Over.ensures.turned in
    let no_more = ended.no_more in
    let before = kept.no_more in
    record {
      drained = drained-then c.args.stand.now c.turns.stand c.turn_once.new.stand kept.drained ended.drained;
      rest = ended.rest;
      no_more = omega (arith, no_more, before);
    }

pub returns-in-Stopped-clause-driven : goal.returns-in-Stopped-clause-driven
returns-in-Stopped-clause-driven g c =
    stopped-then g.B.Worker.kind_of c.in-Stopped.trouble c.args.stand.now c.turns.stand c.turn_once.new.stand c.turns.invariant.drained c.in-Stopped.ensures.turned
