use Rattle.std.proofs.Common.{[], ◌∙◌, sym, ap, subst}
use Rattle.wm_asks.specs.Clocks.{answers_of}
use Rattle.wm_live_program.proofs.AnsweredAsks.{first-answered}
use Rattle.wm_live_program.specs.Answered.{AreAnswered, AreCutShort}
use Rattle.wm_live_program.specs.Driven.{HasAnswered}
use Rattle.wm_live_program.proofs.program.ask_and_close.Goals as goal

-- all were answered
pub returns-in-Ok-clause-asked : goal.returns-in-Ok-clause-asked
returns-in-Ok-clause-asked g c =
    let store = g.K.Keeper.store in
    let asks = c.args.asks.items in
    let clock = c.ask_all.new.clock in
    let told = answers_of clock.step clock.count in
    let closed = c.close.ensures.end in
    let answered : AreAnswered 1 asks [] told c.args.live c.in-Ok.live = rw (c.new-clock.ensures) at c.in-Ok.ensures.ok in
    record {
      told = told;
      clock = record { count = clock.count; are = ap (λ step. answers_of step clock.count) (c.ask_all.ensures.pace ∙ ap (λ new. new.step) c.new-clock.ensures) };
      answered = subst (HasAnswered store asks told c.args.live c.close.result) (sym closed.trouble_is)
          (record { last = c.in-Ok.live; answered = answered; closed = closed });
      first = closed.first ∙ first-answered 1 asks [] told c.args.live c.in-Ok.live answered;
      replay = closed.replay;
      rows = closed.rows;
    }

-- one ended by a trouble
pub returns-in-Err-clause-asked : goal.returns-in-Err-clause-asked
returns-in-Err-clause-asked g c =
    let store = g.K.Keeper.store in
    let asks = c.args.asks.items in
    let end = c.in-Err.end in
    let clock = c.ask_all.new.clock in
    let told = answers_of clock.step clock.count in
    let cut : AreCutShort store 1 asks [] told c.args.live end = rw (c.new-clock.ensures) at c.in-Err.ensures.err in
    let ended = cut.ended.interrupted.ended in
    record {
      told = told;
      clock = record { count = clock.count; are = ap (λ step. answers_of step clock.count) (c.ask_all.ensures.pace ∙ ap (λ new. new.step) c.new-clock.ensures) };
      answered = subst (HasAnswered store asks told c.args.live end) (sym ended.trouble_is) cut;
      first = ended.first ∙ first-answered 1 cut.front [] cut.told c.args.live cut.between cut.answered;
      replay = ended.replay;
      rows = ended.rows;
    }
