use Rattle.std.proofs.Common.{◌≡◌, ◌+◌, List, [], ◌∷◌, ◌++◌, length, sym, ◌∙◌, ap, subst, arith, append_assoc, rules}
use Rattle.std.proofs.lemmas.List.{length_push}
use Rattle.std.specs.Vec.Iter.{into_iter_items}
use Rattle.wm_asks.specs.declared.ask.Ask.{Ask}
use Rattle.wm_faults.specs.Faults.{HasCause}
use Rattle.wm_live.specs.Live.{is_for_keeper, IsAskedAndAnswered, IsAskedAndEnded}
use Rattle.wm_live_program.proofs.AnsweredAsks.{answered-more, if_handed_on, read-more}
use Rattle.wm_live_program.proofs.driving.ask_all.Goals as goal

-- one more was answered
pub asks-preserved : goal.asks-preserved
asks-preserved g c =
    let kept = c.asks.invariant in
    let ask = c.in-Some.ask in
    let front = c.asks.yielded in
    let told = g.C.Clock.answers c.asks.clock in
    let now = g.C.Clock.answers c.ask.new.clock in
    let its = c.in_ok-next.ensures.ok in
    let line : c.asks.line + 1 ≡ 1 + length front = omega (arith, kept.counted) in
    let steps : into_iter_items c.asks.ask-iterator ≡ ask ∷ into_iter_items c.next.new.self = search rules in
    record {
      left =
          append_assoc front (ask ∷ []) (into_iter_items c.next.new.self) ∙ ap (λ (rest : List Ask). front ++ rest) (sym steps) ∙ kept.left;
      counted = omega (arith, length_push front ask, kept.counted);
      answered = answered-more 1 front ask c.in_ok-next.answer (g.C.Clock.answers c.args.clock.now) told now c.args.live c.asks.live c.in_ok-next.next
          kept.answered
          (subst (λ n. IsAskedAndAnswered n ask told now c.in_ok-next.answer c.asks.live c.in_ok-next.next) line its);
      pace = c.ask.ensures.pace ∙ kept.pace;
      steady = c.in_ok-next.ensures.steady ∙ kept.steady;
      read = omega (arith, read-more c.asks.live.table.state ask told now its.come its.came, kept.read, length_push front ask);
    }

-- the next one ended by a trouble
pub returns-in_err-next-clause-err : goal.returns-in_err-next-clause-err
returns-in_err-next-clause-err g c =
    let kept = c.asks.invariant in
    let ask = c.in-Some.ask in
    let front = c.asks.yielded in
    let told = g.C.Clock.answers c.asks.clock in
    let now = g.C.Clock.answers c.ask.new.clock in
    let line : c.asks.line + 1 ≡ 1 + length front = omega (arith, kept.counted) in
    let steps : into_iter_items c.asks.ask-iterator ≡ ask ∷ into_iter_items c.next.new.self = search rules in
    if_handed_on _ c.from_residual.result c.in_err-next.field-0.0 c.from_residual.ensures.1 (record {
      front = front;
      asked = ask;
      rest = into_iter_items c.next.new.self;
      asks_are = sym kept.left ∙ ap (λ (rest : List Ask). front ++ rest) steps;
      told = told;
      between = c.asks.live;
      answered = kept.answered;
      ended = subst (λ n. IsAskedAndEnded g.K.Keeper.store n ask told now c.asks.live c.in_err-next.field-0.0) line c.in_err-next.ensures.err;
    })

-- with its cause
pub returns-in_err-next-clause-cause : goal.returns-in_err-next-clause-cause
returns-in_err-next-clause-cause g c =
    let store = g.K.Keeper.store in
    if_handed_on _ c.from_residual.result c.in_err-next.field-0.0 c.from_residual.ensures.1
    (subst (λ n. HasCause (is_for_keeper c.in_err-next.field-0.0.trouble) n (store c.in_err-next.field-0.0.table.keeper).faults) c.asks.invariant.steady
    c.in_err-next.ensures.cause)

pub returns-in_err-next-clause-given : goal.returns-in_err-next-clause-given
returns-in_err-next-clause-given g c =
    if_handed_on _ c.from_residual.result c.in_err-next.field-0.0 c.from_residual.ensures.1 c.in_err-next.ensures.given
