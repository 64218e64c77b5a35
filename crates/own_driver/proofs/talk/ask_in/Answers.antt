use Rattle.std.proofs.Common.{List, [], length, ◌<◌, ◌^◌, arith, sym, subst}
use Rattle.std.proofs.lemmas.Result.{IfOk-weaker}
use Rattle.wm_asks.specs.declared.ask.Ask.{Ask}
use Rattle.wm_asks.specs.declared.ask.Ask.TheVariants as ask
use Rattle.wm_live.specs.Asking.{MayAsk}
use Rattle.wm_live_program.proofs.Askable.{has-ask_of}
use Rattle.wm_live_program.specs.Asks.{HasAskable}
use Rattle.own_driver.proofs.talk.ask_in.Goals as goal

-- an ask whose command is askable may be asked of a new clock
may_ask : (asked : Ask) → HasAskable asked → MayAsk asked []
may_ask (ask.Line command) has = has
may_ask ask.Tick has = omega arith
may_ask (ask.DelayMet id) has = tt
may_ask (ask.PeriodMet id) has = tt
may_ask (ask.ConstraintsMet id) has = tt
may_ask ask.Wake has = tt

-- that of any line is one
pub returns : goal.returns
returns c =
    IfOk-weaker c.ask_of.result _ _ (λ asked is. subst (λ (a : Ask). MayAsk a []) (sym is) (may_ask _ (has-ask_of c.args.line.now))) c.ask_of.ensures
