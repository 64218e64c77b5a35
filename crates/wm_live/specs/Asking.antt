-- What an ask comes to at a table, and when it may be asked.
use Rattle.std.specs.Prelude.{◌≡◌, ℕ, ◌^◌, ◌<◌, List, ◌++◌, length, Result}
use Rattle.wm_asks.specs.Asked.{ComesTo}
use Rattle.wm_asks.specs.declared.ask.Ask.{Ask}
use Rattle.wm_asks.specs.declared.ask.Ask.TheVariants as ask
use Rattle.wm_asks.specs.declared.ask.LiveReply.{LiveReply}
use Rattle.wm_machine.specs.Outcome.{IsAskable}
use Rattle.wm_machine.specs.declared.command.Command.{Command}
use Rattle.wm_machine.specs.declared.state.State.{State}

-- a line's command is askable, and a clock that gave these answers may give one more, where it is read
abbrev pub MayAsk : Ask → List ℕ → Type 0
MayAsk (ask.Line asked) answers = IsAskable asked
MayAsk ask.Tick answers = length answers < 2 ^ 53
MayAsk _ answers = Unit {0}

-- an ask came to this, for which a clock whose answers were the first gave those that stand behind them in the second
pub record Came (s : State) (asked : Ask) (before now : List ℕ) (come : Result Command LiveReply) : Type 0 where
  pub told : List ℕ
  pub answers : now ≡ before ++ told
  pub comes : ComesTo s asked told come
