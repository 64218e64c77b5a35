-- What a test driver does that is asked one ask after another.
use Rattle.std.specs.Prelude.{◌≡◌, ℕ, ◌+◌, List, [], ◌∷◌, ◌++◌, length}
use Rattle.wm_asks.specs.declared.ask.Ask.{Ask}
use Rattle.wm_asks.specs.declared.ask.LiveReply.{LiveReply}
use Rattle.wm_keeper.specs.Store.{Store}
use Rattle.wm_live.specs.Live.{IsAskedAndAnswered, IsAskedAndEnded}
use Rattle.wm_live.specs.StandState.{StandState}
use Rattle.wm_live.specs.declared.live.LiveEnd.{LiveEnd}

-- these were asked and answered, in order, with numbers of lines from this one on: a clock that had given the first answers has given the second
abbrev pub AreAnswered : {K B : Type 0} → ℕ → List Ask → List ℕ → List ℕ → StandState K B → StandState K B → Type 0
AreAnswered line [] before now old new = (now ≡ before) × (new ≡ old)
AreAnswered {K} {B} line (asked ∷ asks) before now old new =
    (given : LiveReply) × (told : List ℕ) × (between : StandState K B)
    × IsAskedAndAnswered line asked before told given old between × AreAnswered (line + 1) asks told now between new

-- some of these were answered, and the next one ended by a trouble
pub record AreCutShort {K B : Type 0} (store : K → Store) (line : ℕ) (asks : List Ask) (before now : List ℕ) (old : StandState K B) (end : LiveEnd K B)
    : Type 0 where
  pub front : List Ask
  pub asked : Ask
  pub rest : List Ask
  pub asks_are : asks ≡ front ++ asked ∷ rest
  pub told : List ℕ
  pub between : StandState K B
  pub answered : AreAnswered line front before told old between
  pub ended : IsAskedAndEnded store (line + length front) asked told now between end
