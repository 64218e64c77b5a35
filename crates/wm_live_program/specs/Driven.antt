-- What a test driver does that is opened over a table which has just begun, is asked these one after another, and is closed.
use Rattle.std.specs.Prelude.{◌≡◌, ◌⊎◌, ℕ, List, [], Option, Some, None}
use Rattle.wm_asks.specs.Clocks.{answers_of}
use Rattle.wm_asks.specs.declared.ask.Ask.{Ask}
use Rattle.wm_keeper.specs.Store.{Store}
use Rattle.wm_live.specs.Live.{IsEndOf, IsOpened, IsOpenedInTrouble}
use Rattle.wm_live.specs.StandState.{StandState}
use Rattle.wm_live.specs.declared.live.LiveEnd.{LiveEnd}
use Rattle.wm_live_program.specs.Answered.{AreAnswered, AreCutShort}
use Rattle.wm_machine.specs.Replay.{Replay}
use Rattle.wm_engine.specs.Rows.{HoldsRowsOf}
use Rattle.wm_engine.specs.TableState.{TableState}
use Rattle.wm_engine.specs.declared.trouble.Trouble.{Trouble}

-- a clock with this step has told these, from its first answer on
pub record AreTold (step : ℕ) (told : List ℕ) : Type 0 where
  pub count : ℕ
  pub are : told ≡ answers_of step count

-- it answered all of these, and was closed
pub record HasAnsweredAll {K B : Type 0} (store : K → Store) (asks : List Ask) (told : List ℕ) (live : StandState K B) (end : LiveEnd K B) : Type 0 where
  pub last : StandState K B
  pub answered : AreAnswered 1 asks [] told live last
  pub closed : IsEndOf store None last end

-- it answered all of these, or, where it met trouble, some, and the next one ended by it
abbrev pub HasAnswered : {K B : Type 0} → (K → Store) → List Ask → List ℕ → StandState K B → LiveEnd K B → Option Trouble → Type 0
HasAnswered store asks told live end None = HasAnsweredAll store asks told live end
HasAnswered store asks told live end (Some trouble) = AreCutShort store 1 asks [] told live end

-- a driver in this state was asked these, as line 1 and so on, with a clock of this step, and ended so
pub record AreAsked {K B : Type 0} (store : K → Store) (step : ℕ) (asks : List Ask) (live : StandState K B) (end : LiveEnd K B) : Type 0 where
  pub told : List ℕ
  pub clock : AreTold step told
  pub answered : HasAnswered store asks told live end end.trouble
  pub first : end.table.first ≡ live.table.first
  pub replay : Replay end.table.first end.table.log end.table.last
  pub rows : HoldsRowsOf end.table.last (store end.table.keeper)

-- it was opened over this table, and asked these
pub record HasOpened {K B : Type 0} (store : K → Store) (step : ℕ) (asks : List Ask) (table : TableState K) (end : LiveEnd K B) : Type 0 where
  pub live : StandState K B
  pub opened : IsOpened table live
  pub asked : AreAsked store step asks live end

-- It was opened over a table at which nothing had happened, and asked these; or the opening met trouble. The log that it handed back replays from
-- that table's state.
pub record IsDriven {K B : Type 0} (store : K → Store) (step : ℕ) (asks : List Ask) (end : LiveEnd K B) : Type 0 where
  pub table : TableState K
  pub no_event : table.log ≡ []
  pub at_first : table.state ≡ table.first
  pub asked : IsOpenedInTrouble store table end ⊎ HasOpened store step asks table end
  pub first : end.table.first ≡ table.first
  pub replay : Replay end.table.first end.table.log end.table.last
