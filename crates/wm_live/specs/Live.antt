-- What a test driver does to the table that it was opened with: the log's new part is that of the ask, and the text has its texts.
use Rattle.std.specs.Prelude.{◌≡◌, ℕ, Bool, false, List, ◌++◌, Option, Some, None, Result}
use Rattle.wm_asks.specs.AskTexts.{answer_text}
use Rattle.wm_asks.specs.Drains.{BeginsDrain, IsDrain}
use Rattle.wm_asks.specs.Parts.{BeginsPart, IsPart, StartsWhatIsMet}
use Rattle.wm_asks.specs.declared.ask.Ask.{Ask}
use Rattle.wm_asks.specs.declared.ask.LiveReply.{LiveReply}
use Rattle.wm_bench.specs.Places.{idle_hands}
use Rattle.wm_faults.specs.Faults.{HasCause}
use Rattle.wm_keeper.specs.Store.{Store, TellsOn}
use Rattle.wm_live.specs.Asking.{Came}
use Rattle.wm_live.specs.Drained.{is_keeper_fault, IsToldOf}
use Rattle.wm_live.specs.StandState.{StandState}
use Rattle.wm_live.specs.declared.live.LiveEnd.{LiveEnd}
use Rattle.wm_machine.specs.Opened.{Opened}
use Rattle.wm_machine.specs.Replay.{Replay}
use Rattle.wm_machine.specs.declared.command.Command.{Command}
use Rattle.wm_machine.specs.declared.event.Event.{Event}
use Rattle.wm_engine.specs.Inputs.{Inputs}
use Rattle.wm_engine.specs.Rows.{HoldsRowsOf}
use Rattle.wm_engine.specs.TableState.{TableState}
use Rattle.wm_engine.specs.declared.trouble.Trouble.{Trouble}
use Rattle.wm_texts.specs.Texts.{log_text}

-- ---- the end

-- all is handed back: the log replays, and the rows held, where they are told, are those of its last state
pub record IsEndOf {K B : Type 0} (store : K → Store) (trouble : Option Trouble) (old : StandState K B) (end : LiveEnd K B) : Type 0 where
  pub trouble_is : end.trouble ≡ trouble
  pub first : end.table.first ≡ old.table.first
  pub last : end.table.last ≡ old.table.state
  pub log : end.table.log ≡ old.table.log
  pub keeper : end.table.keeper ≡ old.table.keeper
  pub replay : Replay end.table.first end.table.log end.table.last
  pub rows : HoldsRowsOf end.table.last (store end.table.keeper)
  pub hands : end.hands.items ≡ idle_hands old.places
  pub text : end.text.items ≡ old.text

-- what was given to the table that is handed back: its first state is what these rows and instances open to, and its keeper still tells what this
-- one told
pub record IsEndFor {K B : Type 0} (run : Inputs) (store : K → Store) (end : LiveEnd K B) : Type 0 where
  pub opened : Opened run.rows run.instances end.table.first
  pub tells_on : TellsOn run.store (store end.table.keeper)

-- it ended by a trouble, after these events, of which the last may have no text
pub record HasEndedAfter {K B : Type 0} (store : K → Store) (events : List Event) (old : StandState K B) (end : LiveEnd K B) : Type 0 where
  pub trouble : Trouble
  pub more : List ℕ
  pub trouble_is : end.trouble ≡ Some trouble
  pub first : end.table.first ≡ old.table.first
  pub appended : end.table.log ≡ old.table.log ++ events
  pub replay : Replay end.table.first end.table.log end.table.last
  pub rows : HoldsRowsOf end.table.last (store end.table.keeper)
  pub text : end.text.items ≡ old.text ++ more
  pub told : IsToldOf trouble old.table.state events more

abbrev pub is_for_keeper : Option Trouble → Bool
is_for_keeper None = false
is_for_keeper (Some trouble) = is_keeper_fault trouble

-- the trouble is the keeper's only where its count of faults rose since this keeper
abbrev pub LiveCause : {K B : Type 0} → (K → Store) → K → LiveEnd K B → Type 0
LiveCause store keeper end = HasCause (is_for_keeper end.trouble) (store keeper).faults (store end.table.keeper).faults

-- ---- the opening

-- a table without events was opened: its log is a drain, and the text is that of its log
pub record IsOpened {K B : Type 0} (table : TableState K) (live : StandState K B) : Type 0 where
  pub first : live.table.first ≡ table.first
  pub drain : IsDrain table.state live.table.log live.table.state
  pub text : live.text ≡ log_text table.state live.table.log

-- the opening met trouble: the log is a front of a drain
pub record IsOpenedInTrouble {K B : Type 0} (store : K → Store) (table : TableState K) (end : LiveEnd K B) : Type 0 where
  pub trouble : Trouble
  pub trouble_is : end.trouble ≡ Some trouble
  pub first : end.table.first ≡ table.first
  pub replay : Replay end.table.first end.table.log end.table.last
  pub rows : HoldsRowsOf end.table.last (store end.table.keeper)
  pub begins : BeginsDrain table.state end.table.log
  pub told : IsToldOf trouble table.state end.table.log end.text.items

-- ---- an ask

-- what an ask came to was answered: the log's new part is its part, and the text has that part's, and that of an answer which is no reply
pub record IsAnswered {K B : Type 0} (line : ℕ) (come : Result Command LiveReply) (given : LiveReply) (old new : StandState K B) : Type 0 where
  pub events : List Event
  pub first : new.table.first ≡ old.table.first
  pub appended : new.table.log ≡ old.table.log ++ events
  pub part : IsPart old.table.state line come given events new.table.state
  pub text : new.text ≡ old.text ++ (log_text old.table.state events ++ answer_text line given new.table.state.hushed)

-- it ended by a trouble: the log's new part is a front of its part
pub record IsInterrupted {K B : Type 0} (store : K → Store) (line : ℕ) (come : Result Command LiveReply) (old : StandState K B) (end : LiveEnd K B)
    : Type 0 where
  pub events : List Event
  pub ended : HasEndedAfter store events old end
  pub begins : BeginsPart old.table.state line come events

-- an ask was answered, to which a clock gave the answers by which the second list is longer; and what it met starts, where nothing else keeps
-- it waiting
pub record IsAskedAndAnswered {K B : Type 0} (line : ℕ) (asked : Ask) (before now : List ℕ) (given : LiveReply) (old new : StandState K B)
    : Type 0 where
  pub come : Result Command LiveReply
  pub came : Came old.table.state asked before now come
  pub answered : IsAnswered line come given old new
  pub starts : StartsWhatIsMet old.table.state asked given answered.events

-- an ask ended by a trouble
pub record IsAskedAndEnded {K B : Type 0} (store : K → Store) (line : ℕ) (asked : Ask) (before now : List ℕ) (old : StandState K B) (end : LiveEnd K B)
    : Type 0 where
  pub come : Result Command LiveReply
  pub came : Came old.table.state asked before now come
  pub interrupted : IsInterrupted store line come old end
