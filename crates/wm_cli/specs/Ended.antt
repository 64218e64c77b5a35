-- How a run ends: what its log, its last state, the rows kept, the bytes given and the workers handed back are.
use Rattle.std.specs.Prelude.{◌≡◌, ℕ, Bool, true, false, List, Option, option_map, Vec}
use Rattle.std.specs.declared.alloc.Global.{Global}
use Rattle.wm_beginning.specs.Images.{IsHeldAlone}
use Rattle.wm_beginning.specs.Over.{IsRunOver}
use Rattle.wm_bench.specs.declared.hand.Hand.{Hand}
use Rattle.wm_cli.specs.Images.{RunImages}
use Rattle.wm_ended.specs.Tells.{Tells}
use Rattle.wm_ended.specs.declared.ended.Ended.{Ended}
use Rattle.wm_ended.specs.declared.status.Status.{Status}
use Rattle.wm_ended.specs.declared.status.Status.TheVariants as status
use Rattle.wm_keeper.specs.Store.{IsAtMost, IsSettled}
use Rattle.wm_keeper.specs.declared.row.Row.{Row}
use Rattle.wm_machine.specs.declared.command.Command.{Command}
use Rattle.wm_machine.specs.declared.event.Event.{Event}
use Rattle.wm_machine.specs.declared.state.State.{State}
use Rattle.wm_seating.specs.Hands.{instances_from}
use Rattle.wm_session.specs.Ended.{AreBoxesBack, HasCommands, HaveTold, IsBookEnd, IsSerialEnd, IsSerialRun}
use Rattle.wm_engine.specs.Inputs.{Inputs}
use Rattle.wm_engine.specs.TableState.{TableState}
use Rattle.wm_words.specs.Run.{options_of, AskForNoThreads}
use Rattle.wm_worker.specs.declared.answer.Entry.{Entry}

-- ---- the rows kept

-- where the keeper tells the name that it was loaded with, it is the one that the words name
abbrev pub IsStoreOf : List (List ℕ) → Option (List ℕ) → Type 0
IsStoreOf words name = IsAtMost (option_map (λ options. options.store) (options_of words)) name

-- ---- the lines

-- A run of these lines, which was given these words, workers and this keeper: the log has the lines as its commands, a front of them, and on `Done` all;
-- where the words ask for no threads it is that of a serial run over them on `Done`, and else a front of one; and where nothing was pending in the
-- store, a crash leaves what it may leave of a run over them.
pub record IsRunOf {K W B : Type 0} (tells : Tells K W B) (words : List (List ℕ)) (hands : List (Hand B)) (keeper : K) (lines : List Command)
    (ended : Ended K W B) : Type 0 where
  pub commands : HasCommands lines ended.status ended.log
  pub serial : AskForNoThreads words → IsSerialRun lines ended.status ended.first ended.log ended.last
  pub crash : IsSettled (tells.store keeper)
      → RunImages ended.began ended.at_opening ended.status lines (tells.store keeper).rows (instances_from tells.kind_of 0 hands) ended.last ended.log
      (tells.store ended.keeper)

-- ---- the workers

-- where the table was begun, each worker that comes back is the very one that was given under its number, or, where a run started on it, its
-- diary begins with what that one's was
abbrev pub AreBoxesOf : {B : Type 0} → (B → Option (List Entry)) → Bool → List (Hand B) → List Event → State → List (Hand B) → Type 0
AreBoxesOf diary_of began hands log last back = began ≡ true → AreBoxesBack diary_of hands log last back

-- on `Done` each worker that comes back and tells a diary has written down its part of the log, after what it had written down before
abbrev pub HaveToldOnDone : {B : Type 0} → (B → Option (List Entry)) → Status → List (Hand B) → State → List Event → State → List (Hand B) → Type 0
HaveToldOnDone diary_of ended hands first log last back = ended ≡ status.Done → HaveTold diary_of hands first log last back

-- ---- what is handed back

-- a run that ended for want of memory before its first event: it hands back what this table held, and these
pub record IsEndedAtOnce {K W B : Type 0} (table : TableState K) (sink : W) (hands : Vec (Hand B) Global) (ended : Ended K W B) : Type 0 where
  pub status_is : ended.status ≡ status.Memory
  pub began : ended.began ≡ true
  pub at_opening : ended.at_opening ≡ false
  pub first : ended.first ≡ table.first
  pub log : ended.log ≡ table.log
  pub last : ended.last ≡ table.state
  pub keeper_is : ended.keeper ≡ table.keeper
  pub sink_is : ended.sink ≡ sink
  pub hands_are : ended.hands ≡ hands

-- a run that ended before its first line, of what it was given, with these workers: it ended as a book does, and as a serial run does
pub record IsEndedBeforeLines {K W B : Type 0} (tells : Tells K W B) (run : Inputs) (hands : List (Hand B)) (ended : Ended K W B) : Type 0 where
  pub end : IsBookEnd tells run ended
  pub serial : IsSerialEnd tells run hands ended

-- A run that is over whose commands, these, were read; so many worker threads drove its works. Each fact besides is the promise of `run` of that name.
pub record IsRunEnd {K W B : Type 0} (tells : Tells K W B) (workers : ℕ) (commands : List Command) (hands : List (Hand B)) (name : Option (List ℕ))
    (held before : Option (List Row)) (keeper : K) (sink : W) (ended : Ended K W B) : Type 0 where
  pub over : IsRunOver tells hands name held before keeper sink ended
  pub has_commands : HasCommands commands ended.status ended.log
  pub boxes : workers ≡ 0 → AreBoxesOf tells.diary_of ended.began hands ended.log ended.last ended.hands.items
  pub diaries : workers ≡ 0 → HaveToldOnDone tells.diary_of ended.status hands ended.first ended.log ended.last ended.hands.items
  pub serial : workers ≡ 0 → IsSerialRun commands ended.status ended.first ended.log ended.last
  pub images : IsHeldAlone before (tells.store keeper)
      → RunImages ended.began ended.at_opening ended.status commands before (instances_from tells.kind_of 0 hands) ended.last ended.log
      (tells.store ended.keeper)
