-- How a session ends: what its log, its last state, the bytes given and the workers handed back are.
use Rattle.std.specs.Prelude.{◌≡◌, ℕ, true, false, not, List, [], map, filter, Option, Result, OnOk}
use Rattle.wm_bench.specs.Places.{idle_hands}
use Rattle.wm_bench.specs.declared.hand.Hand.{Hand}
use Rattle.wm_ended.specs.Ended.{IsSessionStatus, IsTextWritten}
use Rattle.wm_ended.specs.Tells.{Tells}
use Rattle.wm_ended.specs.declared.ended.Ended.{Ended}
use Rattle.wm_ended.specs.declared.status.Status.{Status}
use Rattle.wm_ended.specs.declared.status.Status.TheVariants as status
use Rattle.wm_faults.specs.Faults.{Failed}
use Rattle.wm_io.specs.Pending.{IsGivenBut}
use Rattle.wm_io.specs.Writing.{WriteCause}
use Rattle.wm_io.specs.declared.writing.WriteFault.{WriteFault}
use Rattle.wm_keeper.specs.Store.{TellsOn}
use Rattle.wm_machine.specs.Log.{commands_of, AreNumberedFrom, HasPrefix}
use Rattle.wm_machine.specs.Opened.{Opened}
use Rattle.wm_machine.specs.Quiet.{IsQuiet}
use Rattle.wm_machine.specs.Replay.{Replay}
use Rattle.wm_machine.specs.Serial.{IsSerial, BeginsSerial}
use Rattle.wm_machine.specs.Valid.{Valid}
use Rattle.wm_machine.specs.declared.command.Command.{Command}
use Rattle.wm_machine.specs.declared.event.Event.{Event}
use Rattle.wm_machine.specs.declared.state.State.{State}
use Rattle.wm_seating.specs.Bench.{instance_traits, place_traits}
use Rattle.wm_seating.specs.Hands.{AreHandsBack}
use Rattle.wm_session.specs.BookState.{BookState}
use Rattle.wm_session.specs.Boxes.{EachBack, HasTold, IsBoxAfter}
use Rattle.wm_session.specs.Causes.{EndsBy}
use Rattle.wm_session.specs.Images.{EndImages}
use Rattle.wm_session.specs.Pending.{pending_text}
use Rattle.wm_steps.specs.Stored.{LeavesOnly}
use Rattle.wm_engine.specs.Inputs.{Inputs}
use Rattle.wm_engine.specs.Rows.{HoldsRowsOf}
use Rattle.wm_worker.specs.declared.answer.Entry.{Entry}
use Rattle.wm_worker.specs.declared.kind.Kind.{Kind}

-- the log has a front of these commands, one line each, and all of them on `Done`
pub record HasCommands (commands : List Command) (ended : Status) (log : List Event) : Type 0 where
  pub front : HasPrefix commands (commands_of log)
  pub numbered : AreNumberedFrom 1 log
  pub all : ended ≡ status.Done → commands_of log ≡ commands

-- the log is that of a serial run over these lines on `Done`, and else a front of one
abbrev pub IsSerialRun : List Command → Status → State → List Event → State → Type 0
IsSerialRun lines status.Done first log last = IsSerial lines first log last
IsSerialRun lines _ first log last = BeginsSerial lines first log

-- the numbers of the instances that aren't retired
abbrev pub kept_numbers : State → List ℕ
kept_numbers last = map (λ instance. instance.number) (filter (λ instance. not instance.retired) last.instances)

-- each worker that comes back and tells a diary has written down its part of the log, after what it had written down when it was given
abbrev pub HaveTold : {B : Type 0} → (B → Option (List Entry)) → List (Hand B) → State → List Event → State → List (Hand B) → Type 0
HaveTold diary_of given first log last hands = EachBack (HasTold diary_of first log) given (kept_numbers last) hands

-- each worker that comes back is the very one that was given under its number, or, where a run started on it, its diary begins with what
-- that one's was
abbrev pub AreBoxesBack : {B : Type 0} → (B → Option (List Entry)) → List (Hand B) → List Event → State → List (Hand B) → Type 0
AreBoxesBack diary_of given log last hands = EachBack (IsBoxAfter diary_of log) given (kept_numbers last) hands

-- ---- what is handed back

-- A session that is over, of what its run was given: its rows open to the first state, from which the log replays; that has a front of the lines
-- and on `Done` all; its text was written, a front of it and on `Done` all; the rows kept are the last state's, in the store that was loaded; a
-- fault is answered where one was met; and where nothing was pending, a crash leaves the last state's rows, or those of the event that was being
-- committed.
pub record IsSessionEnd {K W B : Type 0} (tells : Tells K W B) (run : Inputs) (ended : Ended K W B) : Type 0 where
  pub status_is : IsSessionStatus ended.status
  pub began : ended.began ≡ true
  pub at_opening : ended.at_opening ≡ false
  pub opened : Opened run.rows run.instances ended.first
  pub replay : Replay ended.first ended.log ended.last
  pub commands : HasCommands run.lines ended.status ended.log
  pub bytes : IsTextWritten run.written (tells.given ended.sink) ended.status ended.first ended.log
  pub rows : HoldsRowsOf ended.last (tells.store ended.keeper)
  pub tells_on : TellsOn run.store (tells.store ended.keeper)
  pub keeper_fault : ended.status ≡ status.KeeperFault → Failed run.store.faults (tells.store ended.keeper).faults
  pub sink_fault : ended.status ≡ status.SinkFault → Failed run.sink_faults (tells.sink_faults ended.sink)
  pub images : LeavesOnly run.rows run.store → EndImages ended.status run.lines ended.last ended.log (tells.store ended.keeper)

-- what a book that is over hands back: its states, its log, and the workers of its bench, which are the instances
pub record IsHandedBack {K W B : Type 0} (kind_of : B → Kind) (book : BookState K W B) (ended : Ended K W B) : Type 0 where
  pub first : ended.first ≡ book.table.first
  pub log : ended.log ≡ book.table.log
  pub last : ended.last ≡ book.table.state
  pub hands : ended.hands.items ≡ idle_hands book.places
  pub workers : map (place_traits kind_of) book.places ≡ map instance_traits ended.last.instances
  pub valid : Valid ended.last

-- What is pending when a book is over is written, whatever it had stopped for: how that write was answered, and what it left; all is written
-- unless the sink failed or memory was refused, and the status is that of the stop, or of the answer.
pub record IsWrittenOut {K W B : Type 0} (tells : Tells K W B) (book : BookState K W B) (ended : Ended K W B) : Type 0 where
  pub answer : Result (Unit {0}) WriteFault
  pub left : List ℕ
  pub given : IsGivenBut (tells.given book.sink) (tells.given ended.sink) (pending_text book.table book.pending) left
  pub all : OnOk answer (left ≡ [])
  pub cause : WriteCause answer (tells.sink_faults book.sink) (tells.sink_faults ended.sink)
  pub ends : EndsBy book.status answer ended.status

-- A session that is over, in which no ticket is out: on `Done` nothing is left to do, and the workers come back, as far as their class wasn't
-- retired.
pub record IsBookEnd {K W B : Type 0} (tells : Tells K W B) (run : Inputs) (ended : Ended K W B) : Type 0 where
  pub session : IsSessionEnd tells run ended
  pub quiet : ended.status ≡ status.Done → IsQuiet ended.last
  pub hands : AreHandsBack tells.kind_of ended.last ended.hands.items

-- What holds besides of a serial session that is over, which was given these workers: each that comes back is the one that was given, or a run
-- started on it, and on `Done` it has written down its part of the log; and the log is that of a serial run, or a front of one.
pub record IsSerialEnd {K W B : Type 0} (tells : Tells K W B) (run : Inputs) (given : List (Hand B)) (ended : Ended K W B) : Type 0 where
  pub boxes : AreBoxesBack tells.diary_of given ended.log ended.last ended.hands.items
  pub diaries : ended.status ≡ status.Done → HaveTold tells.diary_of given ended.first ended.log ended.last ended.hands.items
  pub serial : IsSerialRun run.lines ended.status ended.first ended.log ended.last
