-- What the type of a book keeps at every moment.
use Rattle.std.specs.Prelude.{◌≡◌, ◌+◌, ◌^◌, ◌<◌, ◌≤◌, false, List, ◌++◌, length, map, Option, Some, None}
use Rattle.std.specs.List.{AllByRecursion}
use Rattle.wm_machine.specs.Outcome.{IsAskable}
use Rattle.wm_machine.specs.Log.{commands_of, AreNumberedFrom, HasPrefix}
use Rattle.wm_machine.specs.Replay.{Replay}
use Rattle.wm_texts.specs.Texts.{log_text}
use Rattle.wm_machine.specs.Valid.{Valid}
use Rattle.wm_machine.specs.declared.command.Command.{Command}
use Rattle.wm_machine.specs.declared.state.Run.{Run}
use Rattle.wm_roll.specs.declared.part.Part.{Part}
use Rattle.wm_seating.specs.Bench.{instance_traits, is_away, is_out_on, place_traits}
use Rattle.wm_seating.specs.Seats.{ListsExactly}
use Rattle.wm_session.specs.BookState.{BookState}
use Rattle.wm_session.specs.Causes.{StopCause}
use Rattle.wm_session.specs.Images.{StopImages}
use Rattle.wm_steps.specs.Stored.{LeavesOnly}
use Rattle.wm_engine.specs.Inputs.{Inputs}
use Rattle.wm_io.specs.Pending.{IsGivenBut}
use Rattle.wm_session.specs.Pending.{pending_text}
use Rattle.wm_ended.specs.Tells.{Tells}
use Rattle.wm_session.specs.declared.book.Stop.{Stop}

-- while a session goes on, the lines are those that were executed and those that are left; after it has stopped early, those that were
-- executed are a front of them
abbrev pub LinesInvariant : Option Stop → List Command → List Command → List Command → Type 0
LinesInvariant None lines done left = lines ≡ done ++ left
LinesInvariant (Some why) lines done left = HasPrefix lines done

-- while a session goes on, the roll lists exactly the runs of the state
abbrev pub RollInvariant : Option Stop → List Run → List Part → Type 0
RollInvariant None runs roll = ListsExactly runs roll
RollInvariant (Some why) runs roll = Unit {0}

-- the workers that are away are those of the instances whose parts are on the roll
pub record AwayInvariant {K W B : Type 0} (status : Option Stop) (book : BookState K W B) : Type 0 where
  pub away : map (λ place. is_away place.presence) book.places ≡ map (is_out_on book.table.roll) book.table.state.instances
  pub listed : RollInvariant status book.table.state.runs book.table.roll

-- The facts of a book, of what its run was given, beside those that its table keeps: the log replays to the state now, which is valid; its
-- commands are the lines up to the one that is next; the bytes written and pending are its text, and while the session goes on each
-- text is made; the workers are the instances, and those that are away
-- have their parts on the roll, which lists the runs; the counts of faults haven't fallen, and have risen where a fault stopped the session; and where
-- nothing was pending once the rows were loaded, a crash leaves the state's rows, or those of the event that was being committed.
pub record BookInvariant {K W B : Type 0} (run : Inputs) (tells : Tells K W B) (book : BookState K W B) : Type 0 where
  pub replay : Replay book.table.first book.table.log book.table.state
  pub valid : Valid book.table.state
  pub lines : LinesInvariant book.status run.lines (commands_of book.table.log) book.left
  pub askable : AllByRecursion IsAskable book.left
  pub numbered : AreNumberedFrom 1 book.table.log
  pub line : book.line ≡ length (commands_of book.table.log)
  pub few_lines : book.line + length book.left < 2 ^ 32
  pub texts : IsGivenBut run.written (tells.given book.sink) (log_text book.table.first book.table.log) (pending_text book.table book.pending)
  pub all_told : book.status ≡ None → book.pending.untold ≡ false
  pub workers : map (place_traits tells.kind_of) book.places ≡ map instance_traits book.table.state.instances
  pub away : AwayInvariant book.status book
  pub keeper_later : run.store.faults ≤ (tells.store book.table.keeper).faults
  pub sink_later : run.sink_faults ≤ tells.sink_faults book.sink
  pub cause : StopCause book.status run.store.faults (tells.store book.table.keeper).faults run.sink_faults (tells.sink_faults book.sink)
  pub images : LeavesOnly run.rows run.store → StopImages book.status run.lines book.table.state book.table.log (tells.store book.table.keeper)
