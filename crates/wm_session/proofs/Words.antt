-- What the proofs of this crate speak of: the words of its own definitions, and of those below.
pub use Rattle.std.proofs.Math.Nat.{add_comm, le-min, le_trans, min-le_left, min-le_right}
pub use Rattle.std.proofs.lemmas.Bool.{eq-eqb, false≢true, ne_eqb}
pub use Rattle.std.proofs.lemmas.List.{append-nil, take-append-drop}
pub use Rattle.std.proofs.lemmas.Option.{none-some}
pub use Rattle.std.specs.List.{AllByRecursion}
pub use Rattle.std.specs.Prelude.{option_to_list, ◌⊎◌}
pub use Rattle.std.specs.declared.alloc.AllocError.{AllocError}
pub use Rattle.wm_bench.specs.Places.{IsAwayAt, changed_at, idle_at, idle_hands, idle_in, made_back, place_of, retired_in}
pub use Rattle.wm_bench.specs.Seat.{Seat}
pub use Rattle.wm_bench.specs.declared.hand.Hand.{Hand}
pub use Rattle.wm_bench.specs.declared.place.Place.{Place}
pub use Rattle.wm_collections.proofs.Lists.{HasOne-front, HasOne-last}
pub use Rattle.wm_collections.specs.Lists.{HasOne, last_of}
pub use Rattle.wm_data.specs.declared.data.DataEntry.{DataEntry}
pub use Rattle.wm_faults.specs.Faults.{Failed, HasCause}
pub use Rattle.wm_io.specs.Pending.{IsGivenBut, PendingState, nothing}
pub use Rattle.wm_io.specs.Writing.{IsAppended, WriteCause}
pub use Rattle.wm_io.specs.declared.writing.WriteFault.{WriteFault}
pub use Rattle.wm_keeper.specs.Store.{Store}
pub use Rattle.wm_machine.proofs.Logs.{AreNumberedFrom-push, commands_of-push}
pub use Rattle.wm_machine.proofs.Steps.{Valid-after, framed, kept as kept_by}
pub use Rattle.wm_machine.specs.Diaries.{AreEntries, DiaryLine, IsDiaryWith, IsEntry, event_lines, given_lines, log_lines}
pub use Rattle.wm_machine.specs.Frame.{Frame, frame_of}
pub use Rattle.wm_machine.specs.Log.{AreNumberedFrom, HasPrefix, command_in, commands_of}
pub use Rattle.wm_machine.specs.Outcome.{IsAskable}
pub use Rattle.wm_machine.specs.Quiet.{IsQuiet}
pub use Rattle.wm_machine.specs.Replay.{Replay}
pub use Rattle.wm_machine.specs.Role.{Reported, This}
pub use Rattle.wm_machine.specs.Runs.{run_numbered}
pub use Rattle.wm_machine.specs.Serial.{AreInOrder, IsInTurn, IsTurnOf, MayGoOn, drains_first}
pub use Rattle.wm_machine.specs.Step.{Legal, after, role_of}
pub use Rattle.wm_machine.specs.Valid.{AreNumberedInOrder, Valid}
pub use Rattle.wm_machine.specs.Waiting.{LeavesOf, left_to_drain}
pub use Rattle.wm_machine.specs.declared.command.Command.{Command}
pub use Rattle.wm_machine.specs.declared.event.Cause.{Cause}
pub use Rattle.wm_machine.specs.declared.event.Event.{Event}
pub use Rattle.wm_machine.specs.declared.state.Run.{Run}
pub use Rattle.wm_machine.specs.declared.state.State.{State}
pub use Rattle.wm_roll.specs.Parts.{IsListed, without}
pub use Rattle.wm_roll.specs.declared.part.Part.{Part}
pub use Rattle.wm_runs.specs.Reports.{Counts, CountsIn, IsOut}
pub use Rattle.wm_seating.proofs.PlacesAndInstances.{all_here, idle_at-in, no_seat, traits-taken}
pub use Rattle.wm_seating.proofs.PlacesChanged.{IsAwayAt-taken, IsTaken, IsTaken-at, NoneAway-back, elsewhere, hand_traits-places, idle_at-back, idle_at-given, idle_at-taken, places-back, stays}
pub use Rattle.wm_seating.proofs.Seats.{ArePlacedBy, AreSeated, IsEndOf, IsRolledBy, away-out, exact-by, exact-given_again, given_back, none_away, out-agrees, part_standing, placed-end, rolled-end, seated-by, taken_again, ticket_kind, without-new}
pub use Rattle.wm_seating.proofs.Turnings.{IsOverAnswer, Replay-step, alone-turned, alone_out-turned, current-turned, few-turned, next_turn, not_stopped, only-begun, runs-ended, ticket-found, turned_found}
pub use Rattle.wm_seating.specs.Bench.{NoneAway, Traits, instance_traits, is_away, is_out_on, place_traits}
pub use Rattle.wm_seating.specs.Seats.{ListsExactly}
pub use Rattle.wm_seating.specs.Turning.{HasWritten}
pub use Rattle.wm_session.specs.BetweenRuns.{GoesInOrder, IsAtBegin, IsBetweenRuns, IsInOrder, IsOfGiven, IsReady, KeepBoxes}
pub use Rattle.wm_session.specs.Book.{HasClaimed, IsBegun, IsClaimStopped, IsFrontStopped, IsFronted, IsGivenBack, IsLast, IsLineDone, IsNextLine, IsReported, MayCome, SettlesNext, StopsAfter}
pub use Rattle.wm_session.specs.BookState.{BookState}
pub use Rattle.wm_session.specs.Boxes.{EachAtPlace, EachBack, HasTold, IsBoxAfter, IsDiaryLater, IsStartOn}
pub use Rattle.wm_session.specs.Causes.{EndsBy, StopCause, status_by_stop, stop_by_fault, stop_by_trouble}
pub use Rattle.wm_ended.specs.Causes.{ended_by}
pub use Rattle.wm_session.specs.Drive.{GoesOnWith, IsDriven, IsOutOfGiven, IsUnderWay, KeepBoxesOut}
pub use Rattle.wm_seating.specs.Hands.{AreHandsBack}
pub use Rattle.wm_session.specs.Ended.{HasCommands, IsSerialRun, kept_numbers}
pub use Rattle.wm_ended.specs.Ended.{IsPartAppended, IsSessionStatus, IsTextWritten}
pub use Rattle.wm_session.specs.Images.{EndImages, LeavesOneMore, MayComeNext, StopImages}
pub use Rattle.wm_session.specs.Invariant.{AwayInvariant, BookInvariant, LinesInvariant, RollInvariant}
pub use Rattle.wm_session.specs.Pending.{IsTold, TellCause, pending_text}
pub use Rattle.wm_ended.specs.Tells.{Tells, tells_of}
pub use Rattle.wm_session.specs.declared.book.Stop.{Stop}
pub use Rattle.wm_ended.specs.declared.status.Status.{Status}
pub use Rattle.wm_engine.proofs.Claims.{HasGoneOn-roll, IsOneStep-roll, IsUntouched-roll}
pub use Rattle.wm_engine.proofs.NoLines.{framed_end, silent_end}
pub use Rattle.wm_engine.proofs.Steps.{IsUntouched-as, IsUntouched-same}
pub use Rattle.wm_engine.specs.Images.{IsLine, IsNoLine, WouldLeave}
pub use Rattle.wm_steps.specs.Stored.{LeavesOnly}
pub use Rattle.wm_engine.specs.Inputs.{Inputs}
pub use Rattle.wm_engine.specs.Parts.{Stands, WasOut, part_of, ticket_part}
pub use Rattle.wm_engine.specs.Calls.{HasGoneOn, IsClaimAnswer, IsFinished, IsOneStep, IsReturned, IsTicketIn, IsTurnAnswer, IsTurnOver, IsUntouched, TroubleCause, TurnCause, is_keeper_fault}
pub use Rattle.wm_engine.specs.TableState.{TableState, TicketState, ticket_of}
pub use Rattle.wm_engine.specs.declared.engine.Claim.{Claim}
pub use Rattle.wm_engine.specs.declared.trouble.Trouble.{Trouble}
pub use Rattle.wm_texts.proofs.LogTexts.{last_text-is, log_text-last}
pub use Rattle.wm_texts.specs.Texts.{last_text, log_text}
pub use Rattle.wm_worker.specs.Diary.{diary_with, turn_entries}
pub use Rattle.wm_worker.specs.Signal.{SignalState}
pub use Rattle.wm_worker.specs.Told.{Report}
pub use Rattle.wm_worker.specs.declared.answer.Entry.TheVariants.{Begun, Gave}
pub use Rattle.wm_worker.specs.declared.answer.Entry.{Entry}
pub use Rattle.wm_worker.specs.declared.answer.Given.TheVariants.{More}
pub use Rattle.wm_worker.specs.declared.kind.Kind.{Kind}
