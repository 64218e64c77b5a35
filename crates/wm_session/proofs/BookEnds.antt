-- What a book that is over hands back.
use Rattle.std.proofs.Common.{◌≡◌, ℕ, ◌≤◌, List, [], ◌++◌, Option, Some, None, IsNone, IfSome, Result, Ok, Err, OnOk, IfErr, refl, sym, ◌∙◌, ap, subst, arith}
use Rattle.wm_session.proofs.Words.{AreNumberedFrom, BookInvariant, BookState, Command, EndsBy, Event, Failed, HasCommands, HasPrefix, Inputs, IsGivenBut, IsSessionStatus, IsTextWritten, LinesInvariant, State, Status, Stop, StopCause, Tells, WriteCause, WriteFault, append-nil, commands_of, le_trans, log_text, pending_text, status_by_stop, stop_by_fault}
use Rattle.wm_session.proofs.BookSteps.{LinesInvariant-front, failed_since}
use Rattle.wm_ended.proofs.WrittenTexts.{IsAppended-kept, IsPartAppended-kept}
use Rattle.wm_session.specs.declared.book.Stop.TheVariants as why
use Rattle.wm_ended.specs.declared.status.Status.TheVariants as status
use Rattle.wm_io.specs.declared.writing.WriteFault.TheVariants as fault

done_is : (stop : Option Stop) (ended : Status) → IfSome stop (λ why. ended ≡ status_by_stop why) → ended ≡ status.Done → stop ≡ None
done_is None ended is done = refl
done_is (Some why.KeeperFault) ended is done = absurd cc
done_is (Some why.SinkFault) ended is done = absurd cc
done_is (Some why.Memory) ended is done = absurd cc

pub HasCommands-kept : {K W B : Type 0} {run : Inputs} {tells : Tells K W B} {book : BookState K W B} (ended : Status) (log : List Event)
    → BookInvariant run tells book → log ≡ book.table.log → IfSome book.status (λ why. ended ≡ status_by_stop why)
    → (book.status ≡ None → book.left ≡ []) → HasCommands run.lines ended log
HasCommands-kept {run = run} {book = book} ended log kept same stopped none_left =
    let done = commands_of book.table.log in
    let commands : done ≡ commands_of log = ap commands_of (sym same) in
    record {
      front = subst (HasPrefix run.lines) commands (LinesInvariant-front book.status run.lines done book.left kept.lines);
      numbered = subst (AreNumberedFrom 1) (sym same) kept.numbered;
      all = λ is.
          let going = done_is book.status ended stopped is in
          let lines : run.lines ≡ done ++ book.left = subst (λ status. LinesInvariant status run.lines done book.left) going kept.lines in
          sym (lines ∙ ap (λ (l : List Command). done ++ l) (none_left going) ∙ append-nil done ∙ commands);
    }

-- everything pending was written, where the last write went well
all_written : {P : Type 0} (stop : Option Stop) (written : Result (Unit {0}) WriteFault) (ended : Status)
    → (IsNone stop → IfErr written (λ fault. ended ≡ status_by_stop (stop_by_fault fault))) → stop ≡ None → ended ≡ status.Done → OnOk written P → P
all_written (Some why) written ended refused going done ok = absurd cc
all_written None (Ok value) ended refused going done ok = ok
all_written None (Err fault.Failed) ended refused going done ok = let is : ended ≡ status.SinkFault = refused refl in absurd cc
all_written None (Err fault.Memory) ended refused going done ok = let is : ended ≡ status.Memory = refused refl in absurd cc

pub IsTextWritten-kept : {K W B : Type 0} {run : Inputs} {tells : Tells K W B} {book : BookState K W B} (ended : Status) (first : State) (log : List Event)
    (now : Option (List ℕ)) (left : List ℕ) (written : Result (Unit {0}) WriteFault)
    → BookInvariant run tells book → first ≡ book.table.first → log ≡ book.table.log
    → IsGivenBut (tells.given book.sink) now (pending_text book.table book.pending) left → OnOk written (left ≡ []) → EndsBy book.status written ended
    → IsTextWritten run.written now ended first log
IsTextWritten-kept {run = run} {tells = tells} {book = book} ended first log now left written kept first_is log_is told all ends =
    let text : log_text book.table.first book.table.log ≡ log_text first log =
    ap (log_text book.table.first) (sym log_is) ∙ ap (λ s. log_text s log) (sym first_is) in
    let pending = pending_text book.table book.pending in
    let texts = subst (λ l. IsGivenBut run.written (tells.given book.sink) l pending) text kept.texts in
    record {
      front = IsPartAppended-kept run.written (tells.given book.sink) now (log_text first log) pending left texts told;
      all = λ is.
          let going = done_is book.status ended ends.stopped is in
          IsAppended-kept run.written (tells.given book.sink) now (log_text first log) pending left texts told
          (all_written book.status written ended ends.refused going is all);
    }

-- ---- how it ends

stop_status : (why : Stop) → IsSessionStatus (status_by_stop why)
stop_status why.KeeperFault = tt
stop_status why.SinkFault = tt
stop_status why.Memory = tt

pub IsSessionStatus-ends : (stop : Option Stop) (written : Result (Unit {0}) WriteFault) (ended : Status) → EndsBy stop written ended → IsSessionStatus ended
IsSessionStatus-ends (Some why) written ended ends = subst IsSessionStatus (sym ends.stopped) (stop_status why)
IsSessionStatus-ends None (Ok value) ended ends = subst IsSessionStatus (sym (ends.done refl)) tt
IsSessionStatus-ends None (Err fault) ended ends = subst IsSessionStatus (sym (ends.refused refl)) (stop_status (stop_by_fault fault))

-- a fault of the keeper is answered where it stopped the book
pub keeper_fault-ends : (stop : Option Stop) (written : Result (Unit {0}) WriteFault) (ended : Status) (keeper keeper_now sink sink_now : ℕ)
    → EndsBy stop written ended → StopCause stop keeper keeper_now sink sink_now → ended ≡ status.KeeperFault → Failed keeper keeper_now
keeper_fault-ends (Some why.KeeperFault) written ended keeper keeper_now sink sink_now ends cause is = cause
keeper_fault-ends (Some why.SinkFault) written ended keeper keeper_now sink sink_now ends cause is =
    let clash : status.SinkFault ≡ status.KeeperFault = sym ends.stopped ∙ is in absurd (cc)
keeper_fault-ends (Some why.Memory) written ended keeper keeper_now sink sink_now ends cause is =
    let clash : status.Memory ≡ status.KeeperFault = sym ends.stopped ∙ is in absurd (cc)
keeper_fault-ends None (Ok value) ended keeper keeper_now sink sink_now ends cause is =
    let clash : status.Done ≡ status.KeeperFault = sym (ends.done refl) ∙ is in absurd (cc)
keeper_fault-ends None (Err fault.Failed) ended keeper keeper_now sink sink_now ends cause is =
    let clash : status.SinkFault ≡ status.KeeperFault = sym (ends.refused refl) ∙ is in absurd (cc)
keeper_fault-ends None (Err fault.Memory) ended keeper keeper_now sink sink_now ends cause is =
    let clash : status.Memory ≡ status.KeeperFault = sym (ends.refused refl) ∙ is in absurd (cc)

-- a write leaves the count of faults, or raises it
write_later : (written : Result (Unit {0}) WriteFault) (before now : ℕ) → WriteCause written before now → before ≤ now
write_later (Ok value) before now same = omega arith
write_later (Err fault.Failed) before now failed = failed.later
write_later (Err fault.Memory) before now same = omega arith

-- a fault of the sink is answered where it stopped the book, or where the last write met it
pub sink_fault-ends : (stop : Option Stop) (written : Result (Unit {0}) WriteFault) (ended : Status) (keeper keeper_now start before now : ℕ)
    → EndsBy stop written ended → StopCause stop keeper keeper_now start before → WriteCause written before now → start ≤ before
    → ended ≡ status.SinkFault → Failed start now
sink_fault-ends (Some why.SinkFault) written ended keeper keeper_now start before now ends cause wrote since is =
    let more : before ≤ now = write_later written before now wrote in
    record { later = omega arith; rose = le_trans cause.rose more }
sink_fault-ends (Some why.KeeperFault) written ended keeper keeper_now start before now ends cause wrote since is =
    let clash : status.KeeperFault ≡ status.SinkFault = sym ends.stopped ∙ is in absurd (cc)
sink_fault-ends (Some why.Memory) written ended keeper keeper_now start before now ends cause wrote since is =
    let clash : status.Memory ≡ status.SinkFault = sym ends.stopped ∙ is in absurd (cc)
sink_fault-ends None (Ok value) ended keeper keeper_now start before now ends cause wrote since is =
    let clash : status.Done ≡ status.SinkFault = sym (ends.done refl) ∙ is in absurd (cc)
sink_fault-ends None (Err fault.Failed) ended keeper keeper_now start before now ends cause wrote since is = failed_since start before now wrote since
sink_fault-ends None (Err fault.Memory) ended keeper keeper_now start before now ends cause wrote since is =
    let clash : status.Memory ≡ status.SinkFault = sym (ends.refused refl) ∙ is in absurd (cc)
