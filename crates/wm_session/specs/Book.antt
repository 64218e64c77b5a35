-- What the calls of a book do.
use Rattle.std.specs.Prelude.{◌≡◌, ◌≢◌, ◌⊎◌, ℕ, ◌+◌, ◌<◌, ◌≤◌, Bool, false, List, [], ◌∷◌, ◌++◌, Option, Some, None, IsSome, Result, Ok, Err}
use Rattle.std.specs.declared.alloc.AllocError.{AllocError}
use Rattle.wm_bench.specs.Places.{changed_at, idle_at, made_away, made_back}
use Rattle.wm_bench.specs.Seat.{Seat}
use Rattle.wm_keeper.specs.Store.{Store}
use Rattle.wm_machine.specs.First.{first_of}
use Rattle.wm_machine.specs.Quiet.{IsQuiet}
use Rattle.wm_machine.specs.Waiting.{left_to_drain}
use Rattle.wm_machine.specs.declared.command.Command.{Command}
use Rattle.wm_machine.specs.declared.command.Command.TheVariants as command
use Rattle.wm_machine.specs.declared.event.Cause.{Cause}
use Rattle.wm_machine.specs.declared.event.Event.{Event}
use Rattle.wm_machine.specs.declared.event.Event.TheVariants as event
use Rattle.wm_machine.specs.declared.reply.Reply.{Reply}
use Rattle.wm_machine.specs.declared.state.State.{State}
use Rattle.wm_seating.specs.Bench.{places_after}
use Rattle.wm_session.specs.BookState.{BookState}
use Rattle.wm_io.specs.Pending.{nothing}
use Rattle.wm_roll.specs.Parts.{without}
use Rattle.wm_runs.specs.Reports.{CountsIn, IsOut}
use Rattle.wm_engine.specs.Images.{IsLine, IsNoLine}
use Rattle.wm_engine.specs.Parts.{ticket_part, WasOut}
use Rattle.wm_engine.specs.Rolls.{given_again}
use Rattle.wm_engine.specs.Calls.{HasGoneOn, IsClaimAnswer, IsOneStep, IsReturned, IsTurnOver, IsUntouched, IsTicketIn}
use Rattle.wm_engine.specs.TableState.{TableState, TicketState}
use Rattle.wm_engine.specs.declared.engine.Claim.{Claim}
use Rattle.wm_session.specs.declared.book.After.{After}
use Rattle.wm_session.specs.declared.book.After.TheVariants as after
use Rattle.wm_session.specs.declared.book.Front.{Front}
use Rattle.wm_session.specs.declared.book.Front.TheVariants as front
use Rattle.wm_session.specs.declared.book.Job.{Job}
use Rattle.wm_session.specs.declared.book.Job.TheVariants as job
use Rattle.wm_session.specs.declared.book.Stop.{Stop}
use Rattle.wm_worker.specs.Signal.{SignalState}
use Rattle.wm_worker.specs.Told.{Report}
use Rattle.wm_worker.specs.declared.kind.Kind.{Kind}

-- the session went on and goes on, and what was to be written is written
pub record GoesOn {K W B : Type 0} (old new : BookState K W B) : Type 0 where
  pub before : old.status ≡ None
  pub now : new.status ≡ None
  pub written : new.pending ≡ nothing

-- a session that had stopped before stays so: its status, its sink and what is pending are as they were
pub record StaysStopped {K W B : Type 0} (old new : BookState K W B) : Type 0 where
  pub status : new.status ≡ old.status
  pub sink : new.sink ≡ old.sink
  pub pending : new.pending ≡ old.pending

-- the session goes on, but for this reason nothing changes
pub record IsAsBefore {K W B : Type 0} (reason : Type 0) (old new : BookState K W B) : Type 0 where
  pub going : old.status ≡ None
  pub why : reason
  pub book_is : new ≡ old

-- an event was made at the table, while the session went on, by which no more works are left to drain; the lines that are left stay
pub record IsMade {K W B : Type 0} (event : TableState K → TableState K → Type 0) (old new : BookState K W B) : Type 0 where
  pub before : old.status ≡ None
  pub made : event old.table new.table
  pub left : new.left ≡ old.left
  pub no_more : left_to_drain new.table.state ≤ left_to_drain old.table.state

-- the session has stopped early without an event, or had before; nothing else is different
pub record HasStopped {K W B : Type 0} (store : K → Store) (old new : BookState K W B) : Type 0 where
  pub status : IsSome new.status
  pub stays : IsSome old.status → StaysStopped old new
  pub table : IsUntouched store IsNoLine old.table new.table
  pub left : new.left ≡ old.left

-- so it has, or stopped while such an event was told
abbrev pub StopsAfter : {K W B : Type 0} → (K → Store) → (TableState K → TableState K → Type 0) → BookState K W B → BookState K W B → Type 0
StopsAfter store event old new = HasStopped store old new ⊎ (IsSome new.status × IsMade event old new)

-- ---- a line

-- the first of these lines settles
abbrev pub SettlesNext : List Command → Type 0
SettlesNext [] = ⊥
SettlesNext (asked ∷ lines) = asked ≡ command.Settle

-- a line may come that is the next one: where it settles there is nothing left to do
abbrev pub MayCome : List Command → State → Type 0
MayCome lines s = SettlesNext lines → IsQuiet s

-- while the session went on the next line was executed, in one step, which leaves the roll, and a class that it retires is retired on the bench
pub record IsLineDone {K W B : Type 0} (store : K → Store) (kind_of : B → Kind) (old new : BookState K W B) : Type 0 where
  pub before : old.status ≡ None
  pub command : Command
  pub reply : Reply
  pub next : old.left ≡ command ∷ new.left
  pub step : IsOneStep store (event.Command (old.line + 1) command reply) old.table new.table
  pub places : new.places ≡ places_after kind_of command old.places
  pub roll : new.table.roll ≡ old.table.roll

-- the next line, which could come, was executed and its reply told
pub record HasMoved {K W B : Type 0} (store : K → Store) (kind_of : B → Kind) (old new : BookState K W B) : Type 0 where
  pub goes_on : GoesOn old new
  pub could_come : MayCome old.left old.table.state
  pub line : IsLineDone store kind_of old new

-- an event of the next of these lines, of which so many were executed
abbrev pub IsNextLine : ℕ → List Command → Event → Type 0
IsNextLine line [] e = ⊥
IsNextLine line (asked ∷ lines) e = IsLine (line + 1) asked e

-- a line is left, but it settles, and there is something left to do
abbrev pub MustWait : List Command → State → Type 0
MustWait lines s = (lines ≢ []) × (MayCome lines s → ⊥)

-- no line was executed, though the next one may have been being committed
pub record IsNoLineDone {K W B : Type 0} (store : K → Store) (old new : BookState K W B) : Type 0 where
  pub table : IsUntouched store (IsNextLine old.line old.left) old.table new.table
  pub places : new.places ≡ old.places
  pub roll : new.table.roll ≡ old.table.roll

-- the session has stopped early, with or without the next line's event, or had before
pub record IsFrontStopped {K W B : Type 0} (store : K → Store) (kind_of : B → Kind) (old new : BookState K W B) : Type 0 where
  pub status : IsSome new.status
  pub stays : IsSome old.status → StaysStopped old new
  pub how : IsNoLineDone store old new ⊎ IsLineDone store kind_of old new

-- Moved where a line was executed; NotSettled where one is left that can't come yet; Ended where none is left; Stopped where the
-- session has stopped early
abbrev pub IsFronted : {K W B : Type 0} → (K → Store) → (B → Kind) → Front → BookState K W B → BookState K W B → Type 0
IsFronted store kind_of front.Moved old new = HasMoved store kind_of old new
IsFronted store kind_of front.NotSettled old new = IsAsBefore (MustWait old.left old.table.state) old new
IsFronted store kind_of front.Ended old new = IsAsBefore (old.left ≡ []) old new
IsFronted store kind_of front.Stopped old new = IsFrontStopped store kind_of old new

-- ---- the end

-- a session is over: it has stopped early, or no line is left and there is nothing left to do
abbrev pub IsSessionOver : {K W B : Type 0} → BookState K W B → Type 0
IsSessionOver book = IsSome book.status ⊎ ((book.left ≡ []) × IsQuiet book.table.state)

-- ---- a start

-- a run began: its ticket holds what it keeps, its part is on the roll, the worker of its instance is out with the seat, its signal may be raised
-- or never is, and fewer works are left to drain
pub record IsBegun {K W B : Type 0} (store : K → Store) (kind_of : B → Kind) (never : Bool) (ticket : TicketState) (seat : Seat B) (signal : SignalState)
    (old new : BookState K W B) : Type 0 where
  pub goes_on : GoesOn old new
  pub step : IsOneStep store (event.Start ticket.task.run ticket.seq ticket.instance ticket.task.input) old.table new.table
  pub ticket_in : IsTicketIn new.table.state ticket
  pub roll : new.table.roll ≡ old.table.roll ++ ticket_part ticket ∷ []
  pub number : seat.number ≡ ticket.instance
  pub kind : kind_of seat.worker ≡ ticket.kind
  pub worker : idle_at ticket.instance old.places ≡ Some seat.worker
  pub places : new.places ≡ changed_at (made_away kind_of) ticket.instance old.places
  pub signal_is : signal ≡ record { run = ticket.task.run; never = never }
  pub left : new.left ≡ old.left
  pub fewer : left_to_drain new.table.state < left_to_drain old.table.state

-- a work couldn't start, and fewer are left to drain
pub record IsStartFailed {K W B : Type 0} (store : K → Store) (old new : BookState K W B) : Type 0 where
  pub seq : ℕ
  pub cause : Cause
  pub goes_on : GoesOn old new
  pub step : IsOneStep store (event.StartFailed seq cause) old.table new.table
  pub places : new.places ≡ old.places
  pub roll : new.table.roll ≡ old.table.roll
  pub left : new.left ≡ old.left
  pub fewer : left_to_drain new.table.state < left_to_drain old.table.state

-- a work was started, or couldn't start: a run that began stays in the state
abbrev pub HasClaimed : {K : Type 0} → Type 0 → (K → Store) → TableState K → TableState K → Type 0
HasClaimed M store old new = (claimed : Claim M) × IsClaimAnswer store (Some claimed) old new

-- the session has stopped early, with or without the event of a claim; bench and roll are as they were
pub record IsClaimStopped {K W B : Type 0} (M : Type 0) (store : K → Store) (old new : BookState K W B) : Type 0 where
  pub how : StopsAfter store (HasClaimed M store) old new
  pub places : new.places ≡ old.places
  pub roll : new.table.roll ≡ old.table.roll

-- Run where a run began; Failed where the work that is first couldn't start; None where nothing is startable; Stopped where the session has
-- stopped early
abbrev pub IsClaimed : {K W B M : Type 0} → (K → Store) → (B → Kind) → Bool → Job B M → BookState K W B → BookState K W B → Type 0
IsClaimed store kind_of never (job.Run ticket seat signal) old new = IsBegun store kind_of never ticket seat signal old new
IsClaimed store kind_of never job.Failed old new = IsStartFailed store old new
IsClaimed store kind_of never job.None old new = IsAsBefore (first_of old.table.state ≡ None) old new
IsClaimed {M = M} store kind_of never job.Stopped old new = IsClaimStopped M store old new

-- ---- a report

-- a run goes on: its turn was made, the next ticket holds what it keeps, on the same instance and of the same kind, ticket and seat are out as
-- they were, and no more works are left to drain
pub record IsTurnTold {K W B : Type 0} (store : K → Store) (ticket next : TicketState) (seat kept : Seat B) (told : Report)
    (old new : BookState K W B) : Type 0 where
  pub goes_on : GoesOn old new
  pub turn : HasGoneOn store ticket told next old.table new.table
  pub instance : next.instance ≡ ticket.instance
  pub kind : next.kind ≡ ticket.kind
  pub seat_is : kept ≡ seat
  pub out : WasOut old.table.state old.table.roll ticket
  pub roll : new.table.roll ≡ given_again (ticket_part ticket) old.table.roll
  pub places : new.places ≡ old.places
  pub left : new.left ≡ old.left
  pub no_more : left_to_drain new.table.state ≤ left_to_drain old.table.state

-- a run is over by its report, or by its return, where it was stopped
abbrev pub IsLast : {K : Type 0} → (K → Store) → TicketState → Report → TableState K → TableState K → Type 0
IsLast store ticket told old new = IsReturned store ticket.task.run old new ⊎ IsTurnOver store ticket told old new

-- a run is over so, or goes on
abbrev pub IsTurnMade : {K : Type 0} → (K → Store) → TicketState → Report → TableState K → TableState K → Type 0
IsTurnMade store ticket told old new = IsLast store ticket told old new ⊎ ((next : TicketState) × HasGoneOn store ticket told next old new)

-- a run is over by this event, it is off the roll and its worker is back
pub record IsOver {K W B : Type 0} (event : TableState K → TableState K → Type 0) (kind_of : B → Kind) (ticket : TicketState) (seat : Seat B)
    (old new : BookState K W B) : Type 0 where
  pub goes_on : GoesOn old new
  pub over : IsMade event old new
  pub out : WasOut old.table.state old.table.roll ticket
  pub roll : new.table.roll ≡ without ticket.task.run old.table.roll
  pub places : new.places ≡ changed_at (made_back kind_of seat.worker) seat.number old.places

-- what was told doesn't count for the run, which wasn't stopped: ticket and seat come back as they were, and nothing changes
pub record IsAskedAgain {K W B : Type 0} (ticket same : TicketState) (seat kept : Seat B) (told : Report) (old new : BookState K W B) : Type 0 where
  pub going : old.status ≡ None
  pub not_stopped : IsOut old.table.state ticket.task.run false → ⊥
  pub not_counted : CountsIn old.table.state ticket.task.run told → ⊥
  pub ticket_is : same ≡ ticket
  pub seat_is : kept ≡ seat
  pub book_is : new ≡ old

-- a run wasn't stopped, as far as the session went on until its report came
abbrev pub WasNotStopped : {K W B : Type 0} → TicketState → BookState K W B → Type 0
WasNotStopped ticket old = old.status ≡ None → IsOut old.table.state ticket.task.run false → ⊥

-- the session has stopped early, or had before, without an event of the run, which wasn't stopped, or with such a one, which for a run that was
-- stopped is its return; the run is off the roll, and its worker is back
pub record IsGivenBack {K W B : Type 0} (store : K → Store) (event : TableState K → TableState K → Type 0) (kind_of : B → Kind)
    (ticket : TicketState) (seat : Seat B) (old new : BookState K W B) : Type 0 where
  pub how : (HasStopped store old new × WasNotStopped ticket old) ⊎ (IsSome new.status × IsMade event old new)
  pub out : WasOut old.table.state old.table.roll ticket
  pub roll : new.table.roll ≡ without ticket.task.run old.table.roll
  pub places : new.places ≡ changed_at (made_back kind_of seat.worker) seat.number old.places

-- Go and Over where what was told counts, with its event; Over also where the run was stopped, whatever was told or refused; Again where it wasn't,
-- and what was told doesn't count; Stopped where the session has stopped early, as it has where memory was refused to the worker of a run that wasn't
-- stopped
abbrev pub IsReported : {K W B M : Type 0} → (K → Store) → (B → Kind) → TicketState → Seat B → Result Report AllocError → After B M
    → BookState K W B → BookState K W B → Type 0
IsReported store kind_of ticket seat (Ok told) (after.Go next kept) old new = IsTurnTold store ticket next seat kept told old new
IsReported store kind_of ticket seat (Ok told) after.Over old new = IsOver (IsLast store ticket told) kind_of ticket seat old new
IsReported store kind_of ticket seat (Ok told) (after.Again same kept) old new = IsAskedAgain ticket same seat kept told old new
IsReported store kind_of ticket seat (Ok told) after.Stopped old new = IsGivenBack store (IsTurnMade store ticket told) kind_of ticket seat old new
IsReported store kind_of ticket seat (Err refused) after.Over old new = IsOver (IsReturned store ticket.task.run) kind_of ticket seat old new
IsReported store kind_of ticket seat (Err refused) after.Stopped old new =
    IsGivenBack store (IsReturned store ticket.task.run) kind_of ticket seat old new
IsReported store kind_of ticket seat (Err refused) _ old new = ⊥

-- ---- told or not

-- what a call answers whose event was made, where the session goes on or stops as it is told
abbrev pub front_told : Option Stop → Front
front_told None = front.Moved
front_told (Some why) = front.Stopped

abbrev pub failed_told : {B M : Type 0} → Option Stop → Job B M
failed_told None = job.Failed
failed_told (Some why) = job.Stopped

abbrev pub over_told : {B M : Type 0} → Option Stop → After B M
over_told None = after.Over
over_told (Some why) = after.Stopped

-- a book with a ticket off its roll, without an event, and its worker back
abbrev pub with_back : {K W B : Type 0} → (B → Kind) → TicketState → Seat B → BookState K W B → BookState K W B
with_back kind_of ticket seat book = record book {
  table = record book.table { roll = without ticket.task.run book.table.roll };
  places = changed_at (made_back kind_of seat.worker) seat.number book.places;
}
