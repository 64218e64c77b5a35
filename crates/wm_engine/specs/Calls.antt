-- What a call does to the state, to the log of the events and to the rows held.
use Rattle.std.specs.Prelude.{◌≡◌, ◌⊎◌, ℕ, ◌+◌, Bool, true, false, List, [], ◌∷◌, ◌++◌, Option, Some, None, IsSomeAnd, Result, Ok, Err}
use Rattle.wm_data.specs.declared.data.DataEntry.{DataEntry}
use Rattle.wm_faults.specs.Faults as faults
use Rattle.wm_keeper.specs.Store.{Store, IsAtMost}
use Rattle.wm_keeper.specs.declared.row.Row.{Row}
use Rattle.wm_machine.specs.First.{first_of}
use Rattle.wm_machine.specs.Role as role
use Rattle.wm_machine.specs.Role.{HasGiven, Reported}
use Rattle.wm_machine.specs.Rows.{rows_of}
use Rattle.wm_machine.specs.Runs.{run_numbered}
use Rattle.wm_machine.specs.Step.{Legal, after, role_of}
use Rattle.wm_machine.specs.declared.command.Command.{Command}
use Rattle.wm_machine.specs.declared.event.Event.{Event}
use Rattle.wm_machine.specs.declared.event.Event.TheVariants as event
use Rattle.wm_machine.specs.declared.reply.Reply.{Reply}
use Rattle.wm_machine.specs.declared.state.Run.{Run}
use Rattle.wm_machine.specs.declared.state.State.{State}
use Rattle.wm_roll.specs.Parts.{without}
use Rattle.wm_runs.specs.Reports.{wants_more, CountsIn, IsOut}
use Rattle.wm_runs.specs.declared.starting.Claimed.{Claimed}
use Rattle.wm_runs.specs.declared.starting.Claimed.TheVariants as claimed
use Rattle.wm_settings.specs.Builds.{IsExecuted}
use Rattle.wm_changes.specs.declared.change.StepChange.{StepChange}
use Rattle.wm_engine.specs.Images.{IsNoLine, WouldLeave}
use Rattle.wm_engine.specs.Rows.{HoldsRowsOf}
use Rattle.wm_steps.specs.Stored.{LeavesOnly}
use Rattle.wm_engine.specs.Parts.{WasOut}
use Rattle.wm_engine.specs.TableState.{TableState, TicketState, ticket_of}
use Rattle.wm_engine.specs.declared.engine.Claim.{Claim}
use Rattle.wm_engine.specs.declared.engine.Claim.TheVariants as claim
use Rattle.wm_engine.specs.declared.trouble.Trouble.{Trouble}
use Rattle.wm_engine.specs.declared.trouble.Trouble.TheVariants as trouble
use Rattle.wm_engine.specs.declared.engine.TurnAnswer.{TurnAnswer}
use Rattle.wm_engine.specs.declared.engine.TurnAnswer.TheVariants as turn
use Rattle.wm_worker.specs.Answers.{given_of}
use Rattle.wm_worker.specs.Told.{Report}
use Rattle.wm_worker.specs.declared.answer.Given.{Given}
use Rattle.wm_worker.specs.declared.answer.Given.TheVariants.{More}

-- ---- one event

-- one step of the machine: its event is appended, the state is the one after it, and the rows held, where they are told, are the new state's; a
-- crash leaves just these, where it left just the old state's before
pub record IsOneStep {K : Type 0} (store : K → Store) (e : Event) (old new : TableState K) : Type 0 where
  pub first : new.first ≡ old.first
  pub legal : Legal old.state e
  pub state : new.state ≡ after old.state e
  pub appended : new.log ≡ old.log ++ e ∷ []
  pub rows : HoldsRowsOf new.state (store new.keeper)
  pub images : LeavesOnly (rows_of old.state) (store old.keeper) → LeavesOnly (rows_of new.state) (store new.keeper)

-- the reply in an event, where that is a line's
abbrev pub reply_in : Event → Option Reply
reply_in (event.Command line asked reply) = Some reply
reply_in _ = None

-- what a command comes to, with the reply in its event
pub record IsReplied (s : State) (line : ℕ) (asked : Command) (change : StepChange) (reply : Reply) : Type 0 where
  pub executed : IsExecuted s line asked change
  pub event_is : change.event ≡ event.Command line asked reply

-- state, log and the rows held are as they were; a crash leaves what it could leave before, or what an event of these would have left, which was
-- being committed
pub record IsUntouched {K : Type 0} (store : K → Store) (may_be : Event → Type 0) (old new : TableState K) : Type 0 where
  pub first : new.first ≡ old.first
  pub state : new.state ≡ old.state
  pub log : new.log ≡ old.log
  pub rows : IsAtMost (store old.keeper).rows (store new.keeper).rows
  pub images : (image : List Row) → (store new.keeper).images image → (store old.keeper).images image ⊎ WouldLeave may_be old.state image

abbrev pub is_keeper_fault : {T : Type 0} → Result T Trouble → Bool
is_keeper_fault (Err trouble.KeeperFault) = true
is_keeper_fault _ = false

-- `KeeperFault` comes only where the keeper's count rose, and any other answer leaves it
abbrev pub TroubleCause : {T : Type 0} → Result T Trouble → ℕ → ℕ → Type 0
TroubleCause result before now = faults.HasCause (is_keeper_fault result) before now

-- ---- claim

-- the run of this number stands in the state, and the ticket holds what it keeps
abbrev pub IsTicketIn : State → TicketState → Type 0
IsTicketIn s ticket = IsSomeAnd (run_numbered ticket.task.run s.runs) (λ run. ticket ≡ ticket_of run)

-- nothing is startable, and nothing has changed
pub record IsNothingClaimed {K : Type 0} (old new : TableState K) : Type 0 where
  pub none_first : first_of old.state ≡ None
  pub same : new ≡ old

-- a run began, and the ticket is its
pub record IsRunClaimed {K : Type 0} (store : K → Store) (ticket : TicketState) (old new : TableState K) : Type 0 where
  pub step : IsOneStep store (event.Start ticket.task.run ticket.seq ticket.instance ticket.task.input) old new
  pub ticket_in : IsTicketIn new.state ticket

-- none where nothing is startable, else one event: the start of the work that is first, or that it couldn't start
abbrev pub IsClaimAnswer : {K M : Type 0} → (K → Store) → Option (Claim M) → TableState K → TableState K → Type 0
IsClaimAnswer store None old new = IsNothingClaimed old new
IsClaimAnswer store (Some (claim.Run ticket)) old new = IsRunClaimed store ticket old new
IsClaimAnswer store (Some (claim.Failed seq cause)) old new = IsOneStep store (event.StartFailed seq cause) old new

-- a run that was claimed is in the state, and took this input
abbrev pub HasClaimed : State → Claimed → Type 0
HasClaimed s (claimed.Run number input) = IsSomeAnd (run_numbered number s.runs) (λ run. input ≡ run.input)
HasClaimed s (claimed.Failed seq cause) = Unit {0}

-- what is answered of what was claimed: the ticket of its run, or that the work couldn't start
abbrev pub IsClaim : {M : Type 0} → State → Claimed → Claim M → Type 0
IsClaim s (claimed.Run number input) (claim.Run ticket) = (ticket.task.run ≡ number) × (ticket.task.input ≡ input) × IsTicketIn s ticket
IsClaim s (claimed.Failed seq cause) (claim.Failed failed why) = (failed ≡ seq) × (why ≡ cause)
IsClaim s _ _ = ⊥

-- ---- turn

-- the run of this number is over, by an event that ends it as was told, or for want of the turn that was wanted
pub record IsFinished {K : Type 0} (store : K → Store) (number : ℕ) (told : Report) (old new : TableState K) : Type 0 where
  pub ending : Event
  pub reported : Reported
  pub gave : Given
  pub told_is : given_of told.answer ≡ Some gave
  pub has_given : HasGiven reported gave
  pub ends : role_of ending ≡ role.Ends number reported
  pub step : IsOneStep store ending old new

-- the run of this number is at its next turn, as was told, by an event of which the keeper learns nothing, and keeps what it took
pub record IsTurned {K : Type 0} (store : K → Store) (number : ℕ) (told : Report) (old new : TableState K) : Type 0 where
  pub progress : Option (List DataEntry)
  pub told_is : given_of told.answer ≡ Some (More progress)
  pub step : IsOneStep store (event.Turn number progress) old new
  pub keeper : new.keeper ≡ old.keeper
  pub input : IsSomeAnd (run_numbered number new.state.runs) (λ run. told.input ≡ run.input)

-- the report counts, and the run is over
pub record IsTurnOver {K : Type 0} (store : K → Store) (ticket : TicketState) (told : Report) (old new : TableState K) : Type 0 where
  pub counts : CountsIn old.state ticket.task.run told
  pub finished : IsFinished store ticket.task.run told old new

-- the report counts, and the run goes on, by an event of which the keeper learns nothing: the next ticket is of the same run, and holds what
-- that keeps
pub record HasGoneOn {K : Type 0} (store : K → Store) (ticket : TicketState) (told : Report) (next : TicketState) (old new : TableState K)
    : Type 0 where
  pub progress : Option (List DataEntry)
  pub counts : CountsIn old.state ticket.task.run told
  pub told_is : given_of told.answer ≡ Some (More progress)
  pub step : IsOneStep store (event.Turn ticket.task.run progress) old new
  pub keeper : new.keeper ≡ old.keeper
  pub same_run : next.task.run ≡ ticket.task.run
  pub ticket_in : IsTicketIn new.state next

-- the run of this number, which was stopped, is away, by an event of which the keeper learns nothing
pub record IsReturned {K : Type 0} (store : K → Store) (number : ℕ) (old new : TableState K) : Type 0 where
  pub stopped : IsOut old.state number false
  pub step : IsOneStep store (event.Late number) old new
  pub keeper : new.keeper ≡ old.keeper

-- the report doesn't count, and the run wasn't stopped: the ticket is given back, and nothing has changed
pub record IsTurnKept {K : Type 0} (ticket : TicketState) (told : Report) (back : TicketState) (old new : TableState K) : Type 0 where
  pub goes_on : IsOut old.state ticket.task.run false → ⊥
  pub counts_not : CountsIn old.state ticket.task.run told → ⊥
  pub same_ticket : back ≡ ticket
  pub same : new ≡ old

-- the report counts and there was trouble: ticket and report are given back, and the table is untouched
pub record IsTurnRefused {K : Type 0} (store : K → Store) (ticket : TicketState) (told : Report) (back : TicketState) (report : Report)
    (old new : TableState K) : Type 0 where
  pub counts : CountsIn old.state ticket.task.run told
  pub same_ticket : back ≡ ticket
  pub same_report : report ≡ told
  pub untouched : IsUntouched store IsNoLine old new

-- Go, Finished or TimedOut where the report counts, with its event: TimedOut where it asks for one more turn; Late where the run was stopped, whatever
-- it says; Again where it doesn't count; Refused where it counts and there is trouble
abbrev pub IsTurnAnswer : {K M : Type 0} → (K → Store) → TicketState → Report → TurnAnswer M → TableState K → TableState K → Type 0
IsTurnAnswer store ticket told (turn.Go next) old new = HasGoneOn store ticket told next old new
IsTurnAnswer store ticket told turn.Finished old new = IsTurnOver store ticket told old new × (wants_more (given_of told.answer) ≡ false)
IsTurnAnswer store ticket told turn.TimedOut old new = IsTurnOver store ticket told old new × (wants_more (given_of told.answer) ≡ true)
IsTurnAnswer store ticket told turn.Late old new = IsReturned store ticket.task.run old new
IsTurnAnswer store ticket told (turn.Again back) old new = IsTurnKept ticket told back old new
IsTurnAnswer store ticket told (turn.Refused back report why) old new = IsTurnRefused store ticket told back report old new

abbrev pub is_refused_for_keeper : {M : Type 0} → TurnAnswer M → Bool
is_refused_for_keeper (turn.Refused same report trouble.KeeperFault) = true
is_refused_for_keeper _ = false

-- `KeeperFault` comes only where the keeper's count rose, and any other answer leaves it
abbrev pub TurnCause : {M : Type 0} → TurnAnswer M → ℕ → ℕ → Type 0
TurnCause answer before now = faults.HasCause (is_refused_for_keeper answer) before now

-- a ticket came back late: its run was stopped, and is away
pub record IsLate {K : Type 0} (store : K → Store) (ticket : TicketState) (old new : TableState K) : Type 0 where
  pub returned : IsReturned store ticket.task.run old new
  pub out : WasOut old.state old.roll ticket
  pub roll : new.roll ≡ without ticket.task.run old.roll

-- its run wasn't stopped: it is given back, and nothing has changed
pub record IsNotLate {K : Type 0} (ticket back : TicketState) (old new : TableState K) : Type 0 where
  pub goes_on : IsOut old.state ticket.task.run false → ⊥
  pub same_ticket : back ≡ ticket
  pub same : new ≡ old

-- Ok where the run was stopped, with its event; the ticket where it wasn't
abbrev pub IsLateAnswer : {K M : Type 0} → (K → Store) → TicketState → Result M TicketState → TableState K → TableState K → Type 0
IsLateAnswer store ticket (Ok done) old new = IsLate store ticket old new
IsLateAnswer store ticket (Err back) old new = IsNotLate ticket back old new
