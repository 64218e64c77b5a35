-- What a drain does to a table, its bench and the text.
use Rattle.std.specs.Prelude.{◌≡◌, ◌⊎◌, ℕ, ◌+◌, ◌<◌, ◌≤◌, Bool, true, false, List, [], ◌∷◌, ◌++◌, length, None, Result, Ok, Err}
use Rattle.wm_asks.specs.Drains.{GoesAsDrain, IsDrain}
use Rattle.wm_bench.specs.Seat.{Seat}
use Rattle.wm_faults.specs.Faults.{HasCause}
use Rattle.wm_live.specs.Rest.{AreBack, IsAtRest, IsUnderWay}
use Rattle.wm_live.specs.StandState.{StandState}
use Rattle.wm_live.specs.declared.drive.Progress.{Progress}
use Rattle.wm_live.specs.declared.drive.Progress.TheVariants as progress
use Rattle.wm_live.specs.declared.stand.After.{After}
use Rattle.wm_live.specs.declared.stand.After.TheVariants as after
use Rattle.wm_live.specs.declared.stand.Job.{Job}
use Rattle.wm_live.specs.declared.stand.Job.TheVariants as job
use Rattle.wm_machine.specs.First.{first_of}
use Rattle.wm_machine.specs.Quiet.{IsQuiet}
use Rattle.wm_machine.specs.Step.{after as after_event, Legal}
use Rattle.wm_machine.specs.Waiting.{left_to_drain}
use Rattle.wm_machine.specs.declared.command.Command.{Command}
use Rattle.wm_machine.specs.declared.event.Event.{Event}
use Rattle.wm_machine.specs.declared.event.Event.TheVariants as event
use Rattle.wm_machine.specs.declared.reply.Reply.{Reply}
use Rattle.wm_machine.specs.declared.state.State.{State}
use Rattle.wm_engine.specs.TableState.{TicketState}
use Rattle.wm_engine.specs.declared.trouble.Trouble.{Trouble}
use Rattle.wm_engine.specs.declared.trouble.Trouble.TheVariants.{KeeperFault, Memory}
use Rattle.wm_texts.specs.Texts.{last_text, log_text}
use Rattle.wm_worker.specs.declared.kind.Kind.{Kind}

-- ---- events

-- a drain went on by these events, and the text by theirs
pub record HasDrained {K B : Type 0} (old new : StandState K B) : Type 0 where
  pub events : List Event
  pub first : new.table.first ≡ old.table.first
  pub appended : new.table.log ≡ old.table.log ++ events
  pub goes : GoesAsDrain old.table.state events new.table.state
  pub text : new.text ≡ old.text ++ log_text old.table.state events

-- the events that have no text: none, or one, whose text found no memory
abbrev pub IsUntold : Trouble → List Event → Type 0
IsUntold trouble [] = Unit {0}
IsUntold trouble (e ∷ []) = trouble ≡ Memory
IsUntold trouble _ = ⊥

-- the text of events from this state on, of which the last may have none
pub record IsToldOf (trouble : Trouble) (s : State) (events : List Event) (text : List ℕ) : Type 0 where
  pub told : List Event
  pub untold : List Event
  pub events_are : events ≡ told ++ untold
  pub few : IsUntold trouble untold
  pub text_is : text ≡ log_text s told

-- a drain went on by these events, and was cut short by a trouble: no ticket is out, and the workers are back
pub record HasStopped {K B : Type 0} (kind_of : B → Kind) (trouble : Trouble) (old new : StandState K B) : Type 0 where
  pub events : List Event
  pub more : List ℕ
  pub first : new.table.first ≡ old.table.first
  pub appended : new.table.log ≡ old.table.log ++ events
  pub goes : GoesAsDrain old.table.state events new.table.state
  pub text : new.text ≡ old.text ++ more
  pub told : IsToldOf trouble old.table.state events more
  pub few_runs : length new.table.state.runs ≤ 1
  pub none_out : new.table.roll ≡ []
  pub back : AreBack kind_of new.table new.places

-- ---- a start

-- a run began, and is under way
pub record HasBegun {K B : Type 0} (kind_of : B → Kind) (ticket : TicketState) (seat : Seat B) (old new : StandState K B) : Type 0 where
  pub drained : HasDrained old new
  pub under_way : IsUnderWay kind_of ticket new
  pub number : seat.number ≡ ticket.instance
  pub kind : kind_of seat.worker ≡ ticket.kind
  pub fewer : left_to_drain new.table.state < left_to_drain old.table.state

-- a run was driven to its end, or a work couldn't start
pub record HasAdvanced {K B : Type 0} (kind_of : B → Kind) (old new : StandState K B) : Type 0 where
  pub drained : HasDrained old new
  pub rest : IsAtRest kind_of new
  pub fewer : left_to_drain new.table.state < left_to_drain old.table.state

-- nothing is startable, and nothing has changed
pub record HasNothing {K B : Type 0} (old new : StandState K B) : Type 0 where
  pub none_first : first_of old.table.state ≡ None
  pub same : new ≡ old

abbrev pub IsClaimed : {K B M : Type 0} → (B → Kind) → Job B M → StandState K B → StandState K B → Type 0
IsClaimed kind_of (job.Run ticket seat) old new = HasBegun kind_of ticket seat old new
IsClaimed kind_of job.Failed old new = HasAdvanced kind_of old new
IsClaimed kind_of job.None old new = HasNothing old new
IsClaimed kind_of (job.Stopped trouble) old new = HasStopped kind_of trouble old new

-- ---- a turn

-- the run goes on with this ticket, which is at the next turn of at most 1,000, and this seat
pub record HasTurned {K B : Type 0} (kind_of : B → Kind) (ticket next : TicketState) (seat : Seat B) (old new : StandState K B) : Type 0 where
  pub drained : HasDrained old new
  pub under_way : IsUnderWay kind_of next new
  pub number : seat.number ≡ next.instance
  pub kind : kind_of seat.worker ≡ next.kind
  pub next_is : next ≡ record ticket { k = ticket.k + 1 }
  pub turns_left : next.k < 1000
  pub no_more : left_to_drain new.table.state ≤ left_to_drain old.table.state

-- the run is over, and its worker back
pub record HasEnded {K B : Type 0} (kind_of : B → Kind) (old new : StandState K B) : Type 0 where
  pub drained : HasDrained old new
  pub rest : IsAtRest kind_of new
  pub no_more : left_to_drain new.table.state ≤ left_to_drain old.table.state

abbrev pub IsTurned : {K B M : Type 0} → (B → Kind) → TicketState → After B M → StandState K B → StandState K B → Type 0
IsTurned kind_of ticket (after.Go next seat) old new = HasTurned kind_of ticket next seat old new
IsTurned kind_of ticket after.Over old new = HasEnded kind_of old new
IsTurned kind_of ticket (after.Stopped trouble) old new = HasStopped kind_of trouble old new

-- all turns of a run
abbrev pub IsDriven : {K B : Type 0} → (B → Kind) → Result (Unit {0}) Trouble → StandState K B → StandState K B → Type 0
IsDriven kind_of (Ok done) old new = HasEnded kind_of old new
IsDriven kind_of (Err trouble) old new = HasStopped kind_of trouble old new

-- ---- a drain

abbrev pub IsAdvanced : {K B : Type 0} → (B → Kind) → Progress → StandState K B → StandState K B → Type 0
IsAdvanced kind_of progress.Driven old new = HasAdvanced kind_of old new
IsAdvanced kind_of progress.Nothing old new = HasNothing old new
IsAdvanced kind_of (progress.Stopped trouble) old new = HasStopped kind_of trouble old new

-- all that was startable was driven to its end
pub record HasSettled {K B : Type 0} (kind_of : B → Kind) (old new : StandState K B) : Type 0 where
  pub drained : HasDrained old new
  pub rest : IsAtRest kind_of new
  pub quiet : IsQuiet new.table.state

abbrev pub IsDrained : {K B : Type 0} → (B → Kind) → Result (Unit {0}) Trouble → StandState K B → StandState K B → Type 0
IsDrained kind_of (Ok done) old new = HasSettled kind_of old new
IsDrained kind_of (Err trouble) old new = HasStopped kind_of trouble old new

-- ---- a command

-- the text of the table's last event is told
abbrev pub with_last_told : {K B : Type 0} → StandState K B → StandState K B
with_last_told stand = record stand { text = stand.text ++ last_text stand.table.first stand.table.log }

-- its text found no memory
pub record IsLastUntold {K B : Type 0} (trouble : Trouble) (old new : StandState K B) : Type 0 where
  pub memory : trouble ≡ Memory
  pub same : new ≡ old

-- the last event was told, and all that was startable was driven to its end
abbrev pub IsToldAndDrained : {K B : Type 0} → (B → Kind) → Result (Unit {0}) Trouble → StandState K B → StandState K B → Type 0
IsToldAndDrained kind_of (Ok done) old new = HasSettled kind_of (with_last_told old) new
IsToldAndDrained kind_of (Err trouble) old new = IsLastUntold trouble old new ⊎ HasStopped kind_of trouble (with_last_told old) new

-- the command of this line was executed and its reply told, and all that was startable then was driven to its end
pub record IsExecuted {K B : Type 0} (kind_of : B → Kind) (line : ℕ) (asked : Command) (reply : Reply) (old new : StandState K B) : Type 0 where
  pub drain : List Event
  pub first : new.table.first ≡ old.table.first
  pub appended : new.table.log ≡ old.table.log ++ event.Command line asked reply ∷ drain
  pub legal : Legal old.table.state (event.Command line asked reply)
  pub drained : IsDrain (after_event old.table.state (event.Command line asked reply)) drain new.table.state
  pub text : new.text ≡ old.text ++ log_text old.table.state (event.Command line asked reply ∷ drain)
  pub rest : IsAtRest kind_of new

-- the command of this line was executed, and a drain went on by these events
pub record HasGoneOn (s : State) (line : ℕ) (asked : Command) (events : List Event) (now : State) : Type 0 where
  pub reply : Reply
  pub drain : List Event
  pub events_are : events ≡ event.Command line asked reply ∷ drain
  pub legal : Legal s (event.Command line asked reply)
  pub goes : GoesAsDrain (after_event s (event.Command line asked reply)) drain now

-- it wasn't executed
pub record HasNotBegun (s : State) (events : List Event) (now : State) : Type 0 where
  pub none : events ≡ []
  pub same : now ≡ s

-- a command was cut short by a trouble, before its event or after it: no ticket is out
pub record IsCutShort {K B : Type 0} (line : ℕ) (asked : Command) (trouble : Trouble) (old new : StandState K B) : Type 0 where
  pub events : List Event
  pub more : List ℕ
  pub first : new.table.first ≡ old.table.first
  pub appended : new.table.log ≡ old.table.log ++ events
  pub goes : HasNotBegun old.table.state events new.table.state ⊎ HasGoneOn old.table.state line asked events new.table.state
  pub text : new.text ≡ old.text ++ more
  pub told : IsToldOf trouble old.table.state events more
  pub few_runs : length new.table.state.runs ≤ 1
  pub none_out : new.table.roll ≡ []

-- ---- the keeper's count of faults

abbrev pub is_keeper_fault : Trouble → Bool
is_keeper_fault KeeperFault = true
is_keeper_fault Memory = false

-- it rose where there was trouble with the keeper, and any other answer leaves it
abbrev pub ClaimCause : {B M : Type 0} → Job B M → ℕ → ℕ → Type 0
ClaimCause (job.Stopped trouble) before now = HasCause (is_keeper_fault trouble) before now
ClaimCause _ before now = HasCause false before now

abbrev pub TurnCause : {B M : Type 0} → After B M → ℕ → ℕ → Type 0
TurnCause (after.Stopped trouble) before now = HasCause (is_keeper_fault trouble) before now
TurnCause _ before now = HasCause false before now

abbrev pub AdvanceCause : Progress → ℕ → ℕ → Type 0
AdvanceCause (progress.Stopped trouble) before now = HasCause (is_keeper_fault trouble) before now
AdvanceCause _ before now = HasCause false before now
