-- What is over that was to open a store, once its script was read.
use Rattle.std.specs.Prelude.{◌≡◌, ℕ, Bool, true, false, List, [], ◌∷◌, ◌++◌, Option, IfSome, MatchBool}
use Rattle.wm_beginning.specs.Caused.{IsCausedOnceRead}
use Rattle.wm_beginning.specs.NotBegun.{IsOpeningRefused}
use Rattle.wm_bench.specs.declared.hand.Hand.{Hand}
use Rattle.wm_data.specs.declared.data.DataEntry.{DataEntry}
use Rattle.wm_ended.specs.Ended.{IsSessionStatus, IsTextWritten}
use Rattle.wm_ended.specs.Tells.{Tells}
use Rattle.wm_ended.specs.declared.ended.Ended.{Ended}
use Rattle.wm_ended.specs.declared.status.Status.{Status}
use Rattle.wm_ended.specs.declared.status.Status.TheVariants as status
use Rattle.wm_faults.specs.Faults.{Failed}
use Rattle.wm_keeper.specs.Store.{Store, GoesOn, IsAtMost, TellsOn}
use Rattle.wm_keeper.specs.declared.row.Row.{Row}
use Rattle.wm_machine.specs.Opened.{opening_state, Opened}
use Rattle.wm_machine.specs.Quiet.{IsQuiet}
use Rattle.wm_machine.specs.Replay.{Replay}
use Rattle.wm_machine.specs.Reports.{IsReportedOnce}
use Rattle.wm_machine.specs.declared.event.Event.{Event}
use Rattle.wm_machine.specs.declared.event.Event.TheVariants as event
use Rattle.wm_machine.specs.declared.state.Instance.{Instance}
use Rattle.wm_machine.specs.declared.state.State.{State}
use Rattle.wm_seating.specs.Hands.{instances_from, AreHandsBack}
use Rattle.wm_engine.specs.Inputs.{Inputs}
use Rattle.wm_engine.specs.Rows.{HoldsRowsOf}
use Rattle.wm_worker.specs.declared.kind.Kind.{Kind}

-- the first state is the one that some rows open to with these instances, and where the rows held are told, they are these
pub record IsOpenedFrom (held : Option (List Row)) (instances : List Instance) (first : State) : Type 0 where
  pub rows : List Row
  pub told : IfSome held (λ kept. rows ≡ kept)
  pub opened : Opened rows instances first

-- the table was begun: the log replays from the rows opened to the last state
pub record HasReplayed (held : Option (List Row)) (instances : List Instance) (first : State) (log : List Event) (last : State) : Type 0 where
  pub opened : IsOpenedFrom held instances first
  pub replay : Replay first log last

-- it wasn't: nothing has happened
pub record HasNotBegun (first : State) (log : List Event) (last : State) : Type 0 where
  pub first_is : first ≡ opening_state [] []
  pub last_is : last ≡ opening_state [] []
  pub no_event : log ≡ []

abbrev pub IsReplayed : Option (List Row) → List Instance → Bool → State → List Event → State → Type 0
IsReplayed held instances began first log last = MatchBool began (HasReplayed held instances first log last) (HasNotBegun first log last)

-- where the table was begun
abbrev pub IsBegunBy : Status → Bool → Type 0
IsBegunBy status.Done began = began ≡ true
IsBegunBy status.SinkFault began = began ≡ true
IsBegunBy status.KeeperFault began = Unit {0}
IsBegunBy status.Memory began = Unit {0}
IsBegunBy _ began = began ≡ false

-- where the keeper tells its rows, they are the last state's, and those of before where the table wasn't begun
abbrev pub AreRowsKept : Bool → State → Store → Store → Type 0
AreRowsKept began last before now = MatchBool began (HoldsRowsOf last now) (IsAtMost before.rows now.rows)

-- on `Done` nothing is left to do
abbrev pub IsQuietOnDone : Status → State → Type 0
IsQuietOnDone ended last = ended ≡ status.Done → IsQuiet last

-- each run that the log starts from the first state is reported once
abbrev pub AreReportedOnce : State → List Event → State → Type 0
AreReportedOnce first log last = (before later : List Event) (run seq instance : ℕ) (input : List DataEntry)
    → log ≡ before ++ event.Start run seq instance input ∷ later
    → IsReportedOnce first run before (event.Start run seq instance input) later last

-- the workers that come back are those of the instances that aren't retired, and those given where the table wasn't begun
abbrev pub AreHandsOf : {B : Type 0} → (B → Kind) → Bool → State → List (Hand B) → List (Hand B) → Type 0
AreHandsOf kind_of began last hands back = MatchBool began (AreHandsBack kind_of last back) (back ≡ hands)

-- A table that was begun is over, of what its run was given: the log replays from the state that its rows open to, on `Done` nothing is left to do, its
-- text was written, the rows kept are the last state's, and the workers whose class wasn't retired come back. A fault is answered where one was met.
pub record IsTableOver {K W B : Type 0} (tells : Tells K W B) (run : Inputs) (ended : Ended K W B) : Type 0 where
  pub status_is : IsSessionStatus ended.status
  pub began : ended.began ≡ true
  pub at_opening : ended.at_opening ≡ false
  pub opened : Opened run.rows run.instances ended.first
  pub replay : Replay ended.first ended.log ended.last
  pub quiet : IsQuietOnDone ended.status ended.last
  pub bytes : IsTextWritten run.written (tells.given ended.sink) ended.status ended.first ended.log
  pub rows : HoldsRowsOf ended.last (tells.store ended.keeper)
  pub tells_on : TellsOn run.store (tells.store ended.keeper)
  pub hands : AreHandsBack tells.kind_of ended.last ended.hands.items
  pub keeper_fault : ended.status ≡ status.KeeperFault → Failed run.store.faults (tells.store ended.keeper).faults
  pub sink_fault : ended.status ≡ status.SinkFault → Failed run.sink_faults (tells.sink_faults ended.sink)

-- What is over that was to open a store once its lines were read, whatever executes them, and that was given these workers, this keeper, of a store of
-- this name, where it tells it, and this sink. The keeper told these rows before, and they are held where it tells rows to the end. Each fact is the
-- promise of `run` of that name, but for the causes, which are several, and the last one, which says what is told.
pub record IsRunOver {K W B : Type 0} (tells : Tells K W B) (hands : List (Hand B)) (name : Option (List ℕ)) (held before : Option (List Row)) (keeper : K)
    (sink : W) (ended : Ended K W B) : Type 0 where
  pub replay : IsReplayed held (instances_from tells.kind_of 0 hands) ended.began ended.first ended.log ended.last
  pub replay_left : (image : List Row) → (tells.store ended.keeper).images image
      → IsReplayed before (instances_from tells.kind_of 0 hands) ended.began ended.first ended.log ended.last
  pub begun : IsBegunBy ended.status ended.began
  pub at_opening : IsOpeningRefused ended.began ended.at_opening ended.status held (instances_from tells.kind_of 0 hands) (tells.store keeper) (tells.store ended.keeper)
  pub not_begun_keeps : ended.began ≡ false → ended.sink ≡ sink
  pub rows : AreRowsKept ended.began ended.last (tells.store keeper) (tells.store ended.keeper)
  pub store_is : ended.began ≡ true → IsAtMost name (tells.store ended.keeper).name
  pub bytes : IsTextWritten (tells.given sink) (tells.given ended.sink) ended.status ended.first ended.log
  pub end : IsQuietOnDone ended.status ended.last
  pub hands_back : AreHandsOf tells.kind_of ended.began ended.last hands ended.hands.items
  pub causes : IsCausedOnceRead tells held keeper ended.keeper sink ended.sink ended.status
  pub goes_on : GoesOn (tells.store keeper) (tells.store ended.keeper)
