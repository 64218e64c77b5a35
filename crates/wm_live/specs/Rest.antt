-- A table beside its bench while no run is out, and while one is.
use Rattle.std.specs.Prelude.{◌≡◌, ◌≤◌, true, List, [], length, map}
use Rattle.wm_bench.specs.Places.{changed_at, made_back, IsAwayAt}
use Rattle.wm_bench.specs.Seat.{Seat}
use Rattle.wm_bench.specs.declared.place.Place.{Place}
use Rattle.wm_live.specs.StandState.{StandState}
use Rattle.wm_machine.specs.Replay.{Replay}
use Rattle.wm_machine.specs.Runs.{other_runs}
use Rattle.wm_machine.specs.Valid.{Valid}
use Rattle.wm_roll.specs.Parts.{without}
use Rattle.wm_runs.specs.Reports.{IsOut}
use Rattle.wm_seating.specs.Bench.{instance_traits, place_traits, NoneAway}
use Rattle.wm_seating.specs.Idle.{IsIdle}
use Rattle.wm_engine.specs.Calls.{IsTicketIn}
use Rattle.wm_engine.specs.TableState.{TableState, TicketState}
use Rattle.wm_worker.specs.declared.kind.Kind.{Kind}

-- the workers are the instances, and none of them is away
pub record AreBack {K B : Type 0} (kind_of : B → Kind) (table : TableState K) (places : List (Place B)) : Type 0 where
  pub workers : map (place_traits kind_of) places ≡ map instance_traits table.state.instances
  pub none_away : NoneAway places

-- table and bench of a stand are idle, and its log replays
pub record IsAtRest {K B : Type 0} (kind_of : B → Kind) (stand : StandState K B) : Type 0 where
  pub replay : Replay stand.table.first stand.table.log stand.table.state
  pub idle : IsIdle kind_of stand.table stand.places

-- the run of a ticket is under way: the log replays, it is current, no other run is unreturned and no other ticket out, the worker of its instance is away, and once
-- it is back none is
pub record IsUnderWay {K B : Type 0} (kind_of : B → Kind) (ticket : TicketState) (stand : StandState K B) : Type 0 where
  pub replay : Replay stand.table.first stand.table.log stand.table.state
  pub valid : Valid stand.table.state
  pub workers : map (place_traits kind_of) stand.places ≡ map instance_traits stand.table.state.instances
  pub ticket_in : IsTicketIn stand.table.state ticket
  pub current : IsOut stand.table.state ticket.task.run true
  pub few : length stand.table.state.runs ≤ 1
  pub alone : other_runs ticket.task.run stand.table.state.runs ≡ []
  pub alone_out : without ticket.task.run stand.table.roll ≡ []
  pub away : IsAwayAt ticket.instance ticket.kind stand.places
  pub others : (back : B) → NoneAway (changed_at (made_back kind_of back) ticket.instance stand.places)

-- a ticket is off the roll, without an event, and its worker back
abbrev pub with_back : {K B : Type 0} → (B → Kind) → TicketState → Seat B → StandState K B → StandState K B
with_back kind_of ticket seat stand = record stand {
  table = record stand.table { roll = without ticket.task.run stand.table.roll };
  places = changed_at (made_back kind_of seat.worker) seat.number stand.places;
}
