-- How a table without runs agrees with the bench beside it.
use Rattle.std.specs.Prelude.{◌≡◌, List, [], map}
use Rattle.wm_bench.specs.declared.place.Place.{Place}
use Rattle.wm_machine.specs.Valid.{Valid}
use Rattle.wm_seating.specs.Bench.{instance_traits, place_traits, NoneAway}
use Rattle.wm_engine.specs.TableState.{TableState}
use Rattle.wm_worker.specs.declared.kind.Kind.{Kind}

-- the state is valid, the workers are the instances, none of them is away, no run is unreturned and no ticket out
pub record IsIdle {K B : Type 0} (kind_of : B → Kind) (table : TableState K) (places : List (Place B)) : Type 0 where
  pub valid : Valid table.state
  pub workers : map (place_traits kind_of) places ≡ map instance_traits table.state.instances
  pub none_away : NoneAway places
  pub no_run : table.state.runs ≡ []
  pub none_out : table.roll ≡ []
