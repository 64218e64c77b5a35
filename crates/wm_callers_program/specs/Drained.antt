-- What a drain does to the table and the bench that a desk handed back.
use Rattle.std.specs.Prelude.{◌≡◌, ◌⊎◌, List, [], ◌++◌, Option, Some, None}
use Rattle.wm_faults.specs.Faults.{Failed}
use Rattle.wm_keeper.specs.Store.{Store}
use Rattle.wm_live.specs.Rest.{AreBack}
use Rattle.wm_live.specs.StandState.{StandState}
use Rattle.wm_machine.specs.Log.{commands_of}
use Rattle.wm_machine.specs.Quiet.{IsQuiet}
use Rattle.wm_machine.specs.declared.event.Event.{Event}
use Rattle.wm_engine.specs.declared.trouble.Trouble.{Trouble}
use Rattle.wm_engine.specs.declared.trouble.Trouble.TheVariants.{KeeperFault}
use Rattle.wm_worker.specs.declared.kind.Kind.{Kind}

-- the log has gone on by events without a line, no ticket is out, and the workers are back
pub record HasGoneOn {K B : Type 0} (kind_of : B → Kind) (old new : StandState K B) : Type 0 where
  pub events : List Event
  pub appended : new.table.log ≡ old.table.log ++ events
  pub silent : commands_of events ≡ []
  pub none_out : new.table.roll ≡ []
  pub back : AreBack kind_of new.table new.places

-- after a desk that refused a call for this, or none, nothing is refused only where none was and nothing is left to do; the keeper has refused something
-- only where it refused a call, or its count rose since
pub record IsSettled {K B : Type 0} (store : K → Store) (kind_of : B → Kind) (refused at_last : Option Trouble) (old new : StandState K B) : Type 0 where
  pub gone_on : HasGoneOn kind_of old new
  pub quiet : at_last ≡ None → (refused ≡ None) × IsQuiet new.table.state
  pub fault : at_last ≡ Some KeeperFault
      → ((refused ≡ Some KeeperFault) × (new.table.keeper ≡ old.table.keeper)) ⊎ Failed (store old.table.keeper).faults (store new.table.keeper).faults
