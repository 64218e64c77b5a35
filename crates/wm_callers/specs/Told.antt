-- What a desk needs to know of its table.
use Rattle.std.specs.Prelude.{ℕ, List}
use Rattle.wm_keeper.specs.Store.{Store}
use Rattle.wm_machine.specs.declared.event.Event.{Event}
use Rattle.wm_engine.specs.TableState.{TableState}

-- its log, and its keeper's count of faults
pub record TableTold : Type 0 where
  pub log : List Event
  pub faults : ℕ

abbrev pub told_of : {K : Type 0} → (K → Store) → TableState K → TableTold
told_of store table = record { log = table.log; faults = (store table.keeper).faults }
