-- What is loaded of a store, and what its keeper tells then.
use Rattle.std.specs.Prelude.{◌≡◌, ◌≤◌, ℕ, List, [], Some, IfSome, Vec, vec_len}
use Rattle.std.specs.declared.alloc.Global.{Global}
use Rattle.wm_beginning.specs.declared.loading.Loaded.{Loaded}
use Rattle.wm_bench.specs.Places.{most_hands}
use Rattle.wm_bench.specs.declared.hand.Hand.{Hand}
use Rattle.wm_keeper.specs.Store.{Store, IsAtMost, IsLoaded, IsStoreKept, KeepsTelling}
use Rattle.wm_keeper.specs.declared.row.Row.{Row}
use Rattle.wm_seating.specs.Hands.{instances_from}
use Rattle.wm_worker.specs.declared.kind.Kind.{Kind}

-- what a keeper that loaded these rows tells, beside what it told before
pub record HasLoaded (name : List ℕ) (rows : List Row) (before loaded : Store) : Type 0 where
  pub named : IsAtMost (Some name) loaded.name
  pub rows_are : IsLoaded rows before loaded
  pub kept : IsStoreKept before loaded
  pub telling : KeepsTelling before loaded
  pub no_fault : loaded.faults ≡ before.faults

-- a table may begin with what was loaded: no ticket is out, the instances are the workers', which aren't too many, and the rows are those that the
-- keeper holds
pub record MayBegin {K W B : Type 0} (store : K → Store) (kind_of : B → Kind) (loaded : Loaded K W B) : Type 0 where
  pub roll : loaded.roll.parts ≡ []
  pub instances : loaded.instances ≡ instances_from kind_of 0 loaded.hands.items
  pub few_hands : vec_len loaded.hands ≤ most_hands
  pub rows : IfSome (store loaded.keeper).rows (λ held. loaded.rows.items ≡ held)

-- this was loaded by this keeper of the store of this name, for these workers, beside this sink
pub record IsLoadedOf {K W B : Type 0} (store : K → Store) (kind_of : B → Kind) (name : List ℕ) (hands : Vec (Hand B) Global) (keeper : K) (sink : W)
    (loaded : Loaded K W B) : Type 0 where
  pub may_begin : MayBegin store kind_of loaded
  pub stored : HasLoaded name loaded.rows.items (store keeper) (store loaded.keeper)
  pub sink_is : loaded.sink ≡ sink
  pub hands_are : loaded.hands ≡ hands
