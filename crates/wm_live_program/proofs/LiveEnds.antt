-- What comes of the asks of a script, from what the calls below gave back.
use Rattle.std.proofs.Common.{◌≡◌, ℕ, List, Some, None, Result, Ok, Err, IfOk, IfErr, refl, sym, ◌∙◌, subst}
use Rattle.atomic_table.specs.Seated.{TableId}
use Rattle.wm_asks.specs.declared.ask.Ask.{Ask}
use Rattle.wm_beginning.proofs.Overs.{opened_told}
use Rattle.wm_beginning.proofs.Unbegun.{caused-loaded, caused-session, goes_on-loaded, not_begun-loaded, told_to_end}
use Rattle.wm_beginning.specs.Begun.{IsGiven}
use Rattle.wm_beginning.specs.Loading.{HasLoaded}
use Rattle.wm_beginning.specs.NotBegun.{IsNotBegun}
use Rattle.wm_beginning.specs.Over.{IsOpenedFrom}
use Rattle.wm_bench.specs.declared.hand.Hand.{Hand}
use Rattle.wm_ended.specs.Ended.{IsSessionStatus}
use Rattle.wm_ended.specs.Tells.{Tells}
use Rattle.wm_ended.specs.declared.not_begun.NotBegun.{NotBegun}
use Rattle.wm_ended.specs.declared.status.Status.TheVariants as status
use Rattle.wm_faults.specs.Faults.{Failed, HasCause}
use Rattle.wm_keeper.proofs.Stores.{GoesOn-same, GoesOn-then, IsAtMost-then}
use Rattle.wm_keeper.specs.Store.{told_before, IsAtMost, Store}
use Rattle.wm_keeper.specs.declared.row.Row.{Row}
use Rattle.wm_live.specs.Live.{is_for_keeper, IsEndFor, LiveCause}
use Rattle.wm_live_program.specs.Driven.{IsDriven}
use Rattle.wm_live_program.specs.Ended.{HasEnded, IsWritten}
use Rattle.wm_live_program.specs.declared.ended.LiveEnded.{LiveEnded}
use Rattle.wm_machine.specs.Opened.{Opened}
use Rattle.wm_machine.specs.declared.state.Instance.{Instance}
use Rattle.wm_rows.specs.Sound.{AreSound}
use Rattle.wm_seating.specs.Hands.{instances_from}
use Rattle.wm_engine.specs.Inputs.{Inputs}
use Rattle.wm_engine.specs.Rows.{HoldsRowsOf}
use Rattle.wm_engine.specs.declared.trouble.Trouble.TheVariants as trouble

-- ---- where a table was begun

module _ {K W B : Type 0} (tells : Tells K W B) (run : Inputs) (step : ℕ) (asks : List Ask) (hands : List (Hand B)) (rows : List Row)
    (instances : List Instance) (roll : TableId) (keeper begun : K) (sink : W) (ended : LiveEnded K W B)
    (given : IsGiven run (tells.store keeper) rows instances roll) (are : instances ≡ instances_from tells.kind_of 0 hands)
    (sound : AreSound run.rows) (no_fault : (tells.store begun).faults ≡ run.store.faults)
    (driven : IsDriven tells.store step asks ended.end) (cause : LiveCause tells.store begun ended.end)
    (held : HoldsRowsOf ended.end.table.last (tells.store ended.end.table.keeper)) (of_run : IsEndFor run tells.store ended.end)
    (session : IsSessionStatus ended.status) (bytes : IsWritten (tells.given sink) (tells.given ended.sink) ended.status ended.end.text.items)
    (all_asked : ended.status ≡ status.Done → ended.end.trouble ≡ None)
    (met : ended.status ≡ status.KeeperFault → ended.end.trouble ≡ Some trouble.KeeperFault)
    (failed : ended.status ≡ status.SinkFault → Failed (tells.sink_faults sink) (tells.sink_faults ended.sink)) where
  opened_is : IsOpenedFrom (Some rows) (instances_from tells.kind_of 0 hands) ended.end.table.first
  opened_is = record {
    rows = rows;
    told = refl;
    opened = subst (λ all. Opened rows all ended.end.table.first) (sym given.instances_are ∙ are)
        (subst (λ all. Opened all run.instances ended.end.table.first) (sym given.rows_are) of_run.opened);
  }

  keeper_failed : ended.status ≡ status.KeeperFault → Failed (tells.store keeper).faults (tells.store ended.end.table.keeper).faults
  keeper_failed is =
      let now = (tells.store ended.end.table.keeper).faults in
      subst (λ n. Failed n now) (no_fault ∙ sym given.faults)
      (subst (λ why. HasCause (is_for_keeper why) (tells.store begun).faults now) (met is) cause)

  pub live-begun : HasEnded tells step asks hands (tells.store keeper).name (Some rows) keeper sink ended
  live-begun = record {
    opened = opened_is;
    driven = driven;
    all_asked = all_asked;
    rows = held;
    store_is = subst (λ name. IsAtMost name (tells.store ended.end.table.keeper).name) (sym given.name) of_run.tells_on.name;
    bytes = bytes;
    status_is = session;
    causes = caused-session tells rows keeper ended.end.table.keeper sink ended.sink ended.status session (subst AreSound (sym given.rows_are) sound)
        keeper_failed failed;
    goes_on = GoesOn-then (tells.store keeper) run.store (tells.store ended.end.table.keeper)
        (GoesOn-same (tells.store keeper) run.store (sym given.told) (λ image left. (given.images image).1 left) (sym given.lost)) of_run.tells_on.goes_on;
  }

-- ---- over rows that were loaded

-- what ended over the rows that were loaded did so over those of the keeper as it was before
pub ended-loaded : {K W B : Type 0} (tells : Tells K W B) (step : ℕ) (asks : List Ask) (hands : List (Hand B)) (name : List ℕ) (rows : List Row)
    (keeper loaded : K) (sink : W) (came : Result (LiveEnded K W B) (NotBegun K W B))
    → HasLoaded name rows (tells.store keeper) (tells.store loaded)
    → IfOk came (HasEnded tells step asks hands (tells.store loaded).name (Some rows) loaded sink)
    → IfOk came (λ ended. HasEnded tells step asks hands (Some name) (told_before (tells.store keeper).rows (tells.store ended.end.table.keeper).rows) keeper
    sink ended)
ended-loaded tells step asks hands name rows keeper loaded sink (Err back) load is = tt
ended-loaded tells step asks hands name rows keeper loaded sink (Ok ended) load is =
    let now = ended.end.table.keeper in
    record {
      opened = opened_told (told_to_end tells.store name rows keeper loaded now load is.goes_on) is.opened;
      driven = is.driven;
      all_asked = is.all_asked;
      rows = is.rows;
      store_is = IsAtMost-then (Some name) (tells.store loaded).name (tells.store now).name load.named is.store_is;
      bytes = is.bytes;
      status_is = is.status_is;
      causes = caused-loaded tells name rows keeper loaded now sink ended.sink ended.status load is.goes_on is.causes;
      goes_on = goes_on-loaded tells.store name rows keeper loaded now load is.goes_on;
    }

-- and so where none was begun
pub unbegun-loaded : {K W B : Type 0} (store : K → Store) (instances : List Instance) (hands : List (Hand B)) (name : List ℕ) (rows : List Row)
    (keeper loaded : K) (sink : W) (came : Result (LiveEnded K W B) (NotBegun K W B))
    → HasLoaded name rows (store keeper) (store loaded) → IfErr came (IsNotBegun store instances hands (Some rows) loaded sink)
    → IfErr came (λ back. IsNotBegun store instances hands (told_before (store keeper).rows (store back.keeper).rows) keeper sink back)
unbegun-loaded store instances hands name rows keeper loaded sink (Ok ended) load is = tt
unbegun-loaded store instances hands name rows keeper loaded sink (Err back) load is =
    not_begun-loaded store instances hands name rows keeper loaded sink back load is
