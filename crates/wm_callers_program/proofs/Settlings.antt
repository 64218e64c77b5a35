-- What is refused by the end of a drain, where a call was refused before and where none was.
use Rattle.std.proofs.Common.{◌≡◌, ℕ, [], Some, None, Err, refl, sym, inl, inr}
use Rattle.std.proofs.lemmas.List.{append-nil}
use Rattle.wm_callers_program.specs.Drained.{IsSettled}
use Rattle.wm_faults.specs.Faults.{Failed}
use Rattle.wm_keeper.specs.Store.{Store}
use Rattle.wm_live.specs.Drained.{HasSettled, HasStopped}
use Rattle.wm_live.specs.StandState.{StandState}
use Rattle.wm_seating.specs.Idle.{IsIdle}
use Rattle.wm_engine.specs.Calls.{TroubleCause}
use Rattle.wm_engine.specs.declared.trouble.Trouble.{Trouble}
use Rattle.wm_engine.specs.declared.trouble.Trouble.TheVariants.{KeeperFault, Memory}
use Rattle.wm_worker.specs.declared.kind.Kind.{Kind}

-- a call was refused, so nothing was drained
pub settled-refused : {K B : Type 0} (store : K → Store) (kind_of : B → Kind) (trouble : Trouble) (stand : StandState K B)
    → IsIdle kind_of stand.table stand.places → IsSettled store kind_of (Some trouble) (Some trouble) stand stand
settled-refused store kind_of trouble stand idle = record {
  gone_on = record {
    events = [];
    appended = sym (append-nil stand.table.log);
    silent = refl;
    none_out = idle.none_out;
    back = record { workers = idle.workers; none_away = idle.none_away };
  };
  quiet = λ none. absurd cc;
  fault = λ is. inl (is, refl);
}

-- nothing is left to do
pub settled-quiet : {K B : Type 0} (store : K → Store) (kind_of : B → Kind) (old new : StandState K B) → HasSettled kind_of old new
    → IsSettled store kind_of None None old new
settled-quiet store kind_of old new is = record {
  gone_on = record {
    events = is.drained.events;
    appended = is.drained.appended;
    silent = is.drained.goes.silent;
    none_out = is.rest.idle.none_out;
    back = record { workers = is.rest.idle.workers; none_away = is.rest.idle.none_away };
  };
  quiet = λ none. (refl, is.quiet);
  fault = λ same. absurd cc;
}

keeper-failed : (trouble : Trouble) (before now : ℕ) → TroubleCause {T = Unit {0}} (Err trouble) before now → Some trouble ≡ Some KeeperFault → Failed before now
keeper-failed KeeperFault before now cause is = cause
keeper-failed Memory before now cause is = absurd cc

-- there was trouble in the drain
pub settled-stopped : {K B : Type 0} (store : K → Store) (kind_of : B → Kind) (trouble : Trouble) (old new : StandState K B)
    → HasStopped kind_of trouble old new
    → TroubleCause {T = Unit {0}} (Err trouble) (store old.table.keeper).faults (store new.table.keeper).faults
    → IsSettled store kind_of None (Some trouble) old new
settled-stopped store kind_of trouble old new is cause = record {
  gone_on = record { events = is.events; appended = is.appended; silent = is.goes.silent; none_out = is.none_out; back = is.back };
  quiet = λ none. absurd cc;
  fault = λ same. inr (keeper-failed trouble (store old.table.keeper).faults (store new.table.keeper).faults cause same);
}
