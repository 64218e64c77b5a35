-- What is over of a table that was begun, of one that wasn't, and of rows that were loaded.
use Rattle.std.proofs.Common.{◌≡◌, ℕ, Bool, true, false, List, Option, Some, IfSome, refl, sym, ◌∙◌, ap, subst}
use Rattle.wm_beginning.proofs.Unbegun.{caused-early, caused-loaded, caused-session, early-done, goes_on-loaded, left_told, opening-loaded, told_to_end}
use Rattle.wm_beginning.proofs.Unread.{IsTextWritten-nothing}
use Rattle.wm_beginning.specs.Begun.{AreInputs}
use Rattle.wm_beginning.specs.Loading.{HasLoaded, MayBegin}
use Rattle.wm_beginning.specs.NotBegun.{EarlyCause, IsNotBegun}
use Rattle.wm_beginning.specs.Over.{AreHandsOf, AreRowsKept, HasNotBegun, HasReplayed, IsBegunBy, IsOpenedFrom, IsReplayed, IsRunOver, IsTableOver}
use Rattle.wm_beginning.specs.declared.loading.Loaded.{Loaded}
use Rattle.wm_bench.specs.declared.hand.Hand.{Hand}
use Rattle.wm_ended.specs.Ended.{IsSessionStatus, IsTextWritten, IsUnbegun}
use Rattle.wm_ended.specs.Tells.{Tells}
use Rattle.wm_ended.specs.declared.ended.Ended.{Ended}
use Rattle.wm_ended.specs.declared.not_begun.NotBegun.{NotBegun}
use Rattle.wm_ended.specs.declared.status.Status.{Status}
use Rattle.wm_ended.specs.declared.status.Status.TheVariants as status
use Rattle.wm_faults.specs.Faults.{Failed}
use Rattle.wm_keeper.proofs.Stores.{GoesOn-same, GoesOn-then, IsAtMost-then}
use Rattle.wm_keeper.specs.Store.{Store, told_before, GoesOn, IsAtMost}
use Rattle.wm_keeper.specs.declared.row.Row.{Row}
use Rattle.wm_machine.specs.Opened.{Opened}
use Rattle.wm_machine.specs.declared.command.Command.{Command}
use Rattle.wm_machine.specs.declared.event.Event.{Event}
use Rattle.wm_machine.specs.declared.state.Instance.{Instance}
use Rattle.wm_machine.specs.declared.state.State.{State}
use Rattle.wm_rows.specs.Sound.{AreSound}
use Rattle.wm_seating.specs.Hands.{instances_from}
use Rattle.wm_engine.specs.Inputs.{Inputs}

session_begun : (ended : Status) (began : Bool) → IsSessionStatus ended → began ≡ true → IsBegunBy ended began
session_begun status.Done began session is = is
session_begun status.SinkFault began session is = is
session_begun status.KeeperFault began session is = tt
session_begun status.Memory began session is = tt
session_begun status.Usage began session is = absurd session
session_begun status.SourceFault began session is = absurd session
session_begun (status.ScriptTooLong limit) began session is = absurd session
session_begun (status.BadStore seq bad_row) began session is = absurd session

early_begun : (ended : Status) (before now : ℕ) (held : Option (List Row)) (began : Bool) → EarlyCause ended before now held → began ≡ false → IsBegunBy ended began
early_begun status.Memory before now held began cause is = tt
early_begun status.KeeperFault before now held began cause is = tt
early_begun (status.BadStore seq bad_row) before now held began cause is = is
early_begun status.Done before now held began cause is = absurd cause
early_begun status.SinkFault before now held began cause is = absurd cause
early_begun status.Usage before now held began cause is = absurd cause
early_begun status.SourceFault before now held began cause is = absurd cause
early_begun (status.ScriptTooLong limit) before now held began cause is = absurd cause

-- a table that was begun and is over ends what it was begun for
pub IsRunOver-begun : {K W B : Type 0} (tells : Tells K W B) (run : Inputs) (loaded : Loaded K W B) (lines : List Command) (ended : Ended K W B)
    → IsTableOver tells run ended → AreInputs tells run loaded lines → MayBegin tells.store tells.kind_of loaded → AreSound run.rows
    → IsRunOver tells loaded.hands.items (tells.store loaded.keeper).name (Some run.rows) (Some run.rows) loaded.keeper loaded.sink ended
IsRunOver-begun tells run loaded lines ended over inputs may sound =
    let hands = loaded.hands.items in
    let keeper = loaded.keeper in
    let given = inputs.given in
    let instances = instances_from tells.kind_of 0 hands in
    let replayed : HasReplayed (Some run.rows) instances ended.first ended.log ended.last = record {
      opened = record {
        rows = run.rows;
        told = refl;
        opened = subst (λ all. Opened run.rows all ended.first) (sym given.instances_are ∙ may.instances) over.opened;
      };
      replay = over.replay;
    } in
    let is_replayed : IsReplayed (Some run.rows) instances ended.began ended.first ended.log ended.last =
    subst (λ began. IsReplayed (Some run.rows) instances began ended.first ended.log ended.last) (sym over.began) replayed in
    record {
      replay = is_replayed;
      replay_left = λ image left. is_replayed;
      begun = session_begun ended.status ended.began over.status_is over.began;
      at_opening = rw over.began over.at_opening;
      not_begun_keeps = λ unbegun. let clash : true ≡ false = sym over.began ∙ unbegun in absurd (cc);
      rows = subst (λ began. AreRowsKept began ended.last (tells.store keeper) (tells.store ended.keeper)) (sym over.began) over.rows;
      store_is = λ began. subst (λ n. IsAtMost n (tells.store ended.keeper).name) (sym given.name) over.tells_on.name;
      bytes = subst (λ before. IsTextWritten before (tells.given ended.sink) ended.status ended.first ended.log) (sym inputs.written) over.bytes;
      end = over.quiet;
      hands_back = subst (λ began. AreHandsOf tells.kind_of began ended.last hands ended.hands.items) (sym over.began) over.hands;
      causes = caused-session tells run.rows keeper ended.keeper loaded.sink ended.sink ended.status over.status_is sound
          (λ is. subst (λ n. Failed n (tells.store ended.keeper).faults) (sym given.faults) (over.keeper_fault is))
          (λ is. subst (λ n. Failed n (tells.sink_faults ended.sink)) (sym inputs.sink_faults) (over.sink_fault is));
      goes_on = GoesOn-then (tells.store keeper) run.store (tells.store ended.keeper)
          (GoesOn-same (tells.store keeper) run.store (sym given.told) (λ image left. (given.images image).1 left) (sym given.lost))
          over.tells_on.goes_on;
    }

-- what ended before its table was begun, with its keeper as it was told before
pub IsRunOver-unbegun : {K W B : Type 0} (tells : Tells K W B) (hands : List (Hand B)) (name : Option (List ℕ)) (held before : Option (List Row)) (keeper : K)
    (sink : W) (back : NotBegun K W B) (ended : Ended K W B)
    → IsUnbegun back.status back.at_opening back.keeper back.sink back.hands ended
    → IsNotBegun tells.store (instances_from tells.kind_of 0 hands) hands held keeper sink back
    → IsRunOver tells hands name held before keeper sink ended
IsRunOver-unbegun tells hands name held before keeper sink back ended unbegun is =
    let instances = instances_from tells.kind_of 0 hands in
    let nothing : HasNotBegun ended.first ended.log ended.last = record { first_is = unbegun.first; last_is = unbegun.last; no_event = unbegun.log } in
    let sink_is : ended.sink ≡ sink = unbegun.sink_is ∙ is.sink_is in
    let done : ended.status ≡ status.Done → ⊥ =
    λ done. early-done back.status (tells.store keeper).faults (tells.store back.keeper).faults held is.cause (sym unbegun.status_is ∙ done) in
    record {
      replay = subst (λ began. IsReplayed held instances began ended.first ended.log ended.last) (sym unbegun.began) nothing;
      replay_left = λ image left. subst (λ began. IsReplayed before instances began ended.first ended.log ended.last) (sym unbegun.began) nothing;
      begun = rw unbegun.status_is (early_begun back.status (tells.store keeper).faults (tells.store back.keeper).faults held ended.began is.cause unbegun.began);
      at_opening = rw (unbegun.began, unbegun.opening, unbegun.status_is, unbegun.keeper_is) is.at_opening;
      not_begun_keeps = λ same. sink_is;
      rows = rw (unbegun.began, unbegun.keeper_is) is.rows;
      store_is = λ began. let clash : true ≡ false = sym began ∙ unbegun.began in absurd (cc);
      bytes = IsTextWritten-nothing (tells.given sink) (tells.given ended.sink) ended.status ended.first ended.log (ap tells.given sink_is) unbegun.log;
      end = λ is_done. absurd (done is_done);
      hands_back = subst (λ began. AreHandsOf tells.kind_of began ended.last hands ended.hands.items) (sym unbegun.began)
          (ap (λ v. v.items) unbegun.hands_are ∙ is.hands_back);
      causes = rw (unbegun.status_is, unbegun.keeper_is) (caused-early tells held keeper back.keeper sink ended.sink back.status is.cause);
      goes_on = subst (λ keeper_is. GoesOn (tells.store keeper) (tells.store keeper_is)) (sym unbegun.keeper_is) is.goes_on;
    }

-- ---- rows that were loaded

pub opened_told : {held : Option (List Row)} {rows : List Row} {instances : List Instance} {first : State} → IfSome held (λ kept. rows ≡ kept)
    → IsOpenedFrom (Some rows) instances first → IsOpenedFrom held instances first
opened_told {held} told is =
    record { rows = is.rows; told = subst (λ all. IfSome held (λ kept. all ≡ kept)) (sym is.told) told; opened = is.opened }

replayed_told : (began : Bool) (held : Option (List Row)) (rows : List Row) (instances : List Instance) (first : State) (log : List Event) (last : State)
    → IfSome held (λ kept. rows ≡ kept) → IsReplayed (Some rows) instances began first log last → IsReplayed held instances began first log last
replayed_told true held rows instances first log last told is = record { opened = opened_told told is.opened; replay = is.replay }
replayed_told false held rows instances first log last told is = is

kept_loaded : (began : Bool) (last : State) (before loaded now : Store) → IsAtMost before.rows loaded.rows → AreRowsKept began last loaded now
    → AreRowsKept began last before now
kept_loaded true last before loaded now same kept = kept
kept_loaded false last before loaded now same kept = IsAtMost-then before.rows loaded.rows now.rows same kept

-- what is over that went over the rows that were loaded is so for the keeper as it was before
pub IsRunOver-loaded : {K W B : Type 0} (tells : Tells K W B) (hands : List (Hand B)) (name : List ℕ) (rows : List Row) (keeper loaded : K) (sink : W)
    (ended : Ended K W B)
    → IsRunOver tells hands (tells.store loaded).name (Some rows) (Some rows) loaded sink ended → HasLoaded name rows (tells.store keeper) (tells.store loaded)
    → IsRunOver tells hands (Some name) (told_before (tells.store keeper).rows (tells.store ended.keeper).rows) (tells.store keeper).rows keeper sink ended
IsRunOver-loaded tells hands name rows keeper loaded sink ended is load =
    let before = (tells.store keeper).rows in
    let last = (tells.store ended.keeper).rows in
    let held = told_before before last in
    let instances = instances_from tells.kind_of 0 hands in
    record {
      replay = replayed_told ended.began held rows _ ended.first ended.log ended.last
          (told_to_end tells.store name rows keeper loaded ended.keeper load is.goes_on) is.replay;
      replay_left = λ image left.
          replayed_told ended.began before rows _ ended.first ended.log ended.last
          (left_told tells.store name rows image keeper loaded ended.keeper load is.goes_on left) is.replay;
      begun = is.begun;
      at_opening = opening-loaded tells.store name rows keeper loaded ended.keeper load is.goes_on ended.began ended.at_opening ended.status instances is.at_opening;
      not_begun_keeps = is.not_begun_keeps;
      rows = kept_loaded ended.began ended.last (tells.store keeper) (tells.store loaded) (tells.store ended.keeper) load.kept.rows is.rows;
      store_is = λ began. IsAtMost-then (Some name) (tells.store loaded).name (tells.store ended.keeper).name load.named (is.store_is began);
      bytes = is.bytes;
      end = is.end;
      hands_back = is.hands_back;
      causes = caused-loaded tells name rows keeper loaded ended.keeper sink ended.sink ended.status load is.goes_on is.causes;
      goes_on = goes_on-loaded tells.store name rows keeper loaded ended.keeper load is.goes_on;
    }
